-- A search by halves among slots of which it is told how the key that is looked for compares with each: three ways, and an end where it is
-- found. Assumes nothing.
use Rattle.std.specs.Prelude.{Bool, true, false, List, [], ◌∷◌, ℕ, zero, suc, ◌+◌, ◌-◌, ◌/◌, length, get_or}
use Rattle.std.specs.declared.cmp.Ordering.{Ordering}
use Rattle.keys.specs.Keys.{Key, order, three}

-- the slots that were looked at, in their order, and whether one of them has the key
pub record Search : Type 0 where
  pub slots : List ℕ
  pub known : Bool

abbrev pub nowhere : Search
nowhere = record { slots = []; known = false }

abbrev pub here : ℕ → Search
here j = record { slots = j ∷ []; known = true }

abbrev pub beyond : ℕ → Search → Search
beyond j s = record { slots = j ∷ s.slots; known = s.known }

-- among n slots from low on. No more than n can be looked at: the first number counts that down, so that the search is seen to end
abbrev pub search : ℕ → (ℕ → Ordering) → ℕ → ℕ → Search
search zero o low n = nowhere
search (suc g) o low zero = nowhere
search (suc g) o low (suc n) =
    let half = suc n / 2 in
    let middle = low + half in
    three (o middle) (beyond middle (search g o low half)) (here middle) (beyond middle (search g o (suc middle) (n - half)))

-- among keys in rising order
abbrev pub search_keys : Key → List Key → Search
search_keys k ks = search (length ks) (λ j. order k (get_or ks j [])) 0 (length ks)
