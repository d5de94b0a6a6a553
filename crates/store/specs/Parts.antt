-- What the store's functions work on: a records part and a values part that hold pairs. Assumes nothing.
use Rattle.std.specs.Prelude.{◌≡◌, ℕ, suc, ◌*◌, ◌^◌, ◌<◌, ◌≤◌, List, [], ◌∷◌, ◌++◌, length, take, drop}
use Rattle.store.specs.declared.namespaces.Label.{Label}
use Rattle.store.specs.Maps.{Pair, values}
use Rattle.store.specs.Namespace.{Namespace}
use Rattle.store.specs.Records.{records_part, values_part}

-- a namespace by its numbers and its pairs
abbrev pub labelled : Label → List Pair → Namespace
labelled h m = record { index = h.index; id = h.id; size = h.size; pairs = m }

-- lengths that the words of a record can say
abbrev pub Recorded : List Pair → Type 0
Recorded [] = Unit {0}
Recorded (p ∷ m) = (length p.key ≤ 16) × (length p.value < 2 ^ 32) × Recorded m

-- s, of n bytes, and vs, of l bytes, are the two parts of the image of m
pub record Holds (id n l : ℕ) (m : List Pair) (s vs : List ℕ) : Type 0 where
  pub recorded : Recorded m
  pub slots : 32 * length m ≤ n
  pub room : length (values m) ≤ l
  pub few : n ≤ 32768
  pub small : l ≤ 65536
  pub records : s ≡ records_part id n m
  pub values : vs ≡ values_part l m

-- a pair put in before the one at slot i, and the pair at slot i taken out
unfoldable pub inserted : ℕ → Pair → List Pair → List Pair
inserted i p m = take i m ++ p ∷ drop i m

unfoldable pub erased : ℕ → List Pair → List Pair
erased i m = take i m ++ drop (suc i) m
