-- The calls of two farms, mixed in whatever way: what each farm's calls hand back, and what all of them leave. Assumes nothing.
use Rattle.std.specs.Prelude.{◌≡◌, true, cond, List, [], ◌∷◌, ◌++◌, ℕ}
use Rattle.memory.specs.Memory.{Memory, legal}
use Rattle.module.specs.History.{Call}
use Rattle.farms.specs.Sides.{Device, next}
use Rattle.readers.specs.Orders.{Given, given, named}

-- the third are the first and the second, each in its own order
pub data Mixed : List Call → List Call → List Call → Type 0 where
  ended : Mixed [] [] []
  one : {x : Call} {xs ys zs : List Call} → Mixed xs ys zs → Mixed (x ∷ xs) ys (x ∷ zs)
  other : {y : Call} {xs ys zs : List Call} → Mixed xs ys zs → Mixed xs (y ∷ ys) (y ∷ zs)

-- each of the calls names n
abbrev pub Only : ℕ → List Call → Type 0
Only n [] = Unit {0}
Only n (x ∷ xs) = (named n x ≡ true) × Only n xs

-- the memory that calls leave
abbrev pub goes : Device → Memory → List Call → Memory
goes d m [] = m
goes d m (x ∷ xs) = goes d (next d m x) xs

-- what those that name n hand back, in their order, all calls being made
abbrev pub shown : Device → ℕ → Memory → List Call → List Given
shown d n m [] = []
shown d n m (x ∷ xs) = cond (named n x) (given d m x ∷ []) [] ++ shown d n (next d m x) xs

-- zs and ws hand back the same to i, the same to j, and leave the same
pub record Alike (d : Device) (i j : ℕ) (m : Memory) (zs ws : List Call) : Type 0 where
  pub one : shown d i m zs ≡ shown d i m ws
  pub other : shown d j m zs ≡ shown d j m ws
  pub left : goes d m zs ≡ goes d m ws

abbrev pub Mixes : Device → Type 0
Mixes d =
    (m : Memory) (i j : ℕ) (xs ys zs ws : List Call) → legal m ≡ true → ¬ (i ≡ j) → Only i xs → Only j ys → Mixed xs ys zs → Mixed xs ys ws
    → Alike d i j m zs ws

-- what it leans on besides: a call leaves legal memory legal
abbrev pub Keeps : Device → Type 0
Keeps d = (m : Memory) (x : Call) → legal m ≡ true → legal (next d m x) ≡ true
