-- A finite map from keys to values: its pairs, in rising key order. So one map is one list. Assumes nothing.
use Rattle.std.specs.Prelude.{ℕ, ◌+◌, Bool, true, false, cond, List, [], ◌∷◌, ◌++◌, length}
use Rattle.std.proofs.Math.Option.{Option, none, some, get_or}
use Rattle.keys.specs.Keys.{Key, order, three}

pub record Pair : Type 0 where
  pub key : Key
  pub value : List ℕ

abbrev pub pair : Key → List ℕ → Pair
pair k v = record { key = k; value = v }

abbrev pub keys : List Pair → List Key
keys [] = []
keys (p ∷ m) = p.key ∷ keys m

abbrev pub lookup : Key → List Pair → Option (List ℕ)
lookup k [] = none
lookup k (p ∷ m) = three (order k p.key) none (some p.value) (lookup k m)

-- set or replace
abbrev pub insert : Key → List ℕ → List Pair → List Pair
insert k v [] = pair k v ∷ []
insert k v (p ∷ m) = three (order k p.key) (pair k v ∷ p ∷ m) (pair k v ∷ m) (p ∷ insert k v m)

abbrev pub erase : Key → List Pair → List Pair
erase k [] = []
erase k (p ∷ m) = three (order k p.key) (p ∷ m) m (p ∷ erase k m)

abbrev pub is_some : Option (List ℕ) → Bool
is_some none = false
is_some (some v) = true

abbrev pub present : Key → List Pair → Bool
present k m = is_some (lookup k m)

-- the value held under k
abbrev pub value_of : Key → List Pair → List ℕ
value_of k m = get_or (lookup k m) []

-- used room: the bytes of all keys and of all values
abbrev pub used : List Pair → ℕ
used [] = 0
used (p ∷ m) = length p.key + length p.value + used m

-- the room of the pair that k holds, none where k is absent
abbrev pub held_room : Key → List Pair → ℕ
held_room k m = cond (present k m) (length k + length (value_of k m)) 0

-- the values one behind the other
abbrev pub values : List Pair → List ℕ
values [] = []
values (p ∷ m) = p.value ++ values m
