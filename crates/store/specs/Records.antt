-- The two parts of a namespace, and what stands in any bytes. The arrangement is the team's:
-- record, 32 bytes: key 0-15 with zeros behind it, key length 16-19, place 20-23 and length 24-27 of the value, namespace id 28-31.
-- Records stand in key order from slot 0, values in the same order with nothing between them, zeros behind both; a place counts from
-- the start of the values part. Assumes nothing.
use Rattle.std.specs.Prelude.{ℕ, zero, suc, ◌+◌, List, [], ◌∷◌, ◌++◌, length, take, drop}
use Rattle.keys.specs.declared.orders.Wide.{Wide}
use Rattle.octets.specs.Octets.{part, number, bytes, filled}
use Rattle.keys.specs.Keys.{wide_of}
use Rattle.store.specs.declared.records.Record.{Record}
use Rattle.store.specs.Maps.{Pair, pair, values}

-- ---- the image of pairs

-- the value begins at place `at`
unfoldable pub record_of : ℕ → ℕ → Pair → List ℕ
record_of id at p = filled 16 p.key ++ bytes 4 (length p.key) ++ bytes 4 at ++ bytes 4 (length p.value) ++ bytes 4 id

abbrev pub records_of : ℕ → ℕ → List Pair → List ℕ
records_of id at [] = []
records_of id at (p ∷ m) = record_of id at p ++ records_of id (at + length p.value) m

-- the parts, of n bytes each
unfoldable pub records_part : ℕ → ℕ → List Pair → List ℕ
records_part id n m = filled n (records_of id 0 m)

unfoldable pub values_part : ℕ → List Pair → List ℕ
values_part n m = filled n (values m)

-- ---- what stands in any bytes, asking nothing

-- the fields of the record at the front of s
abbrev pub key_length : List ℕ → ℕ
key_length s = number (part 16 4 s)

abbrev pub place : List ℕ → ℕ
place s = number (part 20 4 s)

abbrev pub value_length : List ℕ → ℕ
value_length s = number (part 24 4 s)

abbrev pub owner : List ℕ → ℕ
owner s = number (part 28 4 s)

-- its key as numbers
abbrev pub wide_in : List ℕ → Wide
wide_in s = wide_of (part 0 16 s) (key_length s)

-- all that it says
abbrev pub slot_in : List ℕ → Record
slot_in s = record { key = wide_in s; key_length = key_length s; place = place s; value_length = value_length s; owner = owner s }

-- its value among the values vs
abbrev pub value_in : List ℕ → List ℕ → List ℕ
value_in s vs = part (place s) (value_length s) vs

-- n pairs, their values taken one behind the other
abbrev pub pairs_in : ℕ → List ℕ → List ℕ → List Pair
pairs_in zero s vs = []
pairs_in (suc n) s vs = pair (take (key_length s) s) (take (value_length s) vs) ∷ pairs_in n (drop 32 s) (drop (value_length s) vs)
