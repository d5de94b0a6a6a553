-- A formatting with the pairs stored under it, and its limits. Assumes nothing.
use Rattle.std.specs.Prelude.{ℕ, Bool, true, ◌||◌, List, [], ◌∷◌, length, ◌==◌, nat_le, nat_lt}
use Rattle.octets.specs.Tests.{all, Row, row, first_of}
use Rattle.keys.specs.Keys.{rising}
use Rattle.table.specs.Formats.{format_of}
use Rattle.store.specs.Maps.{Pair, keys, used}

pub record Namespace : Type 0 where
  pub index : ℕ
  pub id : ℕ
  pub size : ℕ
  pub pairs : List Pair

abbrev pub with_pairs : Namespace → List Pair → Namespace
with_pairs s m = record { index = s.index; id = s.id; size = s.size; pairs = m }

-- what a formatting leaves: the empty map
abbrev pub fresh : ℕ → ℕ → ℕ → Namespace
fresh i id n = record { index = i; id = id; size = n; pairs = [] }

-- numbers 3 to 5, of a format index, a namespace id of 32 bits and a size
abbrev pub permit_steps : ℕ → ℕ → ℕ → List Row
permit_steps i id n =
    row (nat_lt 15 i) 3
    ∷ row (id == 0 || nat_le 0xffff_ffff id) 4
    ∷ row (n == 0 || nat_lt 65536 n) 5
    ∷ []

-- each pair is one that Store admits: a key of 1 byte to the format's, a value of at most the format's
abbrev pub pair_tests : ℕ → Pair → Bool → List Bool
pair_tests i p rest =
    nat_le 1 (length p.key) ∷ nat_le (length p.key) (format_of i).keymax ∷ nat_le (length p.value) (format_of i).valuemax ∷ rest ∷ []

abbrev pub admitted : ℕ → List Pair → Bool
admitted i [] = true
admitted i (p ∷ m) = all (pair_tests i p (admitted i m))

-- a formatting that numbers 3 to 5 let pass, and a map within its limits
abbrev pub limits : Namespace → List Bool
limits s =
    (first_of (permit_steps s.index s.id s.size) == 0)
    ∷ rising (keys s.pairs)
    ∷ admitted s.index s.pairs
    ∷ nat_le (length s.pairs) (format_of s.index).maxkeys
    ∷ nat_le (used s.pairs) s.size
    ∷ []

unfoldable pub within : Namespace → Bool
within s = all (limits s)
