-- The Identify page of a namespace, 4096 bytes, and how a host reads it; and the 512 bytes of fields from which a host has a namespace created.
-- Assumes nothing.
use Rattle.std.specs.Prelude.{cond, not, ◌||◌, List, [], ◌∷◌, ◌++◌, ℕ, zero, suc, ◌+◌, ◌-◌, ◌*◌, ◌%◌, leb, ltb, eqb, length, get_or}
use Rattle.octets.specs.Octets.{part, number, bytes, zeros, filled}
use Rattle.octets.specs.Tests.{Row, row}
use Rattle.sheets.specs.declared.identify.Limits.{Limits}

-- ---- the page

-- a format's 16 bytes: key max 0-1, value max 4-7, max keys 8-11
unfoldable pub descriptor : Limits → List ℕ
descriptor l = bytes 2 l.keymax ++ zeros 2 ++ bytes 4 l.valuemax ++ bytes 4 l.maxkeys ++ zeros 4

-- those of the formats 0 to n - 1
abbrev pub descriptors : (ℕ → Limits) → ℕ → List ℕ
descriptors f zero = []
descriptors f (suc n) = descriptors f n ++ descriptor (f n)

-- the 72 bytes before them: size 0-7, used room 16-23, the number of formats less one 25, the format index in bits 3:0 of 29
unfoldable pub front : ℕ → ℕ → ℕ → ℕ → List ℕ
front size used n index = bytes 8 size ++ zeros 8 ++ bytes 8 used ++ (0 ∷ (n - 1) ∷ 0 ∷ 0 ∷ 0 ∷ (index % 16) ∷ zeros 42)

-- of n formats with the limits f, and zeros behind them
unfoldable pub identify_page : ℕ → ℕ → ℕ → (ℕ → Limits) → ℕ → List ℕ
identify_page size used index f n = filled 4096 (front size used n index ++ descriptors f n)

-- house number 14, of a page and of fields
abbrev pub not_page : List ℕ → Row
not_page p = row (not (eqb (length p) 4096)) 14

abbrev pub not_fields : List ℕ → Row
not_fields s = row (not (eqb (length s) 512)) 14

-- ---- reading

abbrev pub size_in : List ℕ → ℕ
size_in p = number (part 0 8 p)

abbrev pub used_in : List ℕ → ℕ
used_in p = number (part 16 8 p)

abbrev pub formats_in : List ℕ → ℕ
formats_in p = get_or p 25 0 + 1

abbrev pub index_in : List ℕ → ℕ
index_in p = get_or p 29 0 % 16

unfoldable pub limits_in : List ℕ → Limits
limits_in s = record { keymax = number (part 0 2 s); valuemax = number (part 4 4 s); maxkeys = number (part 8 4 s) }

abbrev pub no_limits : Limits
no_limits = record { keymax = 0; valuemax = 0; maxkeys = 0 }

-- of the format o; zeros where the page has fewer formats, or where the descriptor would lie past its end
unfoldable pub limits_at : List ℕ → ℕ → Limits
limits_at p o = cond (leb (formats_in p) o || ltb (length p) (88 + 16 * o)) no_limits (limits_in (part (72 + 16 * o) 16 p))

-- ---- the fields: size 0-7, the format index in bits 3:0 of 31

abbrev pub asked_index : List ℕ → ℕ
asked_index s = get_or s 31 0 % 16

abbrev pub asked_size : List ℕ → ℕ
asked_size s = number (part 0 8 s)
