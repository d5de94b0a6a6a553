-- Bytes as a line of lower-case hex digits. Assumes nothing.
use Rattle.std.specs.Prelude.{cond, List, [], ◌∷◌, ◌++◌, ℕ, ◌+◌, ◌/◌, ◌%◌, ltb}

-- the ASCII code of a digit below 16: 0 to 9, then a to f
abbrev pub digit : ℕ → ℕ
digit n = cond (ltb n 10) (48 + n) (87 + n)

abbrev pub hex_byte : ℕ → List ℕ
hex_byte b = digit (b / 16) ∷ digit (b % 16) ∷ []

abbrev pub hex_of : List ℕ → List ℕ
hex_of [] = []
hex_of (b ∷ bs) = hex_byte b ++ hex_of bs

unfoldable pub line : List ℕ → List ℕ
line bs = hex_of bs ++ (10 ∷ [])
