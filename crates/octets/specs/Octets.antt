-- Bytes as lists of numbers: a part of a list and what is put into it, little-endian numbers, zeros. Assumes nothing.
use Rattle.std.specs.Prelude.{ℕ, zero, suc, ◌+◌, ◌-◌, ◌*◌, ◌/◌, ◌%◌, Bool, true, false, ◌&&◌, List, [], ◌∷◌, ◌++◌, length, take, drop, replicate, eqb}

-- the n bytes of xs from index `from` on
unfoldable pub part : ℕ → ℕ → List ℕ → List ℕ
part from n xs = take n (drop from xs)

-- xs with vs in the place of its bytes from index `at` on
unfoldable pub put : ℕ → List ℕ → List ℕ → List ℕ
put at vs xs = take at xs ++ vs ++ drop (at + length vs) xs

-- the number whose bytes are xs, the lowest first
unfoldable pub number : List ℕ → ℕ
number [] = 0
number (x ∷ xs) = x + 256 * number xs

-- the k lowest bytes of n, the lowest first
abbrev pub bytes : ℕ → ℕ → List ℕ
bytes zero n = []
bytes (suc k) n = n % 256 ∷ bytes k (n / 256)

abbrev pub zeros : ℕ → List ℕ
zeros n = replicate n 0

-- xs, and zeros behind it up to n bytes
abbrev pub filled : ℕ → List ℕ → List ℕ
filled n xs = xs ++ zeros (n - length xs)

abbrev pub all_zero : List ℕ → Bool
all_zero [] = true
all_zero (x ∷ xs) = eqb x 0 && all_zero xs

-- whether xs and ys are the same bytes
abbrev pub same : List ℕ → List ℕ → Bool
same [] [] = true
same [] (y ∷ ys) = false
same (x ∷ xs) [] = false
same (x ∷ xs) (y ∷ ys) = eqb x y && same xs ys
