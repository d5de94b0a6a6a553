-- Tables of tests: each of them holds; the first that holds names a number. Every limit and every refusal of document 01 is such
-- a table. Assumes nothing.
use Rattle.std.specs.Prelude.{Bool, true, cond, ◌&&◌, List, [], ◌∷◌, ℕ}

-- b and each of bs, from the left, as code joins tests
abbrev pub and : Bool → List Bool → Bool
and b [] = b
and b (c ∷ bs) = and (b && c) bs

abbrev pub all : List Bool → Bool
all [] = true
all (b ∷ bs) = and b bs

pub record Row : Type 0 where
  pub when : Bool
  pub number : ℕ

abbrev pub row : Bool → ℕ → Row
row b n = record { when = b; number = n }

-- the number of the first row whose test holds, else 0
abbrev pub first_of : List Row → ℕ
first_of [] = 0
first_of (r ∷ rs) = cond r.when r.number (first_of rs)
