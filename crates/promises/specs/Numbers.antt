-- The numbers of a formatting of two, in their order: one table. Assumes nothing.
use Rattle.std.specs.Prelude.{◌≡◌, refl, List, [], ◌∷◌, map, ℕ}
use Rattle.octets.specs.Tests.{first_of}
use Rattle.formatting.specs.declared.measures.Half.{Half}
use Rattle.formatting.specs.Formatting.{half, format_steps}

-- what it is given, the lengths of directory and value slice, and the number that it must give
pub record Ask : Type 0 where
  pub first : Half
  pub second : Half
  pub directory : ℕ
  pub values : ℕ
  pub want : ℕ

abbrev pub ask : Half → Half → ℕ → ℕ → ℕ → Ask
ask h k d v n = record { first = h; second = k; directory = d; values = v; want = n }

abbrev pub number_of : Ask → ℕ
number_of a = first_of (format_steps (a.first ∷ a.second ∷ []) a.directory a.values)

-- formats of 16 keys, which need 64 + 32 * 32 bytes; each row has all faults of the rows below it, but for the last two, which have none
abbrev pub asks : List Ask
asks =
    ask (half 16 0 0) (half 16 0 0) 0 0 3
    ∷ ask (half 15 0 0) (half 16 0 0) 0 0 4
    ∷ ask (half 15 9 0) (half 16 0 0) 0 0 5
    ∷ ask (half 15 9 65536) (half 16 0 0) 0 0 3
    ∷ ask (half 15 9 65536) (half 15 0xffff_ffff 0) 0 0 4
    ∷ ask (half 15 9 65536) (half 15 9 0xffff_ffff_ffff_ffff) 0 0 5
    ∷ ask (half 15 9 65536) (half 15 9 65536) 0 0 19
    ∷ ask (half 15 9 65536) (half 15 8 65536) 0 0 5
    ∷ ask (half 15 9 65535) (half 15 8 1) 1087 65536 6
    ∷ ask (half 15 9 65535) (half 15 8 1) 1088 65535 6
    ∷ ask (half 15 9 65535) (half 15 8 1) 1088 65536 0
    ∷ ask (half 15 9 1) (half 15 8 1) 1088 2 0
    ∷ []

pub numbers : map number_of asks ≡ map (λ (a : Ask). a.want) asks
unfolding format_steps
numbers = refl
