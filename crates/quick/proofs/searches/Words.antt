-- The words of the record at an index, as they are read one by one. Assumes nothing.
use mathlib.Core.Path.{◌≡◌, ◌∙◌}
use mathlib.Core.List.{List}
use Prim.Native.Nat.{ℕ, ◌+◌, ◌≤◌, ◌<◌}
use native.Mathlib.Nat.{add-zero}
use native.Mathlib.Omega.{arith}
use lib.ListN.{drop}
use Rattle.octets.specs.Octets.{part, number}
use Rattle.octets.proofs.PartLaws.{part_drop, part_inside}
use Rattle.std.specs.Ordering.{nat_cmp}
use Rattle.std.specs.declared.cmp.Ordering.TheVariants.{Less, Equal, Greater}
use Rattle.keys.proofs.OrderLaws.{cmp_is}
use Rattle.keys.specs.Keys.{big, wide_of}
use Rattle.store.specs.Records.{wide_in}

pub words_at : (at : ℕ) (s : List ℕ)
    → wide_in (drop at s) ≡ record { high = big (part at 8 s); low = big (part (at + 8) 8 s); len = number (part (at + 16) 4 s) }
unfolding wide_of
words_at at s =
    let d = drop at s in
    let h = part_inside 0 16 0 8 d (omega arith) ∙ part_drop at 0 8 s in
    let l = part_inside 0 16 8 8 d (omega arith) ∙ part_drop at 8 8 s in
    rw (h, l, part_drop at 16 4 s, add-zero at)

pub less : (m n : ℕ) → m < n → nat_cmp m n ≡ Less
less m n = cmp_is m n Less

pub same : (m n : ℕ) → m ≤ n → n ≤ m → nat_cmp m n ≡ Equal
same m n h k = cmp_is m n Equal (omega arith)

pub greater : (m n : ℕ) → n < m → nat_cmp m n ≡ Greater
greater m n = cmp_is m n Greater

pub ruleset word_laws = (words_at, less, same, greater)
