use mathlib.Core.Path.{◌≡◌}
use mathlib.Core.List.{List}
use Prim.Native.Nat.{ℕ, suc, ◌+◌, ◌-◌, ◌≤◌, ◌<◌}
use native.Mathlib.Numerals.{add-one}
use native.Mathlib.Omega.{arith}
use lib.ListN.{length, drop, get_or, drop_of_length-le}
use lib.Seq.{drop-cons}
use Rattle.std.specs.Ordering.{nat_cmp, ordering_then}
use Rattle.std.specs.declared.cmp.Ordering.TheVariants.{Less, Equal, Greater}
use Rattle.keys.specs.Keys.{order}
use Rattle.keys.proofs.OrderLaws.{cmp_is}
use Rattle.keys.proofs.orders.compare.Given as goal

-- the invariant of the loop that compares a and b: the bytes before i agree
pub record Agree (a b : List ℕ) (i : ℕ) : Type 0 where
  pub in_a : i ≤ length a
  pub in_b : i ≤ length b
  pub is : order (drop i a) (drop i b) ≡ order a b

module _ {a b : List ℕ} {i : ℕ} (g : Agree a b i) where
  pub agree_longer : i < length a → length b ≤ i → Greater ≡ order a b
  agree_longer h k = rw (drop-cons a i 0, drop_of_length-le b k) at g.is

  pub agree_shorter : length a ≤ i → i < length b → Less ≡ order a b
  agree_shorter h k = rw (drop_of_length-le a h, drop-cons b i 0) at g.is

  pub agree_same : length a ≤ i → length b ≤ i → Equal ≡ order a b
  agree_same h k = rw (drop_of_length-le a h, drop_of_length-le b k) at g.is

  module _ (h : i < length a) (k : i < length b) where
    first : ordering_then (nat_cmp (get_or a i 0) (get_or b i 0)) (order (drop (suc i) a) (drop (suc i) b)) ≡ order a b
    first = rw (drop-cons a i 0, drop-cons b i 0) at g.is

    pub agree_less : get_or a i 0 < get_or b i 0 → Less ≡ order a b
    agree_less l = rw (cmp_is _ _ Less l) at first

    pub agree_greater : get_or b i 0 < get_or a i 0 → Greater ≡ order a b
    agree_greater l = rw (cmp_is _ _ Greater l) at first

    pub agree_more : get_or b i 0 ≤ get_or a i 0 → get_or a i 0 ≤ get_or b i 0 → Agree a b (i + 1)
    agree_more l m = record { in_a = omega arith; in_b = omega arith; is = rw add-one (rw (cmp_is (get_or a i 0) (get_or b i 0) Equal (omega arith)) at first) }

abbrev pub invariant-loop-i : goal.invariant-loop-i
invariant-loop-i l = Agree l.a l.b l.i
