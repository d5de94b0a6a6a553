-- Key order is std's order of slices, total and transitive; what rising keys have. Assumes nothing.
use mathlib.Core.Path.{◌≡◌, refl, sym, ap, ◌∙◌}
use mathlib.Core.Bool.{true}
use mathlib.Core.List.{List, [], ◌∷◌}
use Prim.Native.Nat.{ℕ, ◌<◌}
use Rattle.std.specs.Prelude.{Some}
use Rattle.std.specs.Ordering.{MatchOrdering, nat_cmp, ordering_then, ordering_reverse, is_lt, is_some_and, partial_lt}
use Rattle.std.specs.Cmp.{nat_cmp_is}
use Rattle.std.specs.Cmp.Lexicographic.{slice_cmp, slice_partial_cmp, lists_agrees}
use Rattle.std.specs.declared.cmp.Ordering.{Ordering}
use Rattle.std.specs.declared.cmp.Ordering.TheVariants.{Less, Equal, Greater}
use Rattle.std.proofs.lemmas.Cmp.{nat_list_cmp_total, tied_itself}
use Rattle.std.proofs.lemmas.Map.Lookups.{exact_bytes}
use Rattle.keys.specs.Keys.{Key, order, below, rising}
use Rattle.octets.proofs.TestLaws.{both}

-- ---- numbers

-- what the order of two numbers says of them
abbrev pub Ordered : ℕ → ℕ → Ordering → Type 0
Ordered m n o = MatchOrdering o (m < n) (m ≡ n) (n < m)

pub cmp_is : (m n : ℕ) (o : Ordering) → Ordered m n o → nat_cmp m n ≡ o
cmp_is m n o h = sym (nat_cmp_is m n o h)

-- ---- the first order that is not Equal

pub then_assoc : (a b c : Ordering) → ordering_then (ordering_then a b) c ≡ ordering_then a (ordering_then b c)
then_assoc Less b c = refl
then_assoc Equal b c = refl
then_assoc Greater b c = refl

pub then_equal : (a : Ordering) → ordering_then a Equal ≡ a
then_equal Less = refl
then_equal Equal = refl
then_equal Greater = refl

-- ---- keys

abbrev pub Below : Key → Key → Type 0
Below j k = order j k ≡ Less

-- `cmp` of two slices
pub order_cmp : (j k : Key) → slice_cmp nat_cmp j k ≡ order j k
order_cmp [] [] = refl
order_cmp [] (y ∷ k) = refl
order_cmp (x ∷ j) [] = refl
order_cmp (x ∷ j) (y ∷ k) = ap (ordering_then (nat_cmp x y)) (order_cmp j k)

-- `<` of two slices
pub slice_less : (j k : Key) → partial_lt (slice_partial_cmp (λ x y. Some (nat_cmp x y))) j k ≡ below j k
slice_less j k = ap (is_some_and is_lt) (lists_agrees (λ x y. refl) j k) ∙ ap is_lt (order_cmp j k)

pub order_self : (k : Key) → order k k ≡ Equal
order_self k = sym (order_cmp k k) ∙ tied_itself nat_list_cmp_total k

pub order_eq : (j k : Key) → order j k ≡ Equal → j ≡ k
order_eq j k e = exact_bytes j k (order_cmp j k ∙ e)

pub order_flip : (j k : Key) → order k j ≡ ordering_reverse (order j k)
order_flip j k = sym (order_cmp k j) ∙ nat_list_cmp_total.antisymm k j ∙ ap ordering_reverse (order_cmp j k)

-- the three ways in which two keys compare, to split a proof by
pub data Compared (j k : Key) : Type 0 where
  less : Below j k → Compared j k
  equal : order j k ≡ Equal → Compared j k
  greater : order j k ≡ Greater → Compared j k

pub compared : (j k : Key) → Compared j k
compared j k = by (order j k) refl
  where
    by : (o : Ordering) → order j k ≡ o → Compared j k
    by Less e = less e
    by Equal e = equal e
    by Greater e = greater e

pub below_trans : (i j k : Key) → Below i j → Below j k → Below i k
below_trans i j k e f = sym (order_cmp i k) ∙ nat_list_cmp_total.trans i j k (order_cmp i j ∙ e) (order_cmp j k ∙ f)

-- the other way round
pub below_greater : (j k : Key) → Below j k → order k j ≡ Greater
below_greater j k e = order_flip j k ∙ ap ordering_reverse e

pub greater_below : (j k : Key) → order j k ≡ Greater → Below k j
greater_below j k e = order_flip j k ∙ ap ordering_reverse e

-- ---- rising keys

abbrev pub BelowFirst : Key → List Key → Type 0
BelowFirst j [] = Unit {0}
BelowFirst j (k ∷ ks) = Below j k

abbrev pub Rising : List Key → Type 0
Rising [] = Unit {0}
Rising (k ∷ ks) = BelowFirst k ks × Rising ks

pub below_first_trans : (i j : Key) (ks : List Key) → Below i j → BelowFirst j ks → BelowFirst i ks
below_first_trans i j [] e f = tt
below_first_trans i j (k ∷ ks) e f = below_trans i j k e f

pub less_true : (o : Ordering) → is_lt o ≡ true → o ≡ Less
less_true Less e = refl
less_true Equal e = cc
less_true Greater e = cc

pub rising_true : (ks : List Key) → rising ks ≡ true → Rising ks
rising_true [] e = tt
rising_true (k ∷ []) e = (tt, tt)
rising_true (k ∷ j ∷ ks) e =
    let b = both (below k j) (rising (j ∷ ks)) e in
    (less_true (order k j) b.0, rising_true (j ∷ ks) b.1)

pub true_rising : (ks : List Key) → Rising ks → rising ks ≡ true
true_rising [] r = refl
true_rising (k ∷ []) r = refl
true_rising (k ∷ j ∷ ks) r = rw r.0 (true_rising (j ∷ ks) r.1)
