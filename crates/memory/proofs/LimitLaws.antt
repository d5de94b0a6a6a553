-- The limits of one or two namespaces, as named facts; other pairs in one of them that keep to its own limits keep to all. Assumes nothing.
use mathlib.Core.Path.{◌≡◌, refl}
use mathlib.Core.Bool.{Bool, true, false, not, ◌&&◌, ◌||◌}
use mathlib.Core.List.{List, [], ◌∷◌, ◌++◌}
use Prim.Native.Nat.{ℕ, ◌≤◌}
use native.Mathlib.Omega.{arith}
use lib.Dec.{eqb}
use lib.ListN.{length, length-append}
use borrow.Author.Tests.{leb-true, le-leb}
use Rattle.octets.proofs.TestLaws.{both, all_true, true_all}
use Rattle.store.specs.Maps.{Pair}
use Rattle.store.specs.Namespace.{Namespace, with_pairs, within}
use Rattle.store.proofs.NamespaceLaws.{Within as One, within_true, true_within}
use Rattle.memory.specs.Namespaces.{total, size_of, held, each_within, apart, limits, all_within}
use Rattle.memory.proofs.JoinLaws.{Each, each_set}

pub record Within (ss : List Namespace) : Type 0 where
  pub one : 1 ≤ length ss
  pub two : length ss ≤ 2
  pub each : Each One ss
  pub apart : apart ss ≡ true
  pub room : total size_of ss ≤ 65536

each_true : (ss : List Namespace) → each_within ss ≡ true → Each One ss
each_true [] e = tt
each_true (s ∷ ss) e =
    let b = both (within s) (each_within ss) e in
    (within_true s b.0, each_true ss b.1)

true_each : (ss : List Namespace) → Each One ss → each_within ss ≡ true
true_each [] w = refl
true_each (s ∷ ss) w = rw (true_within s w.0, true_each ss w.1)

pub all_within_law : (ss : List Namespace) → all_within ss ≡ true → Within ss
unfolding all_within
all_within_law ss e =
    let a = all_true (limits ss) e in
    record {
      one = leb-true _ _ a.0;
      two = leb-true _ _ a.1.0;
      each = each_true ss a.1.1.0;
      apart = a.1.1.1.0;
      room = leb-true _ _ a.1.1.1.1.0;
    }

pub within_all : (ss : List Namespace) → Within ss → all_within ss ≡ true
unfolding all_within
within_all ss w =
    true_all (limits ss) (le-leb _ _ w.one, (le-leb _ _ w.two, (true_each ss w.each, (w.apart, (le-leb _ _ w.room, tt)))))

-- one namespace within its own limits
pub one_within : (s : Namespace) → One s → Within (s ∷ [])
one_within s w = record { one = omega arith; two = omega arith; each = (w, tt); apart = refl; room = omega (arith, w.permits.size_high) }

-- two are apart if their ids differ
pub apart_two : (s t : Namespace) → apart (s ∷ t ∷ []) ≡ not (eqb s.id t.id)
apart_two s t = by (eqb s.id t.id)
  where
    by : (o : Bool) → (not (o || false) && true) ≡ not o
    by true = refl
    by false = refl

-- ---- other pairs in the namespace between a and b

module _ (b : List Namespace) (s : Namespace) (m : List Pair) where
  same_held : (n : ℕ) (a : List Namespace) → held n (a ++ with_pairs s m ∷ b) ≡ held n (a ++ s ∷ b)
  same_held n [] = refl
  same_held n (x ∷ a) = rw (same_held n a)

  same_apart : (a : List Namespace) → apart (a ++ with_pairs s m ∷ b) ≡ apart (a ++ s ∷ b)
  same_apart [] = refl
  same_apart (x ∷ a) = rw (same_held x.id a, same_apart a)

  pub same_total : (f : Namespace → ℕ) → f (with_pairs s m) ≡ f s → (a : List Namespace) → total f (a ++ with_pairs s m ∷ b) ≡ total f (a ++ s ∷ b)
  same_total f e [] = rw e
  same_total f e (x ∷ a) = rw (same_total f e a)

  pub changed_within : (a : List Namespace) → Within (a ++ s ∷ b) → One (with_pairs s m) → Within (a ++ with_pairs s m ∷ b)
  changed_within a w v =
      let l = length-append a (s ∷ b) in
      let k = length-append a (with_pairs s m ∷ b) in
      record {
        one = omega (arith, w.one);
        two = omega (arith, w.two);
        each = each_set One b s a (with_pairs s m) v w.each;
        apart = rw (same_apart a) w.apart;
        room = rw (same_total size_of refl a) w.room;
      }
