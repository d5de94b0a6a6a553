-- The namespace that an id names: where it stands, and what a change of one of them changes. Assumes nothing.
use mathlib.Core.Path.{◌≡◌, refl, sym, ap, ◌∙◌}
use mathlib.Core.Bool.{Bool, true, false, cond, not, ◌||◌}
use mathlib.Core.List.{List, [], ◌∷◌, ◌++◌}
use Prim.Native.Nat.{ℕ, suc}
use native.Mathlib.Omega.{arith}
use lib.Dec.{eqb}
use borrow.Author.Tests.{eqb-true, eq-eqb, ne_eqb, not-true}
use Rattle.octets.proofs.TestLaws.{contrary, both, neither}
use Rattle.store.specs.Maps.{Pair}
use Rattle.store.specs.Namespace.{Namespace, fresh, with_pairs}
use Rattle.store.proofs.NamespaceLaws.{Within as One}
use Rattle.memory.specs.Namespaces.{total, held, at, with, apart}
use Rattle.memory.proofs.JoinLaws.{Each}
use Rattle.memory.proofs.LimitLaws.{Within, changed_within}

pub another : (n : ℕ) → eqb n (suc n) ≡ false
another n = ne_eqb n (suc n) (λ e. omega arith)

-- the test of step d
pub at_id : (n : ℕ) (ss : List Namespace) → eqb n (at n ss).id ≡ held n ss
at_id n [] = another n
at_id n (s ∷ ss) = go (eqb n s.id) refl (at_id n ss)
  where
    go : (z : Bool) → eqb n s.id ≡ z → eqb n (at n ss).id ≡ held n ss → eqb n (at n (s ∷ ss)).id ≡ held n (s ∷ ss)
    go true e r = rw e e
    go false e r = rw e r

-- what a change at n leaves there
pub at_same : (n : ℕ) (m : List Pair) (ss : List Namespace) → held n ss ≡ true → at n (with n m ss) ≡ with_pairs (at n ss) m
at_same n m [] h = absurd (contrary h)
at_same n m (s ∷ ss) h = go (eqb n s.id) refl h (at_same n m ss)
  where
    go : (z : Bool) → eqb n s.id ≡ z → (eqb n s.id || held n ss) ≡ true → (held n ss ≡ true → at n (with n m ss) ≡ with_pairs (at n ss) m)
        → at n (with n m (s ∷ ss)) ≡ with_pairs (at n (s ∷ ss)) m
    go true e h r = rw e (rw e)
    go false e h r = rw e (rw e (r (rw e at h)))

-- and elsewhere it is not seen
pub at_other : (k n : ℕ) (m : List Pair) (ss : List Namespace) → ¬ (k ≡ n) → at k (with n m ss) ≡ at k ss
at_other k n m [] d = refl
at_other k n m (s ∷ ss) d = go (eqb n s.id) refl (at_other k n m ss d)
  where
    go : (z : Bool) → eqb n s.id ≡ z → at k (with n m ss) ≡ at k ss → at k (with n m (s ∷ ss)) ≡ at k (s ∷ ss)
    go true e r =
        let f : eqb k s.id ≡ false = ne_eqb k s.id (λ h. d (h ∙ sym (eqb-true n s.id e))) in
        rw e (rw f)
    go false e r = rw e (rw r)

-- changes at two ids come to the same in either order
pub with_other : (k n : ℕ) (l m : List Pair) (ss : List Namespace) → ¬ (k ≡ n) → with k l (with n m ss) ≡ with n m (with k l ss)
with_other k n l m [] d = refl
with_other k n l m (s ∷ ss) d = go (eqb k s.id) refl (eqb n s.id) refl (with_other k n l m ss d)
  where
    go : (y : Bool) → eqb k s.id ≡ y → (z : Bool) → eqb n s.id ≡ z → with k l (with n m ss) ≡ with n m (with k l ss)
        → with k l (with n m (s ∷ ss)) ≡ with n m (with k l (s ∷ ss))
    go true e true f r = absurd (d (eqb-true k s.id e ∙ sym (eqb-true n s.id f)))
    go true e false f r = rw (e, f) (rw e)
    go false e true f r = rw (e, f) (rw e)
    go false e false f r = rw (e, f) (rw e (rw r))

-- and at one id the later is all that is seen
pub with_twice : (n : ℕ) (l m : List Pair) (ss : List Namespace) → with n l (with n m ss) ≡ with n l ss
with_twice n l m [] = refl
with_twice n l m (s ∷ ss) = go (eqb n s.id) refl (with_twice n l m ss)
  where
    go : (z : Bool) → eqb n s.id ≡ z → with n l (with n m ss) ≡ with n l ss → with n l (with n m (s ∷ ss)) ≡ with n l (s ∷ ss)
    go true e r = rw e (rw e)
    go false e r = rw e (rw e (rw r))

pub with_none : (n : ℕ) (m : List Pair) (ss : List Namespace) → held n ss ≡ false → with n m ss ≡ ss
with_none n m [] h = refl
with_none n m (s ∷ ss) h =
    let f = neither (eqb n s.id) (held n ss) h in
    rw (f.0, with_none n m ss f.1)

-- ---- where it stands

-- n names s, which stands behind those in a
pub record Named (n : ℕ) (ss : List Namespace) : Type 0 where
  pub before : List Namespace
  pub space : Namespace
  pub behind : List Namespace
  pub all : ss ≡ before ++ space ∷ behind
  pub id : n ≡ space.id
  pub first : held n before ≡ false

pub named : (n : ℕ) (ss : List Namespace) → held n ss ≡ true → Named n ss
named n [] h = absurd (contrary h)
named n (s ∷ ss) h = go (eqb n s.id) refl (named n ss)
  where
    go : (o : Bool) → eqb n s.id ≡ o → (held n ss ≡ true → Named n ss) → Named n (s ∷ ss)
    go true e r = record { before = []; space = s; behind = ss; all = refl; id = eqb-true n s.id e; first = refl }
    go false e r =
        let i = r (rw e at h) in
        record {
          before = s ∷ i.before;
          space = i.space;
          behind = i.behind;
          all = ap (λ (l : List Namespace). s ∷ l) i.all;
          id = i.id;
          first = rw (e, i.first);
        }

module _ (n : ℕ) (s : Namespace) (b : List Namespace) (e : n ≡ s.id) where
  pub held_there : (a : List Namespace) → held n (a ++ s ∷ b) ≡ true
  held_there [] = rw (eq-eqb n s.id e)
  held_there (x ∷ a) = rw (held_there a) (or_right (eqb n x.id))
    where
      or_right : (o : Bool) → (o || true) ≡ true
      or_right true = refl
      or_right false = refl

  pub at_there : (a : List Namespace) → held n a ≡ false → at n (a ++ s ∷ b) ≡ s
  at_there [] f = rw (eq-eqb n s.id e)
  at_there (x ∷ a) f =
      let g = neither (eqb n x.id) (held n a) f in
      rw g.0 (at_there a g.1)

  pub with_there : (m : List Pair) (a : List Namespace) → held n a ≡ false → with n m (a ++ s ∷ b) ≡ a ++ with_pairs s m ∷ b
  with_there m [] f = rw (eq-eqb n s.id e)
  with_there m (x ∷ a) f =
      let g = neither (eqb n x.id) (held n a) f in
      rw (g.0, with_there m a g.1)

-- those that stand apart have none of its id before it
pub none_before : (b : List Namespace) (s : Namespace) (a : List Namespace) → apart (a ++ s ∷ b) ≡ true → held s.id a ≡ false
none_before b s [] p = refl
none_before b s (x ∷ a) p = go (eqb s.id x.id) refl (none_before b s a parts.1)
  where
    parts : (not (held x.id (a ++ s ∷ b)) ≡ true) × (apart (a ++ s ∷ b) ≡ true)
    parts = both (not (held x.id (a ++ s ∷ b))) (apart (a ++ s ∷ b)) p

    go : (z : Bool) → eqb s.id x.id ≡ z → held s.id a ≡ false → held s.id (x ∷ a) ≡ false
    go true e r = absurd (contrary (sym (not-true _ parts.0) ∙ held_there x.id s b (sym (eqb-true _ _ e)) a))
    go false e r = rw (e, r)

-- the pairs that it has already
pub with_same : (n : ℕ) (ss : List Namespace) → with n (at n ss).pairs ss ≡ ss
with_same n [] = refl
with_same n (s ∷ ss) = go (eqb n s.id) (with_same n ss)
  where
    go : (z : Bool) → with n (at n ss).pairs ss ≡ ss
        → cond z (with_pairs s (cond z s (at n ss)).pairs ∷ ss) (s ∷ with n (cond z s (at n ss)).pairs ss) ≡ s ∷ ss
    go true r = refl
    go false r = ap (λ (l : List Namespace). s ∷ l) r

-- ---- limits

pub at_within : (n : ℕ) (ss : List Namespace) → Each One ss → held n ss ≡ true → One (at n ss)
at_within n [] w h = absurd (contrary h)
at_within n (s ∷ ss) w h = go (eqb n s.id) refl (at_within n ss)
  where
    go : (z : Bool) → eqb n s.id ≡ z → (Each One ss → held n ss ≡ true → One (at n ss)) → One (at n (s ∷ ss))
    go true e r = rw e w.0
    go false e r = rw e (r w.1 (rw e at h))

pub with_within : (n : ℕ) (m : List Pair) (ss : List Namespace) → Within ss → held n ss ≡ true → One (with_pairs (at n ss) m) → Within (with n m ss)
with_within n m ss w h v =
    let i = named n ss h in
    let s = i.space in
    let there = at_there n s i.behind i.id i.before i.first in
    rw (i.all, with_there n s i.behind i.id m i.before i.first)
    (changed_within i.behind s m i.before (rw i.all at w) (rw (i.all, there) at v))

-- what the formatting alone decides stays
pub with_total : (f : Namespace → ℕ) (n : ℕ) (m : List Pair) → ((s : Namespace) → f (with_pairs s m) ≡ f s) → (ss : List Namespace)
    → total f (with n m ss) ≡ total f ss
with_total f n m e [] = refl
with_total f n m e (s ∷ ss) = go (eqb n s.id) (with_total f n m e ss)
  where
    go : (z : Bool) → total f (with n m ss) ≡ total f ss → total f (cond z (with_pairs s m ∷ ss) (s ∷ with n m ss)) ≡ total f (s ∷ ss)
    go true r = rw (e s)
    go false r = rw r

pub at_none : (n : ℕ) (ss : List Namespace) → held n ss ≡ false → at n ss ≡ fresh 0 (suc n) 0
at_none n [] h = refl
at_none n (s ∷ ss) h =
    let f = neither (eqb n s.id) (held n ss) h in
    rw f.0 (at_none n ss f.1)
