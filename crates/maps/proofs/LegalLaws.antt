-- What the check says of legal memory: the numbers of one of its namespaces, where its parts lie, and what stands in them. Assumes nothing.
use mathlib.Core.Path.{◌≡◌, refl, sym, ap, ◌∙◌}
use mathlib.Core.Bool.{Bool, true, false, cond}
use mathlib.Core.List.{List, [], ◌∷◌, ◌++◌}
use Rattle.std.specs.Prelude.{Some, None}
use Prim.Native.Nat.{ℕ, ◌+◌, ◌-◌, ◌*◌, ◌≤◌}
use native.Mathlib.Omega.{arith}
use lib.Dec.{eqb}
use borrow.Author.Tests.{eqb-true, eqb-false, ne_eqb}
use lib.ListN.{length, length-append}
use Rattle.octets.specs.Octets.{part}
use Rattle.octets.proofs.TestLaws.{known, holds, fails}
use Rattle.table.specs.Formats.{format_of}
use Rattle.store.specs.Maps.{Pair, keys}
use Rattle.store.specs.Namespace.{Namespace}
use Rattle.store.specs.Records.{pairs_in}
use Rattle.store.specs.Slots.{Standing}
use Rattle.store.proofs.NamespaceLaws.{Within as One}
use Rattle.store.proofs.PartsLaws.{pairs_held, held_again}
use Rattle.store.proofs.RankLaws.{keys_in_law}
use Rattle.legal.proofs.LegalLaws.{Legal as Part, keys_fit}
use Rattle.checking.specs.declared.checks.Checked.{Checked}
use Rattle.memory.specs.Namespaces.{slots_of, size_of, held, at}
use Rattle.memory.specs.Memory.{Memory, memory, label_of, records_in, values_in, namespaces_of, pairs_at, legal}
use Rattle.checking.specs.Checks.{numbers_after, numbers_of, checked}
use Rattle.memory.proofs.JoinLaws.{each_at, total_at}
use Rattle.memory.proofs.NameLaws.{none_before, at_there}
use Rattle.memory.proofs.ImageLaws.{Holds, legal_holds}
use Rattle.memory.proofs.PlaceLaws.{part_held, directory_long, values_long_enough}
use Rattle.maps.specs.Asks.{records_at, values_at, keys_at, CanLook, Legal}

-- ---- the check's answer

pub illegal_checked : (n : ℕ) (m : Memory) → None ≡ checked n m → legal m ≡ false
unfolding checked
illegal_checked n m e =
    elim (known (legal m)) [ fails q ↦ q | holds q ↦ go (namespaces_of m) (legal_holds m q).within.one (rw q at e) ]
  where
    go : (ss : List Namespace) → 1 ≤ length ss → None ≡ numbers_of n ss → legal m ≡ false
    go [] l i = absurd (omega arith)
    go (s ∷ []) l i = absurd (cc i)
    go (s ∷ t ∷ ss) l i = absurd (cc i)

-- the numbers are those of memory that is legal
from_legal : {k : Checked} (n : ℕ) (m : Memory) → Some k ≡ checked n m → (legal m ≡ true) × (Some k ≡ numbers_of n (namespaces_of m))
unfolding checked
from_legal n m e =
    elim (known (legal m)) [
      | holds q ↦ (q, rw q at e)
      | fails q ↦
          let i = rw q at e in
          absurd (cc i)
    ]

-- ---- the namespace between a and b

module _ (a b : List Namespace) (s : Namespace) {d v : List ℕ} (h : Holds (a ++ s ∷ b) (memory d v)) where
  abbrev k : Checked
  k = numbers_after a s

  records_at_law : records_at k d ≡ records_in (label_of s) k.start d
  unfolding part
  records_at_law =
      let n : k.end - k.start ≡ 32 * slots_of s = omega arith in
      rw n

  values_at_law : values_at k v ≡ values_in (label_of s) k.base v
  unfolding part
  values_at_law =
      let n : k.base + s.size - k.base ≡ s.size = omega arith in
      rw n

  part_at : Part (label_of s) s.pairs (records_at k d) (values_at k v)
  part_at = rw (records_at_law, values_at_law) (part_held a b s h)

  pairs_are : pairs_in (length s.pairs) (records_at k d) (values_at k v) ≡ s.pairs
  pairs_are = pairs_held part_at.holds

  look_at : CanLook k d
  look_at =
      let f = keys_fit (label_of s) (records_at k d) (values_at k v) (rw pairs_are part_at) in
      record { order = omega arith; lies = omega (arith, directory_long h, total_at slots_of a b s); fit = f }

  named_legal : legal (memory d v) ≡ true → namespaces_of (memory d v) ≡ a ++ s ∷ b → Legal k d v
  named_legal l e =
      record {
        before = a;
        space = s;
        behind = b;
        all = e;
        is = refl;
        legal = l;
        look = look_at;
        head = omega (arith, h.within.two, length-append a (s ∷ b), directory_long h);
        fits = omega (arith, values_long_enough h, total_at size_of a b s);
      }

-- where the check finds numbers, memory is legal
pub legal_checked : {k : Checked} (n : ℕ) (d v : List ℕ) → Some k ≡ checked n (memory d v) → Legal k d v
legal_checked {k} n d v e =
    let q = from_legal n (memory d v) e in
    go (namespaces_of (memory d v)) q.1 refl (legal_holds (memory d v) q.0) q.0
  where
    go : (ss : List Namespace) → Some k ≡ numbers_of n ss → namespaces_of (memory d v) ≡ ss → Holds (namespaces_of (memory d v)) (memory d v)
        → legal (memory d v) ≡ true → Legal k d v
    go [] i f h l = absurd (cc i)
    go (s ∷ []) i f h l =
        let e : k ≡ numbers_after [] s = cc i in
        rw e (named_legal [] [] s (rw f at h) l f)
    go (s ∷ t ∷ ss) i f h l = by (eqb t.id n) (cc i)
      where
        by : (x : Bool) → k ≡ cond x (numbers_after (s ∷ []) t) (numbers_after [] s) → Legal k d v
        by true e = rw e (named_legal (s ∷ []) ss t (rw f at h) l f)
        by false e = rw e (named_legal [] (t ∷ ss) s (rw f at h) l f)

-- an id that is not the one it says is held by none
pub unnamed : {k : Checked} (n : ℕ) (m : Memory) → Some k ≡ checked n m → ¬ (n ≡ k.label.id) → held n (namespaces_of m) ≡ false
unnamed {k} n m e q =
    let is = from_legal n m e in
    go (namespaces_of m) (legal_holds m is.0).within.two is.1
  where
    go : (ss : List Namespace) → length ss ≤ 2 → Some k ≡ numbers_of n ss → held n ss ≡ false
    go [] l i = refl
    go (s ∷ []) l i =
        let e : k ≡ numbers_after [] s = cc i in
        rw (ne_eqb n s.id (rw e at q))
    go (s ∷ t ∷ []) l i = by (eqb t.id n) refl (cc i)
      where
        by : (x : Bool) → eqb t.id n ≡ x → k ≡ cond x (numbers_after (s ∷ []) t) (numbers_after [] s) → held n (s ∷ t ∷ []) ≡ false
        by true f e =
            let d = rw e at q in
            absurd (d (sym (eqb-true t.id n f)))
        by false f e = rw (ne_eqb n s.id (rw e at q), ne_eqb n t.id (λ h. eqb-false t.id n f (sym h)))
    go (s ∷ t ∷ u ∷ ss) l i = absurd (omega arith)

-- ---- what stands in the parts

module _ {k : Checked} {d v : List ℕ} (g : Legal k d v) where
  abbrev m : List Pair
  m = pairs_at k.label.id (memory d v)

  pub holds_in : Holds (g.before ++ g.space ∷ g.behind) (memory d v)
  holds_in = rw g.all at (legal_holds (memory d v) g.legal)

  pub at_is : at k.label.id (namespaces_of (memory d v)) ≡ g.space
  at_is =
      let alone = none_before g.behind g.space g.before holds_in.within.apart in
      rw (g.is, g.all) (at_there g.space.id g.space g.behind refl g.before alone)

  pub pairs_are_its : m ≡ g.space.pairs
  pairs_are_its = ap (λ (s : Namespace). s.pairs) at_is

  pub at_one : One (at k.label.id (namespaces_of (memory d v)))
  at_one = rw at_is (each_at One g.behind g.space g.before holds_in.within.each)

  pub label_is : k.label ≡ label_of (at k.label.id (namespaces_of (memory d v)))
  label_is = ap (λ (x : Checked). x.label) g.is ∙ sym (ap label_of at_is)

  pub format_is : k.format ≡ format_of (at k.label.id (namespaces_of (memory d v))).index
  format_is = ap (λ (x : Checked). x.format) g.is ∙ sym (ap (λ (s : Namespace). format_of s.index) at_is)

  pub pairs_at_law : pairs_in k.label.count (records_at k d) (values_at k v) ≡ m
  pairs_at_law = rw (pairs_are_its, g.is) (pairs_are g.before g.behind g.space holds_in)

  pub count_is : k.label.count ≡ length m
  count_is = rw (pairs_are_its, g.is)

  pub keys_are : keys_at k d ≡ keys m
  keys_are = sym (keys_in_law k.label.count (records_at k d) (values_at k v)) ∙ ap keys pairs_at_law

  pub part_is : Part k.label m (records_at k d) (values_at k v)
  part_is = rw (pairs_are_its, g.is) (part_at g.before g.behind g.space holds_in)

  pub standing_in : Standing k.label.id k.label.count k.total (records_at k d) (values_at k v)
  standing_in =
      record {
        holds = held_again part_is.holds k.label.count (sym count_is);
        total = rw (pairs_at_law, pairs_are_its, g.is);
      }
