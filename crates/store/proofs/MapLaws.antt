-- The map laws: lookup after insert and erase; a map stays in key order; one map is one list. Assumes nothing.
use Rattle.std.proofs.Common.{◌≡◌, ℕ, List, [], ◌∷◌, sym, refl, ◌∙◌, ap₂, arith}
use mathlib.Core.Option.{none, some, some-injective}
use Rattle.keys.specs.Keys.{Key}
use Rattle.keys.proofs.OrderLaws.{compared, less, equal, greater}
use Rattle.keys.proofs.OrderLaws.{Below, BelowFirst, Rising, order_self, order_eq, below_trans, greater_below, below_first_trans}
use Rattle.store.specs.Maps.{Pair, keys, lookup, insert, erase}

-- a key below the first is not stored
lookup_first : (k : Key) (m : List Pair) → BelowFirst k (keys m) → lookup k m ≡ none
lookup_first k [] e = refl
lookup_first k (p ∷ m) e = rw e

pub lookup_insert : (k : Key) (v : List ℕ) (m : List Pair) → lookup k (insert k v m) ≡ some v
lookup_insert k v [] = rw (order_self k)
lookup_insert k v (p ∷ m) =
    elim (compared k p.key) [ less e ↦ rw (e, order_self k) | equal e ↦ rw (e, order_self k) | greater e ↦ rw (e, e) (lookup_insert k v m) ]

pub lookup_insert_other : (j k : Key) (v : List ℕ) (m : List Pair) → ¬ (j ≡ k) → lookup j (insert k v m) ≡ lookup j m
lookup_insert_other j k v [] d = elim (compared j k) [ less f ↦ rw f | equal f ↦ absurd (d (order_eq j k f)) | greater f ↦ rw f ]
lookup_insert_other j k v (p ∷ m) d =
    let q = p.key in
    let r = lookup_insert_other j k v m d in
    elim (compared j k) [
      | less f ↦ elim (compared k q) [ less e ↦ rw (e, f, below_trans j k q f e) | equal e ↦ rw (e, ← order_eq k q e, f) | greater e ↦ rw (e, r) ]
      | equal f ↦ absurd (d (order_eq j k f))
      | greater f ↦ elim (compared k q) [ less e ↦ rw (e, f) | equal e ↦ rw (e, ← order_eq k q e, f) | greater e ↦ rw (e, r) ]
    ]

pub lookup_erase : (k : Key) (m : List Pair) → Rising (keys m) → lookup k (erase k m) ≡ none
lookup_erase k [] s = refl
lookup_erase k (p ∷ m) s =
    let r = lookup_erase k m s.1 in
    elim (compared k p.key) [ less e ↦ rw (e, e) | equal e ↦ rw e (lookup_first k m (rw (order_eq k p.key e) s.0)) | greater e ↦ rw (e, e) r ]

pub lookup_erase_other : (j k : Key) (m : List Pair) → Rising (keys m) → ¬ (j ≡ k) → lookup j (erase k m) ≡ lookup j m
lookup_erase_other j k [] s d = refl
lookup_erase_other j k (p ∷ m) s d =
    let q = p.key in
    let r = lookup_erase_other j k m s.1 d in
    elim (compared k q) [
      | less e ↦ rw e
      | equal e ↦ elim (compared j q) [
        | less f ↦ rw (e, f) (lookup_first j m (below_first_trans j q (keys m) f s.0))
        | equal f ↦ absurd (d (order_eq j q f ∙ sym (order_eq k q e)))
        | greater f ↦ rw (e, f)
      ]
      | greater e ↦ rw (e, r)
    ]

-- ---- a map stays in key order

first_insert : (j k : Key) (v : List ℕ) (m : List Pair) → Below j k → BelowFirst j (keys m) → BelowFirst j (keys (insert k v m))
first_insert j k v [] b f = b
first_insert j k v (p ∷ m) b f = elim (compared k p.key) [ less e ↦ rw e b | equal e ↦ rw e b | greater e ↦ rw e f ]

pub insert_rising : (k : Key) (v : List ℕ) (m : List Pair) → Rising (keys m) → Rising (keys (insert k v m))
insert_rising k v [] s = (tt, tt)
insert_rising k v (p ∷ m) s =
    let r = insert_rising k v m s.1 in
    elim (compared k p.key) [
      | less e ↦ rw e (e, s)
      | equal e ↦ rw e (rw (order_eq k p.key e) s.0, s.1)
      | greater e ↦ rw e (first_insert p.key k v m (greater_below k p.key e) s.0, r)
    ]

first_erase : (j k : Key) (m : List Pair) → Rising (keys m) → BelowFirst j (keys m) → BelowFirst j (keys (erase k m))
first_erase j k [] s f = tt
first_erase j k (p ∷ m) s f =
    elim (compared k p.key) [ less e ↦ rw e f | equal e ↦ rw e (below_first_trans j p.key (keys m) f s.0) | greater e ↦ rw e f ]

pub erase_rising : (k : Key) (m : List Pair) → Rising (keys m) → Rising (keys (erase k m))
erase_rising k [] s = tt
erase_rising k (p ∷ m) s =
    let r = erase_rising k m s.1 in
    elim (compared k p.key) [ less e ↦ rw e s | equal e ↦ rw e s.1 | greater e ↦ rw e (first_erase p.key k m s.1 s.0, r) ]

-- ---- one map is one list: pairs that look the same under each key are the same

pair_ext : (p q : Pair) → p.key ≡ q.key → p.value ≡ q.value → p ≡ q
pair_ext p q a b = λ i. record { key = a i; value = b i }

none_some : (v : List ℕ) → none ≡ some v → ⊥
none_some v e = let z : ◌≡◌ {A = ℕ} 0 1 = cc in omega arith

same_tail : (p q : Pair) (m n : List Pair) → BelowFirst p.key (keys m) → BelowFirst p.key (keys n) → p.key ≡ q.key
    → ((k : Key) → lookup k (p ∷ m) ≡ lookup k (q ∷ n)) → (k : Key) → lookup k m ≡ lookup k n
same_tail p q m n fm fn e h k =
    let l = p.key in
    elim (compared k l) [
      | less f ↦ lookup_first k m (below_first_trans k l (keys m) f fm) ∙ sym (lookup_first k n (below_first_trans k l (keys n) f fn))
      | equal f ↦ let i = order_eq k l f in lookup_first k m (rw i fm) ∙ sym (lookup_first k n (rw i fn))
      | greater f ↦ rw (← e, f) at (h k)
    ]

pub map_ext : (m n : List Pair) → Rising (keys m) → Rising (keys n) → ((k : Key) → lookup k m ≡ lookup k n) → m ≡ n
map_ext [] [] r s h = refl
map_ext [] (q ∷ n) r s h = absurd (none_some q.value (rw (order_self q.key) at (h q.key)))
map_ext (p ∷ m) [] r s h = absurd (none_some p.value (sym (rw (order_self p.key) at (h p.key))))
map_ext (p ∷ m) (q ∷ n) r s h =
    let i = map_ext m n r.1 s.1 in
    elim (compared p.key q.key) [
      | less e ↦ absurd (none_some p.value (sym (rw (order_self p.key, e) at (h p.key))))
      | greater e ↦ absurd (none_some q.value (rw (order_self q.key, greater_below p.key q.key e) at (h q.key)))
      | equal e ↦
          let k = order_eq p.key q.key e in
          let v = some-injective p.value q.value (rw (order_self p.key, e) at (h p.key)) in
          ap₂ ◌∷◌ (pair_ext p q k v) (i (same_tail p q m n r.0 (rw k s.0) k h))
    ]
