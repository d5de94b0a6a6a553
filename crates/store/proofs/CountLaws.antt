-- Counts and sums after insert and erase, and the limits after erase. Assumes nothing.
use Rattle.std.proofs.Common.{◌≡◌, ℕ, suc, ◌+◌, ◌≤◌, Bool, true, false, cond, List, [], ◌∷◌, length, refl, ap, arith}
use Rattle.keys.specs.Keys.{Key}
use Rattle.keys.proofs.OrderLaws.{compared, less, equal, greater, order_eq}
use Rattle.store.specs.Maps.{Pair, insert, erase, present, used, held_room}
use Rattle.store.specs.Namespace.{Namespace, with_pairs}
use Rattle.store.proofs.MapLaws.{erase_rising}
use Rattle.store.proofs.NamespaceLaws.{Within, erase_admitted}

suc_cond : (b : Bool) (m n : ℕ) → suc (cond b m n) ≡ cond b (suc m) (suc n)
suc_cond true m n = refl
suc_cond false m n = refl

pub insert_count : (k : Key) (v : List ℕ) (m : List Pair) → length (insert k v m) ≡ cond (present k m) (length m) (suc (length m))
insert_count k v [] = refl
insert_count k v (p ∷ m) =
    let r = insert_count k v m in
    elim (compared k p.key) [ less e ↦ rw e | equal e ↦ rw e | greater e ↦ rw (e, r) (suc_cond (present k m) (length m) (suc (length m))) ]

-- Used room: the new pair's bytes, with those of the old one taken off.
pub insert_used : (k : Key) (v : List ℕ) (m : List Pair) → used (insert k v m) ≡ used (erase k m) + length k + length v
insert_used k v [] = omega arith
insert_used k v (p ∷ m) =
    let r = insert_used k v m in
    elim (compared k p.key) [ less e ↦ rw e (omega arith) | equal e ↦ rw e (omega arith) | greater e ↦ rw e (omega arith) ]

pub erase_used : (k : Key) (m : List Pair) → used (erase k m) + held_room k m ≡ used m
erase_used k [] = refl
erase_used k (p ∷ m) =
    let r = erase_used k m in
    elim (compared k p.key) [
      | less e ↦ rw e (omega arith)
      | equal e ↦ rw e (omega (arith, ap length (order_eq k p.key e)))
      | greater e ↦ rw e (omega arith)
    ]

erase_fewer : (k : Key) (m : List Pair) → length (erase k m) ≤ length m
erase_fewer k [] = omega arith
erase_fewer k (p ∷ m) =
    let r = erase_fewer k m in
    elim (compared k p.key) [ less e ↦ rw e (omega arith) | equal e ↦ rw e (omega arith) | greater e ↦ rw e (omega arith) ]

pub erase_within : (s : Namespace) (k : Key) → Within s → Within (with_pairs s (erase k s.pairs))
erase_within s k w =
    record {
      permits = w.permits;
      rising = erase_rising k s.pairs w.rising;
      admitted = erase_admitted s.index k s.pairs w.admitted;
      count = omega (arith, erase_fewer k s.pairs, w.count);
      room = omega (arith, erase_used k s.pairs, w.room);
    }
