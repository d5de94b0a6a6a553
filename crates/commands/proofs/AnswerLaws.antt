-- A command keeps a namespace within its limits; a refusal keeps pairs and buffer; Dword 0 is at most the longest value. Assumes nothing.
use mathlib.Core.Path.{◌≡◌, refl, sym}
use mathlib.Core.Bool.{Bool, true, false, cond, not, ◌&&◌}
use mathlib.Core.List.{List, [], ◌∷◌}
use Prim.Native.Nat.{ℕ, suc, ◌≤◌}
use native.Mathlib.Omega.{arith}
use lib.ListN.{length, take, length-take}
use lib.Dec.{leb, eqb}
use borrow.Author.Tests.{leb-false, eqb-true}
use Rattle.std.specs.declared.cmp.Ordering.{Ordering}
use Rattle.std.specs.declared.cmp.Ordering.TheVariants.{Less, Equal, Greater}
use Rattle.keys.specs.Keys.{Key, order}
use Rattle.octets.proofs.TestLaws.{known, holds, fails}
use Rattle.wire.specs.declared.entries.Command.{Command}
use Rattle.wire.specs.Entry.{key_of, is_store, is_retrieve, is_delete}
use Rattle.table.specs.Formats.{format_of}
use Rattle.store.specs.Maps.{Pair, insert, present, value_of}
use Rattle.store.specs.Namespace.{Namespace, with_pairs}
use Rattle.store.proofs.MapLaws.{insert_rising}
use Rattle.store.proofs.NamespaceLaws.{Admitted, Within, format_bounds, insert_admitted}
use Rattle.store.proofs.CountLaws.{insert_count, insert_used, erase_used, erase_within}
use Rattle.rules.specs.Steps.{view_of, stock_of, status_of}
use Rattle.commands.specs.Answer.{answer}
use Rattle.rules.proofs.StepLaws.{Passed, passed}

pub answer_status : (ok : Bool) (s : Namespace) (c : Command) (b : List ℕ) → (answer ok s c b).status ≡ status_of ok s c (length b)
unfolding answer
answer_status ok s c b = elim (known (eqb (status_of ok s c (length b)) 0)) [ holds e ↦ rw e (sym (eqb-true _ _ e)) | fails e ↦ rw e ]

-- all statuses but 00h leave buffer and pairs, and Dword 0 is zero
pub refused : (ok : Bool) (s : Namespace) (c : Command) (b : List ℕ) → eqb (status_of ok s c (length b)) 0 ≡ false
    → answer ok s c b ≡ record { status = status_of ok s c (length b); dword0 = 0; buffer = b; pairs = s.pairs }
unfolding answer
refused ok s c b e = rw e

pub unrefused : (ok : Bool) (s : Namespace) (c : Command) (n : ℕ) → status_of ok s c n ≡ 0 → Passed (view_of ok s n) (stock_of s (key_of c)) c
unfolding status_of
unrefused ok s c n e = passed (view_of ok s n) (stock_of s (key_of c)) c e

-- ---- no value is longer than a format allows, and so is Dword 0 at most that

admitted_value : (i : ℕ) (k : Key) (m : List Pair) → Admitted i m → length (value_of k m) ≤ (format_of i).valuemax
admitted_value i k [] a = omega arith
admitted_value i k (p ∷ m) a = go (order k p.key) refl (admitted_value i k m a.3)
  where
    go : (o : Ordering) → order k p.key ≡ o → length (value_of k m) ≤ (format_of i).valuemax → length (value_of k (p ∷ m)) ≤ (format_of i).valuemax
    go Less e r = rw e (omega arith)
    go Equal e r = rw e a.2
    go Greater e r = rw e r

pub value_small : (s : Namespace) → Within s → (k : Key) → length (value_of k s.pairs) ≤ 4096
value_small s w k = omega (arith, admitted_value s.index k s.pairs w.admitted, format_bounds s.index w.permits.index)

pub dword0_small : (s : Namespace) (c : Command) (b : List ℕ) → Within s → (answer true s c b).dword0 ≤ 4096
unfolding answer
dword0_small s c b w =
    let v = value_small s w (key_of c) in
    elim (known (eqb (status_of true s c (length b)) 0)) [
      | fails z ↦ rw z (omega arith)
      | holds z ↦ elim (known (is_retrieve c.opcode)) [ holds r ↦ rw (z, r) v | fails r ↦ rw (z, r) (omega arith) ]
    ]

-- ---- a command keeps to the limits

-- a Store that no step refuses leaves a map within the limits
pub store_within : (s : Namespace) (c : Command) (b : List ℕ) → Within s → length c.key ≡ 16 → is_store c.opcode ≡ true
    → Passed (view_of true s (length b)) (stock_of s (key_of c)) c → Within (with_pairs s (insert (key_of c) (take c.amount b) s.pairs))
store_within s c b w l o p =
    let k = key_of c in
    let v = take c.amount b in
    let m = s.pairs in
    let lk : length k ≡ c.len = omega (arith, length-take c.len c.key, p.early.sixteen) in
    let lv : length v ≡ c.amount = omega (arith, length-take c.amount b, p.early.lent (rw o)) in
    let op : c.opcode ≡ 0x01 = eqb-true c.opcode 0x01 o in
    let some : 1 ≤ c.len = p.early.some (rw op) in
    record {
      permits = w.permits;
      rising = insert_rising k v m w.rising;
      admitted = insert_admitted s.index k v m (omega arith) (omega (arith, p.early.short)) (omega (arith, p.early.value o)) w.admitted;
      count = rw insert_count (counted (present k m) w.count (p.slot o));
      room = omega (arith, insert_used k v m, erase_used k m, p.room o);
    }
  where
    counted : {n c : ℕ} (b : Bool) → n ≤ c → (not b && leb c n) ≡ false → cond b n (suc n) ≤ c
    counted true h g = h
    counted false h g = leb-false _ _ g

-- each command that starts within the limits ends there
pub answer_within : (s : Namespace) (c : Command) (b : List ℕ) → Within s → length c.key ≡ 16 → Within (with_pairs s (answer true s c b).pairs)
unfolding answer
answer_within s c b w l =
    elim (known (eqb (status_of true s c (length b)) 0)) [
      | fails e ↦ rw e w
      | holds e ↦
          elim (known (is_store c.opcode)) [
            | holds f ↦ rw (e, f) (store_within s c b w l f (unrefused true s c (length b) (eqb-true _ _ e)))
            | fails f ↦ elim (known (is_delete c.opcode)) [ holds g ↦ rw (e, f, g) (erase_within s (key_of c) w) | fails g ↦ rw (e, f, g) w ]
          ]
    ]
