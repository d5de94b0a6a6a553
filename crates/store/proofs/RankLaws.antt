-- The slot of a key among rising keys, and what the map does there. Assumes nothing.
use Rattle.std.proofs.Common.{◌≡◌, ℕ, zero, suc, ◌+◌, ◌*◌, ◌<◌, ◌≤◌, true, false, ltb, List, [], ◌∷◌, length, get_or, take, drop, sym, refl, ap, ◌∙◌}
use Rattle.std.proofs.Common.{arith, drop-drop, le-ltb, lt-ltb}
use lib.Dec.{leb-suc-suc}
use Rattle.std.specs.Ordering.{is_lt, is_eq}
use Rattle.keys.specs.Keys.{Key, order, from}
use Rattle.octets.proofs.TestLaws.{contrary}
use Rattle.keys.proofs.OrderLaws.{compared, less, equal, greater}
use Rattle.keys.proofs.OrderLaws.{Below, Rising, order_eq, order_flip, below_trans, below_greater, greater_below, below_first_trans}
use Rattle.store.specs.Maps.{Pair, pair, keys, insert, erase, present, value_of}
use Rattle.store.specs.Records.{key_length, value_length, pairs_in}
use Rattle.store.specs.Parts.{inserted, erased}
use Rattle.store.specs.Finds.{rank, has_key, keys_in}
use Rattle.store.proofs.PartsLaws.{length_pairs}

-- ---- the slot of a key among keys

pub rank_le : (k : Key) (ks : List Key) → rank k ks ≤ length ks
rank_le k [] = omega arith
rank_le k (j ∷ ks) =
    let r = rank_le k ks in
    elim (compared k j) [ less e ↦ rw e (omega arith) | equal e ↦ rw e (omega arith) | greater e ↦ rw e (omega arith) ]

pub rank_lt : (k : Key) (ks : List Key) → has_key k ks ≡ true → rank k ks < length ks
rank_lt k [] h = absurd (contrary h)
rank_lt k (j ∷ ks) h =
    elim (compared k j) [ less e ↦ rw e (omega arith) | equal e ↦ rw e (omega arith) | greater e ↦ rw e (omega (arith, rank_lt k ks (rw e at h))) ]

pub from_rank : (k : Key) (ks : List Key) → from k ks ≡ drop (rank k ks) ks
from_rank k [] = refl
from_rank k (j ∷ ks) = elim (compared k j) [ less e ↦ rw e | equal e ↦ rw e | greater e ↦ rw e (from_rank k ks) ]

pub first_below : (j : Key) (ks : List Key) (i : ℕ) → Rising (j ∷ ks) → i < length ks → Below j (get_or ks i [])
first_below j [] i r h = absurd (omega arith)
first_below j (k ∷ ks) zero r h = r.0
first_below j (k ∷ ks) (suc i) r h = first_below j ks i (below_first_trans j k ks r.0 r.1.0, r.1.1) (omega arith)

-- among rising keys those below k stand before its slot, and no others
pub rank_test : (k : Key) (ks : List Key) (i : ℕ) → Rising ks → i < length ks → is_lt (order (get_or ks i []) k) ≡ ltb i (rank k ks)
rank_test k [] i r h = absurd (omega arith)
rank_test k (j ∷ ks) zero r h =
    elim (compared k j) [
      | less e ↦ rw (e, below_greater k j e)
      | equal e ↦ rw (e, order_flip k j, e)
      | greater e ↦ rw (e, greater_below k j e) (sym (lt-ltb 0 (suc (rank k ks)) (omega arith)))
    ]
rank_test k (j ∷ ks) (suc i) r h =
    let x = get_or ks i [] in
    let f = first_below j ks i r (omega arith) in
    let t = rank_test k ks i r.1 (omega arith) in
    let past = sym (le-ltb (suc i) 0 (omega arith)) in
    elim (compared k j) [
      | less e ↦ rw (e, below_greater k x (below_trans k j x e f)) past
      | equal e ↦ rw (e, order_eq k j e, below_greater j x f) past
      | greater e ↦ rw e (t ∙ sym (leb-suc-suc (suc i) (rank k ks)))
    ]

pub has_at : (k : Key) (ks : List Key) → rank k ks < length ks → has_key k ks ≡ is_eq (order (get_or ks (rank k ks) []) k)
has_at k [] h = absurd (omega arith)
has_at k (j ∷ ks) h =
    let r = has_at k ks in
    elim (compared k j) [ less e ↦ rw (e, order_flip k j, e) | equal e ↦ rw (e, order_flip k j, e) | greater e ↦ rw e (r (omega (arith, rw e at h))) ]

pub has_past : (k : Key) (ks : List Key) → length ks ≤ rank k ks → has_key k ks ≡ false
has_past k [] h = refl
has_past k (j ∷ ks) h =
    elim (compared k j) [ less e ↦ rw e | equal e ↦ absurd (omega (arith, rw e at h)) | greater e ↦ rw e (has_past k ks (omega (arith, rw e at h))) ]

-- ---- the map at the slot of a key

pub length_keys : (m : List Pair) → length (keys m) ≡ length m
length_keys [] = refl
length_keys (p ∷ m) = ap suc (length_keys m)

pub rank_held : (k : Key) (m : List Pair) → has_key k (keys m) ≡ true → rank k (keys m) < length m
rank_held k m h = omega (arith, rank_lt k (keys m) h, length_keys m)

pub has_present : (k : Key) (m : List Pair) → has_key k (keys m) ≡ present k m
has_present k [] = refl
has_present k (p ∷ m) = elim (compared k p.key) [ less e ↦ rw e | equal e ↦ rw e | greater e ↦ rw e (has_present k m) ]

pub insert_held : (k : Key) (v : List ℕ) (m : List Pair) → has_key k (keys m) ≡ true
    → insert k v m ≡ inserted (rank k (keys m)) (pair k v) (erased (rank k (keys m)) m)
unfolding inserted erased
insert_held k v [] h = cc
insert_held k v (p ∷ m) h =
    elim (compared k p.key) [ less e ↦ absurd (contrary (rw e at h)) | equal e ↦ rw e | greater e ↦ rw (e, insert_held k v m (rw e at h)) ]

pub insert_new : (k : Key) (v : List ℕ) (m : List Pair) → has_key k (keys m) ≡ false
    → insert k v m ≡ inserted (rank k (keys m)) (pair k v) m
unfolding inserted
insert_new k v [] h = refl
insert_new k v (p ∷ m) h =
    elim (compared k p.key) [ less e ↦ rw e | equal e ↦ absurd (contrary (sym (rw e at h))) | greater e ↦ rw (e, insert_new k v m (rw e at h)) ]

pub erase_held : (k : Key) (m : List Pair) → has_key k (keys m) ≡ true → erase k m ≡ erased (rank k (keys m)) m
unfolding erased
erase_held k [] h = cc
erase_held k (p ∷ m) h =
    elim (compared k p.key) [ less e ↦ absurd (contrary (rw e at h)) | equal e ↦ rw e | greater e ↦ rw (e, erase_held k m (rw e at h)) ]

pub value_held : (k : Key) (m : List Pair) (d : Pair) → has_key k (keys m) ≡ true → value_of k m ≡ (get_or m (rank k (keys m)) d).value
value_held k [] d h = cc
value_held k (p ∷ m) d h =
    elim (compared k p.key) [ less e ↦ absurd (contrary (rw e at h)) | equal e ↦ rw e | greater e ↦ rw e (value_held k m d (rw e at h)) ]

-- ---- the keys that stand in records

pub keys_in_law : (n : ℕ) (s vs : List ℕ) → keys (pairs_in n s vs) ≡ keys_in n s
keys_in_law zero s vs = refl
keys_in_law (suc n) s vs = ap (λ (ks : List Key). take (key_length s) s ∷ ks) (keys_in_law n (drop 32 s) (drop (value_length s) vs))

pub length_keys_in : (n : ℕ) (s : List ℕ) → length (keys_in n s) ≡ n
length_keys_in n s = ap length (sym (keys_in_law n s [])) ∙ length_keys (pairs_in n s []) ∙ length_pairs n s []

-- the key of slot j
pub key_at : (n j : ℕ) (s : List ℕ) → j < n → get_or (keys_in n s) j [] ≡ take (key_length (drop (32 * j) s)) (drop (32 * j) s)
key_at zero j s h = absurd (omega arith)
key_at (suc n) zero s h = refl
key_at (suc n) (suc j) s h =
    let a : 32 + 32 * j ≡ 32 * suc j = omega arith in
    key_at n j (drop 32 s) (omega arith) ∙ rw (drop-drop (32 * j) 32 s, a)
