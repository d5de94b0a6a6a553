-- A pair put or erased: the verbs may be called on the parts that are lent, and what comes back is the image of the new map.
-- Assumes nothing.
use mathlib.Core.Path.{◌≡◌, refl, sym, ap, subst, ◌∙◌}
use mathlib.Core.Bool.{true, false}
use mathlib.Core.List.{List, ◌∷◌, ◌++◌}
use Prim.Native.Nat.{ℕ, ◌+◌, ◌-◌, ◌*◌, ◌≤◌, ◌<◌}
use native.Mathlib.Omega.{arith}
use lib.ListN.{length, take, length-take}
use borrow.Rule.Slice.PartMut.{put_mid}
use Rattle.octets.specs.Octets.{part, put, bytes}
use Rattle.store.specs.declared.namespaces.Label.{Label}
use Rattle.store.specs.declared.finds.Found.{Found}
use Rattle.table.specs.Formats.{slots}
use Rattle.store.specs.Maps.{Pair, pair, values, insert, erase, used}
use Rattle.store.specs.Namespace.{Namespace, with_pairs}
use Rattle.store.specs.Records.{pairs_in}
use Rattle.store.specs.Parts.{Holds as Parts, inserted, erased}
use Rattle.store.specs.Finds.{found_key}
use Rattle.verbs.specs.declared.slots.Spot.{Spot}
use Rattle.verbs.specs.Verbs.{CanInsert, CanRemove, CanReplace}
use Rattle.store.proofs.NamespaceLaws.{Within, within_true}
use Rattle.store.proofs.CountLaws.{insert_used, erase_within}
use Rattle.store.proofs.PartsLaws.{values_used, records_long, values_long}
use Rattle.store.proofs.SlotLaws.{value_length_at, length_inserted, length_erased, values_inserted, values_erased}
use Rattle.store.proofs.RankLaws.{insert_held, insert_new, erase_held}
use Rattle.checking.specs.declared.checks.Checked.{Checked}
use Rattle.memory.specs.Namespaces.{total, slots_of, size_of, at, with}
use Rattle.memory.specs.Memory.{memory, records_for, values_for, image_over, image_with, namespaces_of, pairs_at}
use Rattle.checking.specs.Checks.{numbers_after}
use Rattle.memory.proofs.NameLaws.{none_before, with_there}
use Rattle.memory.proofs.ImageLaws.{Holds}
use Rattle.maps.specs.Asks.{records_at, values_at, room_at, Legal, CanPut, CanErase}
use Rattle.maps.proofs.LegalLaws.{holds_in, at_is, pairs_at_law, count_is, part_is, standing_in, at_one, label_is}
use Rattle.maps.proofs.RoomLaws.{slot_le, slot_lt, sum_without}
use Rattle.changes.proofs.ChangeLaws.{image_changed}

-- ---- the whole slices out of the parts and the half that come back

-- what a verb leaves of the parts that k names: r and w, the parts of m
abbrev pub Left : Checked → List ℕ → List ℕ → List Pair → List ℕ → List ℕ → Type 0
Left k d v m r w = Parts k.label.id (length (records_at k d)) (length (values_at k v)) m r w

-- the directory and the value slice with r and w in the place of those parts
abbrev pub directory_with : Checked → List ℕ → List ℕ → List ℕ
directory_with k d r = put_mid k.start (k.end - k.start) d r

abbrev pub values_with : Checked → List ℕ → List ℕ → List ℕ
values_with k v w = put_mid k.base (k.base + k.label.size - k.base) v w

-- k are the numbers of s between a and b, and r and w are the parts of its new map
module _ (a b : List Namespace) (s : Namespace) {k : Checked} {d v : List ℕ} (is : k ≡ numbers_after a s) (h : Holds (a ++ s ∷ b) (memory d v))
    (all : namespaces_of (memory d v) ≡ a ++ s ∷ b) {m : List Pair} {r w : List ℕ}
    (q : Parts k.label.id (32 * slots k.label.index) k.label.size m r w) (limits : Within (with_pairs s m)) where
  records_are : r ≡ records_for (with_pairs s m)
  records_are = q.records ∙ rw is

  values_are : w ≡ values_for (with_pairs s m)
  values_are = q.values ∙ rw is

  parts_image : {d' : List ℕ} (c u : ℕ) → d' ≡ put (k.half + 12) (bytes 4 c ++ bytes 4 u) (directory_with k d r) → c ≡ length m → u ≡ used m
      → memory d' (values_with k v w) ≡ image_over (with k.label.id m (namespaces_of (memory d v))) (memory d v)
  unfolding part
  parts_image {d'} c u e n t =
      let there = with_there s.id s b refl m a (none_before b s a h.within.apart) in
      let j : (numbers_after a s).end - (numbers_after a s).start ≡ 32 * slots_of s = omega arith in
      let l : total size_of a + s.size - total size_of a ≡ s.size = omega arith in
      let e' = rw (is, records_are, j, n, t) at e in
      rw (is, values_are, l, all, there) (image_changed a b s m h.within limits h d' _ e' refl)

-- m is what a verb made of the map that stood there
module _ {k : Checked} {d v : List ℕ} (g : Legal k d v) (f : List Pair → List Pair) {m : List Pair} {r w : List ℕ}
    (p : Left k d v (f (pairs_in k.label.count (records_at k d) (values_at k v))) r w) (made : m ≡ f (pairs_at k.label.id (memory d v)))
    (limits : Within (with_pairs (at k.label.id (namespaces_of (memory d v))) m)) where
  q : Parts k.label.id (32 * slots k.label.index) k.label.size m r w
  q = rw made (rw (records_long (part_is g).holds, values_long (part_is g).holds, pairs_at_law g) at p)

  new_image : {d' : List ℕ} (c u : ℕ) → d' ≡ put (k.half + 12) (bytes 4 c ++ bytes 4 u) (directory_with k d r) → c ≡ length m → u ≡ used m
      → memory d' (values_with k v w) ≡ image_over (with k.label.id m (namespaces_of (memory d v))) (memory d v)
  new_image =
      parts_image g.before g.behind g.space g.is (holds_in g) g.all q
      (subst (λ (s : Namespace). Within (with_pairs s m)) (at_is g) limits)

-- where the verbs work
abbrev pub spot_of : Checked → Found → Spot
spot_of k f = record { id = k.label.id; count = k.label.count; total = k.total; slot = f.slot }

-- ---- erase

module _ {k : Checked} {f : Found} {d v : List ℕ} (c : CanErase k f d v) where
  abbrev old : List Pair
  old = pairs_at k.label.id (memory d v)

  inside : f.slot < length old
  inside = slot_lt old c.looked c.held

  pub can_remove : CanRemove (spot_of k f) (records_at k d) (values_at k v)
  can_remove = record { standing = standing_in c.legal; slot = omega (arith, inside, count_is c.legal) }

  pub erased_image : {d' r w : List ℕ} {u : ℕ} → u ≡ k.label.used - room_at k f d
      → Left k d v (erased f.slot (pairs_in k.label.count (records_at k d) (values_at k v))) r w
      → d' ≡ put (k.half + 12) (bytes 4 (k.label.count - 1) ++ bytes 4 u) (directory_with k d r)
      → memory d' (values_with k v w) ≡ image_with k.label.id (erase (found_key f)) (memory d v)
  erased_image {u = u} z p e =
      let is : erase (found_key f) old ≡ erased f.slot old = rw c.looked.slot (erase_held (found_key f) old (sym c.looked.held ∙ c.held)) in
      new_image c.legal (erased f.slot) p is (erase_within (at k.label.id (namespaces_of (memory d v))) (found_key f) (at_one c.legal)) _ u e
      (omega (arith, ap length is, length_erased f.slot old inside, count_is c.legal)) (z ∙ sum_without c.legal c.looked)

-- ---- put

module _ {k : Checked} {f : Found} {x d v : List ℕ} (c : CanPut k f x d v) where
  abbrev m : List Pair
  m = pairs_at k.label.id (memory d v)

  abbrev p : Pair
  p = pair (found_key f) x

  limits : Within (with_pairs (at k.label.id (namespaces_of (memory d v))) (insert (found_key f) x m))
  limits = within_true _ c.within

  -- the parts have room for the map with the pair
  room_left : length (values (insert (found_key f) x m)) ≤ length (values_at k v)
  room_left =
      let size = ap (λ (h : Label). h.size) (label_is c.legal) in
      omega (arith, size, values_used (insert (found_key f) x m), limits.room, values_long (part_is c.legal).holds)

  -- the used room with the pair
  used_is : {u n : ℕ} → u ≡ k.label.used - room_at k f d → n ≡ f.len → u + n + length x ≡ used (insert (found_key f) x m)
  used_is z e =
      let l = length-take f.len f.key in
      omega (arith, z ∙ sum_without c.legal c.looked, insert_used (found_key f) x m, l, c.looked)

  pub used_small : {u n : ℕ} → u ≡ k.label.used - room_at k f d → n ≡ f.len → u + n + length x ≤ 65536
  used_small z e = omega (arith, used_is z e, limits.room, limits.permits.size_high)

  total_is : k.total ≡ length (values m)
  total_is = rw (pairs_at_law c.legal) at (standing_in c.legal).total

  -- over a key that is held
  module _ (h : f.held ≡ true) where
    erases : CanErase k f d v
    erases = record { legal = c.legal; looked = c.looked; held = h }

    abbrev rest : List Pair
    rest = erased f.slot m

    again : insert (found_key f) x m ≡ inserted f.slot p rest
    again = rw c.looked.slot (insert_held (found_key f) x m (sym c.looked.held ∙ h))

    fewer : (length rest ≡ length m - 1) × (f.slot ≤ length rest)
    fewer = let l = length_erased f.slot m (inside erases) in (l, omega (arith, inside erases))

    pub can_replace : CanReplace (spot_of k f) x (records_at k d) (values_at k v)
    can_replace =
        let old = value_length_at (part_is c.legal).holds f.slot (inside erases) in
        let sum = values_erased f.slot m (inside erases) in
        let new = values_inserted f.slot p rest fewer.1 in
        let room = rw again at room_left in
        record { removes = can_remove erases; fits = omega (arith, total_is) }

    pub replaced_image : {d' r w : List ℕ} {u n l : ℕ} → u ≡ k.label.used - room_at k f d → n ≡ f.len → l ≡ f.len
        → Left k d v (inserted f.slot (pair (take l f.key) x) (erased f.slot (pairs_in k.label.count (records_at k d) (values_at k v)))) r w
        → d' ≡ put (k.half + 12) (bytes 4 k.label.count ++ bytes 4 (u + n + length x)) (directory_with k d r)
        → memory d' (values_with k v w) ≡ image_with k.label.id (insert (found_key f) x) (memory d v)
    replaced_image z i j q e =
        new_image c.legal (λ (l : List Pair). inserted f.slot p (erased f.slot l)) (rw j at q) again limits _ _ e
        (omega (arith, ap length again, length_inserted f.slot p rest fewer.1, fewer, inside erases, count_is c.legal)) (used_is z i)

  -- a new key
  module _ (h : f.held ≡ false) where
    added : insert (found_key f) x m ≡ inserted f.slot p m
    added = rw c.looked.slot (insert_new (found_key f) x m (sym c.looked.held ∙ h))

    more : length (insert (found_key f) x m) ≡ k.label.count + 1
    more = ap length added ∙ omega (arith, length_inserted f.slot p m (slot_le m c.looked), count_is c.legal)

    pub can_insert : CanInsert (spot_of k f) x (records_at k d) (values_at k v)
    can_insert =
        let g = c.legal in
        let i = ap (λ (h : Label). slots h.index) (label_is g) in
        let new = values_inserted f.slot p m (slot_le m c.looked) in
        let room = rw added at room_left in
        record {
          standing = standing_in g;
          slot = omega (arith, slot_le m c.looked, count_is g);
          free = omega (arith, records_long (part_is g).holds, limits.count, more);
          fits = omega (arith, total_is);
        }

    pub inserted_image : {d' r w : List ℕ} {u n l : ℕ} → u ≡ k.label.used - room_at k f d → n ≡ f.len → l ≡ f.len
        → Left k d v (inserted f.slot (pair (take l f.key) x) (pairs_in k.label.count (records_at k d) (values_at k v))) r w
        → d' ≡ put (k.half + 12) (bytes 4 (k.label.count + 1) ++ bytes 4 (u + n + length x)) (directory_with k d r)
        → memory d' (values_with k v w) ≡ image_with k.label.id (insert (found_key f) x) (memory d v)
    inserted_image z i j q e = new_image c.legal (inserted f.slot p) (rw j at q) added limits _ _ e (sym more) (used_is z i)

pub ruleset put_laws = (used_small, can_replace, can_insert)
