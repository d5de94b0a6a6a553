-- The verbs on the parts of an image: what they are given lies in bounds, and what they leave are the parts of the image with one pair
-- more, or one less. Assumes nothing.
use Rattle.std.proofs.Common.{◌≡◌, ℕ, suc, ◌+◌, ◌-◌, ◌*◌, ◌%◌, ◌^◌, ◌<◌, ◌≤◌, List, [], ◌∷◌, ◌++◌, length, take, drop, ap, ◌∙◌, arith, length-drop}
use Rattle.std.proofs.Common.{take-append-drop, length-take-le, take_all, le-ltb, lt-ltb}
use native.Mathlib.Decide.{dec_lt}
use Rattle.octets.specs.Octets.{part, put, zeros}
use Rattle.store.specs.Maps.{Pair, pair, values}
use Rattle.store.specs.declared.records.Record.{Record}
use Rattle.store.specs.Records.{value_length, slot_in, pairs_in}
use Rattle.store.specs.Parts.{Recorded, Holds, inserted, erased}
use Rattle.store.specs.Slots.{pair_at, Standing}
use Rattle.verbs.specs.declared.slots.Spot.{Spot}
use Rattle.verbs.specs.Verbs.{record_in, record_out, place_for, CanInsert, CanRemove, CanReplace}
use Rattle.store.proofs.PartsLaws.{length_pairs, records_long, values_long, pairs_held, held_again}
use Rattle.store.proofs.SlotLaws.{recorded_cut, values_cut, whole, value_cut, recorded_at, place_at, value_length_at}
use Rattle.store.proofs.SlotLaws.{length_inserted, length_erased, values_inserted, values_erased}
use Rattle.verbs.proofs.slots.Edits.{insert_records, remove_records, insert_values, remove_values}

recorded_join : (a b : List Pair) → Recorded a → Recorded b → Recorded (a ++ b)
recorded_join [] b ra rb = rb
recorded_join (p ∷ a) b ra rb = (ra.0, ra.1, recorded_join a b ra.2 rb)

-- ---- image in, image out: over any pairs, since an equation of a slice would be rewritten inside `pairs_in` too

module _ {id n l : ℕ} {m : List Pair} {s vs : List ℕ} (h : Holds id n l m s vs) (c t i q : ℕ) (count : length m ≡ c)
    (total : t ≡ length (values m)) (at : q ≡ length (values (take i m))) where
  abbrev a : List Pair
  a = take i m

  ra : Recorded a
  ra = (recorded_cut i m h.recorded).0

  insert_holds : (k v s' vs' : List ℕ) → i ≤ c → 32 * c + 32 ≤ n → t + length v ≤ l → length k ≤ 16
      → vs' ≡ put q (v ++ part q (t - q) vs) vs → s' ≡ record_in id q (pair k v) i (c - i) s → Holds id n l (inserted i (pair k v) m) s' vs'
  unfolding inserted
  insert_holds k v s' vs' hi free fits hk ev es =
      let p = pair k v in
      let b = drop i m in
      let rb = (recorded_cut i m h.recorded).1 in
      let la : length a ≡ i = length-take-le i m (omega arith) in
      let lb : length b ≡ c - i = length-drop i m ∙ ap (λ (x : ℕ). x - i) count in
      let cut = values_cut i m in
      let left : t - q ≡ length (values b) = omega arith in
      let rs = insert_records id n a b p ra rb hk (omega arith) (omega (arith, h.small)) in
      let us = insert_values l a b p (omega arith) in
      record {
        records = es ∙ rw (h.records, at) (rw (la, lb, take-append-drop i m) at rs);
        values = ev ∙ rw (left, at, h.values) (rw (take-append-drop i m) at us);
        recorded = recorded_join a (p ∷ b) ra (hk, omega (arith, h.small), rb);
        slots = omega (arith, length_inserted i p m (omega arith));
        room = omega (arith, values_inserted i p m (omega arith));
        few = h.few;
        small = h.small;
      }

  remove_holds : (w d : ℕ) (s' vs' : List ℕ) → i < c → w ≡ length (pair_at m i).value → (d + w) % 2 ^ 32 ≡ 0
      → vs' ≡ put q (part (q + w) (t - q - w) vs ++ zeros w) vs → s' ≡ record_out d i (c - (i + 1)) s → Holds id n l (erased i m) s' vs'
  unfolding erased
  remove_holds w d s' vs' hi long wraps ev es =
      let p = pair_at m i in
      let b = drop (suc i) m in
      let rb = (recorded_cut (suc i) m h.recorded).1 in
      let li : i < length m = omega arith in
      let la : length a ≡ i = length-take-le i m (omega arith) in
      let lb : length b ≡ c - (i + 1) = length-drop (suc i) m ∙ omega arith in
      let cut = value_cut m i li in
      let left : t - q - w ≡ length (values b) = omega arith in
      let k = (recorded_at m i li h.recorded).0 in
      let rs = remove_records id n a b p ra rb k (omega (arith, h.slots)) (omega (arith, h.room, h.small)) d (rw long at wraps) in
      let us = remove_values l a b p (omega (arith, h.room)) in
      record {
        records = es ∙ rw h.records (rw (la, lb, whole m i li) at rs);
        values = ev ∙ rw (left, long, at, h.values) (rw (whole m i li) at us);
        recorded = recorded_join a b ra rb;
        slots = omega (arith, length_erased i m li, h.slots);
        room = omega (arith, values_erased i m li, h.room);
        few = h.few;
        small = h.small;
      }

-- ---- parts in which pairs stand

-- the numbers that the code adds and takes off
pub record Bounds (n t : ℕ) (s vs : List ℕ) : Type 0 where
  pub slots : 32 * n ≤ length s
  pub room : t ≤ length vs
  pub few : length s ≤ 32768
  pub small : length vs ≤ 65536

module _ {id n t : ℕ} {s vs : List ℕ} (c : Standing id n t s vs) where
  abbrev m : List Pair
  m = pairs_in n s vs

  count : length m ≡ n
  count = length_pairs n s vs

  bounds : Bounds n t s vs
  bounds = record {
    slots = omega (arith, c.holds.slots, count);
    room = omega (arith, c.holds.room, c.total);
    few = c.holds.few;
    small = c.holds.small;
  }

  place_is : (i : ℕ) → i ≤ n → place_for s (record { id = id; count = n; total = t; slot = i }) ≡ length (values (take i m))
  unfolding place_for
  place_is i l = elim (dec_lt i n) [
    | yes k ↦ rw (lt-ltb i n k) (place_at c.holds i (omega (arith, count)))
    | no k ↦ rw (le-ltb i n (omega arith), take_all i m (omega (arith, count))) c.total
  ]

module _ {a : Spot} {v s vs : List ℕ} (c : CanInsert a v s vs) where
  pub insert_bounds : Bounds a.count a.total s vs × (place_for s a ≤ a.total)
  insert_bounds =
      (bounds c.standing, omega (arith, place_is c.standing a.slot c.slot, values_cut a.slot (pairs_in a.count s vs), c.standing.total))

  pub insert_image : (k : List ℕ) {q : ℕ} {s' vs' : List ℕ} → length k ≤ 16 → q ≡ place_for s a → vs' ≡ put q (v ++ part q (a.total - q) vs) vs
      → s' ≡ record_in a.id q (pair k v) a.slot (a.count - a.slot) s
      → Holds a.id (length s) (length vs) (inserted a.slot (pair k v) (pairs_in a.count s vs)) s' vs'
  insert_image k hk e ev es =
      let h = c.standing in
      insert_holds h.holds a.count a.total a.slot _ (count h) h.total (e ∙ place_is h a.slot c.slot) k v _ _ c.slot c.free c.fits hk ev es

module _ {a : Spot} {s vs : List ℕ} (c : CanRemove a s vs) where
  abbrev r : Record
  r = slot_in (drop (32 * a.slot) s)

  inside : a.slot < length (pairs_in a.count s vs)
  inside = omega (arith, count c.standing, c.slot)

  pub remove_bounds : Bounds a.count a.total s vs
  remove_bounds = bounds c.standing

  pub remove_inside : {x : Record} → x ≡ r → x.place + x.value_length ≤ a.total
  remove_inside e =
      let h = c.standing in
      let m = pairs_in a.count s vs in
      rw e (omega (arith, place_at h.holds a.slot inside, value_length_at h.holds a.slot inside, value_cut m a.slot inside, h.total))

  -- x is what the record says, and d takes its value's length off
  pub remove_image : {x : Record} {s' vs' : List ℕ} (d : ℕ) → x ≡ r → (d + x.value_length) % 2 ^ 32 ≡ 0
      → vs' ≡ put x.place (part (x.place + x.value_length) (a.total - x.place - x.value_length) vs ++ zeros x.value_length) vs
      → s' ≡ record_out d a.slot (a.count - (a.slot + 1)) s
      → Holds a.id (length s) (length vs) (erased a.slot (pairs_in a.count s vs)) s' vs'
  remove_image d e ed ev es =
      let h = c.standing in
      remove_holds h.holds a.count a.total a.slot _ (count h) h.total ((λ i. (e i).place) ∙ place_at h.holds a.slot inside) _ d _ _ c.slot
      ((λ i. (e i).value_length) ∙ value_length_at h.holds a.slot inside) ed ev es

-- ---- replace: after the old pair is out, the new one can go in

module _ {a : Spot} {v s vs s' vs' : List ℕ} (c : CanReplace a v s vs)
    (g : Holds a.id (length s) (length vs) (erased a.slot (pairs_in a.count s vs)) s' vs') where
  abbrev old : List Pair
  old = pairs_in a.count s vs

  there : a.slot < length old
  there = inside c.removes

  fewer : length (erased a.slot old) ≡ a.count - 1
  fewer = length_erased a.slot old there ∙ omega (arith, length_pairs a.count s vs)

  left : pairs_in (a.count - 1) s' vs' ≡ erased a.slot old
  left = rw fewer at (pairs_held g)

  pub replace_can : (x : Record) → x ≡ slot_in (drop (32 * a.slot) s)
      → CanInsert (record a { count = a.count - 1; total = a.total - x.value_length }) v s' vs'
  replace_can x e =
      let h = c.removes.standing in
      let b = remove_bounds c.removes in
      let l = remove_inside c.removes e in
      let w : x.value_length ≡ value_length (drop (32 * a.slot) s) = λ i. (e i).value_length in
      record {
        standing =
            record {
              holds = held_again g (a.count - 1) fewer;
              total = rw left (omega (arith, values_erased a.slot old there, value_length_at h.holds a.slot there, h.total));
            };
        slot = omega (arith, c.removes.slot);
        free = omega (arith, records_long g, c.removes.slot);
        fits = omega (arith, values_long g, c.fits);
      }

  pub replace_image : (p : Pair) {s'' vs'' : List ℕ}
      → Holds a.id (length s') (length vs') (inserted a.slot p (pairs_in (a.count - 1) s' vs')) s'' vs''
      → Holds a.id (length s) (length vs) (inserted a.slot p (erased a.slot old)) s'' vs''
  replace_image p f = rw (left, records_long g, values_long g) at f
