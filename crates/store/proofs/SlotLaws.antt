-- What stands at a slot of an image: the words of its record, its key and its value. Assumes nothing.
use Rattle.std.proofs.Common.{◌≡◌, ℕ, suc, ◌+◌, ◌-◌, ◌*◌, ◌^◌, ◌<◌, ◌≤◌, List, [], ◌∷◌, ◌++◌, length, take, drop, sym, refl, ap, ◌∙◌, append_assoc}
use Rattle.std.proofs.Common.{zero-add, arith, length-append, length-drop, take-append-drop, length-take-le, drop-cons, drop_at}
use lib.Seq.{split_at}
use Rattle.octets.specs.Octets.{part, zeros, filled}
use Rattle.octets.proofs.PartLaws.{part_seam}
use Rattle.octets.proofs.ZeroLaws.{zeros_behind}
use Rattle.store.specs.Maps.{Pair, pair, values}
use Rattle.store.specs.Records.{record_of, records_of, records_part, values_part, key_length, place, value_length, value_in}
use Rattle.store.specs.Parts.{Recorded, Holds, inserted, erased}
use Rattle.store.specs.Finds.{KeyFits}
use Rattle.store.specs.Slots.{pair_at}
use Rattle.store.proofs.RecordLaws.{sixteen_in, key_length_in, place_in, value_length_in}
use Rattle.store.proofs.PartsLaws.{length_records, values_append, records_append}

recorded_parts : (a b : List Pair) → Recorded (a ++ b) → Recorded a × Recorded b
recorded_parts [] b r = (tt, r)
recorded_parts (p ∷ a) b r =
    let s = recorded_parts a b r.2 in
    ((r.0, r.1, s.0), s.1)

pub recorded_cut : (i : ℕ) (m : List Pair) → Recorded m → Recorded (take i m) × Recorded (drop i m)
recorded_cut i m r = recorded_parts (take i m) (drop i m) (rw (take-append-drop i m) r)

-- the values before slot i and from it on
pub values_cut : (i : ℕ) (m : List Pair) → length (values (take i m)) + length (values (drop i m)) ≡ length (values m)
values_cut i m =
    sym (length-append (values (take i m)) (values (drop i m)))
    ∙ ap length (sym (values_append (take i m) (drop i m)))
    ∙ ap (λ (n : List Pair). length (values n)) (take-append-drop i m)

module _ (m : List Pair) (i : ℕ) (inside : i < length m) where
  pub whole : take i m ++ pair_at m i ∷ drop (suc i) m ≡ m
  whole = sym (split_at m i (pair [] []) inside)

  pub value_cut : length (values (take i m)) + length (pair_at m i).value + length (values (drop (suc i) m)) ≡ length (values m)
  value_cut =
      let e : length (values (drop i m)) ≡ length (pair_at m i).value + length (values (drop (suc i) m)) =
      ap (λ (n : List Pair). length (values n)) (drop-cons m i (pair [] []) inside) ∙ length-append (pair_at m i).value (values (drop (suc i) m)) in
      omega (arith, values_cut i m)

  pub recorded_at : Recorded m → (length (pair_at m i).key ≤ 16) × (length (pair_at m i).value < 2 ^ 32)
  recorded_at r =
      let q : Recorded (pair_at m i ∷ drop (suc i) m) = rw (drop-cons m i (pair [] []) inside) at (recorded_cut i m r).1 in
      (q.0, q.1)

-- ---- a pair more, and one less

pub length_erased : (i : ℕ) (m : List Pair) → i < length m → length (erased i m) ≡ length m - 1
unfolding erased
length_erased i m l = length-append (take i m) (drop (suc i) m) ∙ omega (arith, length-take-le i m (omega arith), length-drop (suc i) m)

pub length_inserted : (i : ℕ) (p : Pair) (m : List Pair) → i ≤ length m → length (inserted i p m) ≡ length m + 1
unfolding inserted
length_inserted i p m l = length-append (take i m) (p ∷ drop i m) ∙ omega (arith, length-take-le i m l, length-drop i m)

pub values_inserted : (i : ℕ) (p : Pair) (m : List Pair) → i ≤ length m → length (values (inserted i p m)) ≡ length (values m) + length p.value
unfolding inserted
values_inserted i p m l =
    let v = values (drop i m) in
    rw (values_append (take i m) (p ∷ drop i m), length-append (values (take i m)) (p.value ++ v), length-append p.value v) (omega (arith, values_cut i m))

pub values_erased : (i : ℕ) (m : List Pair) → i < length m → length (values (erased i m)) + length (pair_at m i).value ≡ length (values m)
unfolding erased
values_erased i m l =
    rw (values_append (take i m) (drop (suc i) m), length-append (values (take i m)) (values (drop (suc i) m))) (omega (arith, value_cut m i l))

-- ---- the image

module _ {id n l : ℕ} {m : List Pair} {s vs : List ℕ} (h : Holds id n l m s vs) (i : ℕ) (inside : i < length m) where
  abbrev p : Pair
  p = pair_at m i

  abbrev at : ℕ
  at = length (values (take i m))

  r : (length p.key ≤ 16) × (length p.value < 2 ^ 32)
  r = recorded_at m i inside h.recorded

  abbrev behind : List ℕ
  behind = records_of id (at + length p.value) (drop (suc i) m) ++ zeros (n - length (records_of id 0 m))

  slot : drop (32 * i) s ≡ record_of id at p ++ behind
  unfolding records_part
  slot =
      let ahead = records_of id 0 (take i m) in
      let e : records_of id 0 m ≡ ahead ++ records_of id at (p ∷ drop (suc i) m) =
      ap (records_of id 0) (sym (whole m i inside)) ∙ records_append id 0 (take i m) (p ∷ drop (suc i) m) ∙ rw (zero-add at) in
      let long : length ahead ≡ 32 * i =
      length_records id 0 (take i m) (recorded_cut i m h.recorded).0 ∙ ap (λ (k : ℕ). 32 * k) (length-take-le i m (omega arith)) in
      let f : s ≡ ahead ++ (record_of id at p ++ behind) =
      h.records ∙ ap (λ (x : List ℕ). x ++ zeros (n - length (records_of id 0 m))) e ∙ simp append_assoc in
      ap (drop (32 * i)) f ∙ drop_at ahead _ (32 * i) long

  pub key_length_at : key_length (drop (32 * i) s) ≡ length p.key
  key_length_at = rw slot (key_length_in id at p r.0 behind)

  pub place_at : place (drop (32 * i) s) ≡ at
  place_at = rw slot (place_in id at p r.0 behind (omega (arith, values_cut i m, h.room, h.small)))

  pub value_length_at : value_length (drop (32 * i) s) ≡ length p.value
  value_length_at = rw slot (value_length_in id at p r.0 behind r.1)

  pub sixteen_at : part 0 16 (drop (32 * i) s) ≡ filled 16 p.key
  sixteen_at = rw slot (sixteen_in id at p r.0 behind)

  pub key_fits_at : KeyFits (drop (32 * i) s)
  key_fits_at =
      record {
        short = rw key_length_at r.0;
        padded = rw (key_length_at, sixteen_at) (zeros_behind 16 p.key refl);
      }

  pub value_at : value_in (drop (32 * i) s) vs ≡ p.value
  unfolding values_part
  value_at =
      let v = values (drop (suc i) m) in
      let z = zeros (l - length (values m)) in
      let e : values m ≡ values (take i m) ++ (p.value ++ v) = ap values (sym (whole m i inside)) ∙ values_append (take i m) (p ∷ drop (suc i) m) in
      let f : vs ≡ values (take i m) ++ p.value ++ (v ++ z) = h.values ∙ ap (λ (x : List ℕ). x ++ z) e ∙ simp append_assoc in
      rw (place_at, value_length_at) (ap (part at (length p.value)) f ∙ part_seam (values (take i m)) p.value (v ++ z))
