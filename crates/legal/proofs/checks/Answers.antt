-- The pass finds exactly the parts that are the image of a map within the limits: what `check_part` answers. Assumes nothing.
use mathlib.Core.Path.{◌≡◌, refl, sym, ap, ◌∙◌}
use mathlib.Core.Bool.{Bool, true, ◌&&◌}
use mathlib.Core.List.{List, [], ◌∷◌, ◌++◌, append_assoc}
use Rattle.std.specs.Prelude.{Option, Some, None}
use Rattle.std.specs.Bool.{then_some}
use Prim.Native.Nat.{ℕ, zero, suc, ◌-◌, ◌*◌, ◌≤◌, ◌<◌}
use native.Mathlib.Nat.{zero-add}
use native.Mathlib.Omega.{arith}
use lib.ListN.{length, drop, length-append, take-append-drop}
use lib.Seq.{drop-append_seam}
use Rattle.std.specs.declared.cmp.Ordering.TheVariants.{Less}
use Rattle.octets.specs.Octets.{part, filled, all_zero}
use Rattle.keys.specs.Keys.{Key, order}
use Rattle.octets.proofs.PartLaws.{part_rest}
use Rattle.octets.proofs.NumberLaws.{Bytes}
use Rattle.keys.proofs.OrderLaws.{BelowFirst}
use Rattle.octets.proofs.TestLaws.{refuted, contrary, both, known, holds, fails}
use Rattle.octets.proofs.ZeroLaws.{all_zeros, zeros_behind}
use Rattle.keys.proofs.WideLaws.{widened_none}
use Rattle.table.specs.declared.formats.Format.{Format}
use Rattle.store.specs.declared.namespaces.Label.{Label}
use Rattle.legal.specs.declared.checks.Sums.{Sums}
use Rattle.table.specs.Formats.{slots}
use Rattle.store.specs.Maps.{Pair, keys, used, values}
use Rattle.store.specs.Records.{records_of, records_part, values_part, value_length, pairs_in}
use Rattle.store.specs.Parts.{labelled}
use Rattle.legal.specs.Checks.{Readable, Checkable, part_legal, sums_of, part_sums, first_wide, pass_over}
use Rattle.store.proofs.NamespaceLaws.{Admitted, Permitted, permitted, Within, format_bounds}
use Rattle.store.proofs.PartsLaws.{admitted_recorded, length_records, length_pairs, held}
use Rattle.legal.proofs.LegalLaws.{Legal, legal_part, part_legal_law}
use Rattle.legal.proofs.checks.Pass.{pass, grows, Stands, sound, complete}

-- ---- a records part and a values part

-- what the pass finds of the parts
pub record Found (h : Label) (o : Option Sums) (r : Sums) (s vs : List ℕ) : Type 0 where
  pub count : h.count ≤ slots h.index
  pub ok : o ≡ Some r
  pub room : r.used ≤ h.size
  pub records : all_zero (drop (32 * h.count) s) ≡ true
  pub values : all_zero (drop r.total vs) ≡ true

empty_below : (k : Key) → 1 ≤ length k → order [] k ≡ Less
empty_below [] l = absurd (omega arith)
empty_below (x ∷ k) l = refl

empty_first : (i : ℕ) (m : List Pair) → Admitted i m → BelowFirst [] (keys m)
empty_first i [] a = tt
empty_first i (p ∷ m) a = empty_below p.key a.0

-- bytes with zeros behind xs are xs filled up with zeros
filled_by_law : {n : ℕ} (xs r : List ℕ) {s : List ℕ} → xs ++ r ≡ s → length s ≡ n → all_zero (drop (length xs) s) ≡ true → s ≡ filled n xs
filled_by_law {n} xs r {s} e l z =
    let d : drop (length xs) s ≡ r = rw (← e) (drop-append_seam xs r) in
    let k : length r ≡ n - length xs = omega (arith, l, simp length-append at (ap length e)) in
    sym e ∙ rw (← k) (ap (λ (ys : List ℕ). xs ++ ys) (all_zeros r (rw d at z)))

-- the values that stand in vs are its first bytes
front : (n : ℕ) (s vs : List ℕ) → (r : List ℕ) × (values (pairs_in n s vs) ++ r ≡ vs)
front zero s vs = (vs, refl)
front (suc n) s vs =
    let f = front n (drop 32 s) (drop (value_length s) vs) in
    (f.0, rw (append_assoc, f.1) (take-append-drop (value_length s) vs))

module _ {h : Label} {f : Format} {s vs : List ℕ} (ask : Checkable h f s vs) (b : Bytes s) {o : Option Sums}
    (is : o ≡ pass h.count h 0 0 first_wide s) where
  abbrev m : List Pair
  m = pairs_in h.count s vs

  p : Permitted h.index h.id h.size
  p = permitted h.index h.id h.size ask.permitted

  count : length m ≡ h.count
  count = length_pairs h.count s vs

  records_end : Admitted h.index m → length (records_of h.id 0 m) ≡ 32 * h.count
  records_end a = length_records h.id 0 m (admitted_recorded h.index m p.index a) ∙ ap (λ (n : ℕ). 32 * n) count

  sums : Stands h 0 [] m s → o ≡ Some (sums_of m)
  sums a =
      let f = front h.count s vs in
      let l : length (values m) ≤ h.size = omega (arith, ask.values, simp length-append at (ap length f.1)) in
      is ∙ rw (count, zero-add (length (values m)), zero-add (used m)) at (complete p m 0 0 a widened_none b (omega (arith, p.size_high)))

  legal_found : {r : Sums} → Found h o r s vs → Legal h m s vs × (r ≡ sums_of m)
  unfolding records_part values_part
  legal_found {r} f =
      let ok : pass h.count h 0 0 first_wide s ≡ Some r = sym is ∙ f.ok in
      let g = grows h.count h 0 0 first_wide s ok in
      let a = sound {h = h} p h.count 0 0 s vs widened_none b (omega (arith, ask.records, f.count)) ok (omega (arith, ask.values, g, f.room)) in
      let i = sums a in
      let e : r ≡ sums_of m = cc (f.ok, i) in
      let w : Within (labelled h m) =
      record { permits = p; rising = a.rising; admitted = a.admitted; count = rw count f.count; room = rw e at f.room } in
      let rs = filled_by_law (records_of h.id 0 m) a.rest a.image ask.records (rw (records_end a.admitted) f.records) in
      let us = filled_by_law (values m) (front h.count s vs).0 (front h.count s vs).1 ask.values (rw e at f.values) in
      (record { within = w; holds = held h w rs us }, e)

  found_legal : Legal h m s vs → Found h o (sums_of m) s vs
  unfolding records_part values_part
  found_legal a =
      let w = a.within in
      let first = empty_first h.index m w.admitted in
      record {
        count = omega (arith, w.count, count);
        ok = sums (record { rest = _; image = sym a.holds.records; first = first; rising = w.rising; admitted = w.admitted });
        room = w.room;
        records = rw (records_end w.admitted) at (zeros_behind _ (records_of h.id 0 m) a.holds.records);
        values = zeros_behind _ (values m) a.holds.values;
      }

  found : {r : Sums} → Found h o r s vs → Some r ≡ part_sums h s vs
  unfolding part_sums
  found f =
      let a = legal_found f in
      rw (part_legal_law h s vs a.0) (ap Some a.1)

  refused : (Found h o (sums_of m) s vs → ⊥) → None ≡ part_sums h s vs
  unfolding part_sums
  refused n = rw (refuted (part_legal h s vs) (λ e. n (found_legal (legal_part h s vs e))))

-- ---- `check_part`, one law for each way out

module _ {h : Label} {f : Format} {s vs : List ℕ} (asked : Checkable h f s vs) (b : Bytes s) where
  pub part_readable : h.count ≤ f.maxkeys → Readable h.count f s
  part_readable l =
      let k = format_bounds h.index (permitted h.index h.id h.size asked.permitted).index in
      let e = asked.format in
      let m : h.count ≤ slots h.index = rw e at l in
      record { keys = rw e k.0; values = rw e k.1; count = omega arith; records = omega (arith, asked.records) }

  pub part_many : f.maxkeys < h.count → None ≡ part_sums h s vs
  part_many l =
      let m : slots h.index < h.count = rw asked.format at l in
      refused asked b refl (λ g. omega (arith, g.count))

  pub part_unread : None ≡ pass_over h.count h.id f 0 0 first_wide s → None ≡ part_sums h s vs
  part_unread is = refused asked b (rw asked.format at is) (λ g. absurd (cc g.ok))

  module _ {r : Sums} (is : Some r ≡ pass_over h.count h.id f 0 0 first_wide s) where
    same_pass : Some r ≡ pass h.count h 0 0 first_wide s
    same_pass = rw asked.format at is

    -- no other sums are found
    only : {t : Sums} → Found h (Some r) t s vs → Found h (Some r) r s vs
    only {t} g =
        let e : t ≡ r = cc g.ok in
        rw e at g

    pub part_full : h.size < r.used → None ≡ part_sums h s vs
    part_full l = refused asked b same_pass (λ g. omega (arith, (only g).room))

    module _ (q : r.used ≤ h.size) where
      pub part_fits : r.total ≤ length vs
      part_fits =
          let g = grows h.count h 0 0 first_wide s (sym same_pass) in
          omega (arith, asked.values)

      module _ {y z : Bool} (ey : y ≡ all_zero (part (32 * h.count) (length s - 32 * h.count) s))
          (ez : z ≡ all_zero (part r.total (length vs - r.total) vs)) where
        zeros_y : y ≡ all_zero (drop (32 * h.count) s)
        zeros_y = ey ∙ ap all_zero (part_rest (32 * h.count) s)

        zeros_z : z ≡ all_zero (drop r.total vs)
        zeros_z = ez ∙ ap all_zero (part_rest r.total vs)

        pub part_passed : h.count ≤ f.maxkeys → then_some (y && z) r ≡ part_sums h s vs
        part_passed l =
            elim (known (y && z)) [
              | fails n ↦ rw n (refused asked b same_pass (λ g. contrary (sym n ∙ rw (zeros_y, zeros_z, g.records, (only g).values))))
              | holds n ↦
                  let x = both y z n in
                  let m : h.count ≤ slots h.index = rw asked.format at l in
                  rw n
                  (found asked b same_pass
                  (record { count = m; ok = refl; room = q; records = sym zeros_y ∙ x.0; values = sym zeros_z ∙ x.1 }))
            ]

pub ruleset part_laws = (part_many, part_readable, part_unread, part_full, part_fits, part_passed)
