-- The parts of an image have their lengths and are read back. Assumes nothing.
use Rattle.std.proofs.Common.{◌≡◌, ℕ, zero, suc, ◌+◌, ◌-◌, ◌*◌, ◌≤◌, List, [], ◌∷◌, ◌++◌, length, drop, refl, ap, ◌∙◌, append_assoc, add-zero}
use Rattle.std.proofs.Common.{add_assoc, arith, length-append}
use lib.Seq.{take-append_seam, drop-append_seam}
use Rattle.octets.specs.Octets.{zeros}
use Rattle.octets.proofs.ZeroLaws.{length_filled}
use Rattle.store.specs.declared.namespaces.Label.{Label}
use Rattle.table.specs.Formats.{slots}
use Rattle.store.specs.Maps.{Pair, used, values}
use Rattle.store.specs.Records.{record_of, records_of, records_part, values_part, value_length, pairs_in}
use Rattle.store.specs.Parts.{labelled, Recorded, Holds}
use Rattle.store.proofs.RecordLaws.{length_record, key_in, key_length_in, value_length_in, rest_in}
use Rattle.store.proofs.NamespaceLaws.{Admitted, Within, format_bounds}

pub admitted_recorded : (i : ℕ) (m : List Pair) → i ≤ 15 → Admitted i m → Recorded m
admitted_recorded i [] h a = tt
admitted_recorded i (p ∷ m) h a =
    let b = format_bounds i h in
    (omega arith, omega arith, admitted_recorded i m h a.3)

-- ---- lengths

pub length_records : (id at : ℕ) (m : List Pair) → Recorded m → length (records_of id at m) ≡ 32 * length m
length_records id at [] r = refl
length_records id at (p ∷ m) r =
    rw (length-append, length_record id at p r.0, length_records id (at + length p.value) m r.2) (omega arith)

pub values_used : (m : List Pair) → length (values m) ≤ used m
values_used [] = omega arith
values_used (p ∷ m) = rw length-append (omega (arith, values_used m))

pub length_pairs : (n : ℕ) (s vs : List ℕ) → length (pairs_in n s vs) ≡ n
length_pairs zero s vs = refl
length_pairs (suc n) s vs = ap suc (length_pairs n (drop 32 s) (drop (value_length s) vs))

-- ---- pairs one behind the other

pub values_append : (m n : List Pair) → values (m ++ n) ≡ values m ++ values n
values_append [] n = refl
values_append (p ∷ m) n = rw (values_append m n, append_assoc)

pub records_append : (id at : ℕ) (m n : List Pair) → records_of id at (m ++ n) ≡ records_of id at m ++ records_of id (at + length (values m)) n
records_append id at [] n = rw add-zero
records_append id at (p ∷ m) n = rw (records_append id (at + length p.value) m n, length-append, append_assoc, add_assoc)

-- ---- what stands in the parts of an image

pairs_back : (id at : ℕ) (m : List Pair) (t u : List ℕ) → Recorded m → pairs_in (length m) (records_of id at m ++ t) (values m ++ u) ≡ m
pairs_back id at [] t u r = refl
pairs_back id at (p ∷ m) t u r =
    let v = p.value in
    let x = records_of id (at + length v) m ++ t in
    rw (
      append_assoc (record_of id at p) (records_of id (at + length v) m) t,
      key_length_in id at p r.0 x,
      key_in id at p r.0 x,
      value_length_in id at p r.0 x r.1,
      rest_in id at p r.0 x,
      append_assoc v (values m) u,
      take-append_seam v (values m ++ u),
      drop-append_seam v (values m ++ u),
      pairs_back id (at + length v) m t u r.2,
    )

module _ {id n l : ℕ} {m : List Pair} {s vs : List ℕ} (h : Holds id n l m s vs) where
  pub records_long : length s ≡ n
  unfolding records_part
  records_long = ap length h.records ∙ length_filled n (records_of id 0 m) (omega (arith, length_records id 0 m h.recorded, h.slots))

  pub values_long : length vs ≡ l
  unfolding values_part
  values_long = ap length h.values ∙ length_filled l (values m) h.room

  pub pairs_held : pairs_in (length m) s vs ≡ m
  unfolding records_part values_part
  pairs_held = rw (h.records, h.values) (pairs_back id 0 m (zeros (n - length (records_of id 0 m))) (zeros (l - length (values m))) h.recorded)

  -- said of the parts alone
  pub held_again : (c : ℕ) → length m ≡ c → Holds id (length s) (length vs) (pairs_in c s vs) s vs
  held_again c e =
      let g : pairs_in c s vs ≡ m = rw e at pairs_held in
      rw (g, records_long, values_long) h

-- a map within the limits, in the parts of its image
pub held : (h : Label) {m : List Pair} {s vs : List ℕ} → Within (labelled h m) → s ≡ records_part h.id (32 * slots h.index) m
    → vs ≡ values_part h.size m → Holds h.id (32 * slots h.index) h.size m s vs
held h {m} w p q =
    record {
      records = p;
      values = q;
      recorded = admitted_recorded h.index m w.permits.index w.admitted;
      slots = omega (arith, w.count);
      room = omega (arith, w.room, values_used m);
      few = omega (arith, format_bounds h.index w.permits.index);
      small = w.permits.size_high;
    }
