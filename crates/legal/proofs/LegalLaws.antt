-- Legal parts: they hold a map within the limits of its namespace; and then every key can be looked for. Assumes nothing.
use mathlib.Core.Path.{◌≡◌, refl, sym}
use mathlib.Core.Bool.{Bool, true, false}
use mathlib.Core.List.{List}
use Rattle.std.specs.Prelude.{Some}
use Prim.Native.Nat.{ℕ, ◌*◌}
use native.Mathlib.Omega.{arith}
use Rattle.octets.proofs.TestLaws.{all_true, true_all}
use Rattle.octets.proofs.ZeroLaws.{true_same, same_true}
use Rattle.keys.proofs.OrderLaws.{true_rising}
use Rattle.store.specs.declared.namespaces.Label.{Label}
use Rattle.legal.specs.declared.checks.Sums.{Sums}
use Rattle.table.specs.Formats.{slots}
use Rattle.store.specs.Maps.{Pair, keys}
use Rattle.store.specs.Records.{pairs_in}
use Rattle.store.specs.Parts.{labelled, Holds}
use Rattle.legal.specs.Checks.{part_tests, part_legal, sums_of, part_sums}
use Rattle.store.specs.Finds.{KeysFit}
use Rattle.store.proofs.NamespaceLaws.{Within, within_true, true_within, format_bounds}
use Rattle.store.proofs.PartsLaws.{length_pairs, records_long, held}
use Rattle.store.proofs.SlotLaws.{key_fits_at}
use Rattle.store.proofs.RankLaws.{keys_in_law}

pub record Legal (h : Label) (m : List Pair) (s vs : List ℕ) : Type 0 where
  pub within : Within (labelled h m)
  pub holds : Holds h.id (32 * slots h.index) h.size m s vs

module _ (h : Label) (s vs : List ℕ) where
  pub legal_part : part_legal h s vs ≡ true → Legal h (pairs_in h.count s vs) s vs
  unfolding part_legal
  legal_part e =
      let a = all_true (part_tests h (pairs_in h.count s vs) s vs) e in
      let w = within_true (labelled h (pairs_in h.count s vs)) a.0 in
      record { within = w; holds = held h w (sym (same_true _ _ a.1.0)) (sym (same_true _ _ a.1.1.0)) }

  pub part_legal_law : Legal h (pairs_in h.count s vs) s vs → part_legal h s vs ≡ true
  unfolding part_legal
  part_legal_law l =
      true_all (part_tests h (pairs_in h.count s vs) s vs)
      (true_within _ l.within, (true_same _ _ (sym l.holds.records), (true_same _ _ (sym l.holds.values), tt)))

  pub keys_fit : Legal h (pairs_in h.count s vs) s vs → KeysFit h.count s
  keys_fit l =
      let n = length_pairs h.count s vs in
      let b = format_bounds h.index l.within.permits.index in
      record {
        lie = omega (arith, records_long l.holds, l.holds.slots);
        few = omega (arith, l.within.count);
        fit = λ j i. key_fits_at l.holds j (omega arith);
        rise = rw (← keys_in_law h.count s vs) (true_rising (keys (pairs_in h.count s vs)) l.within.rising);
      }

-- what the check of two parts says
pub sums_legal : (h : Label) (s vs : List ℕ) (r : Sums) → Some r ≡ part_sums h s vs → (part_legal h s vs ≡ true) × (r ≡ sums_of (pairs_in h.count s vs))
unfolding part_sums
sums_legal h s vs r e = by (part_legal h s vs) refl
  where
    by : (x : Bool) → part_legal h s vs ≡ x → (part_legal h s vs ≡ true) × (r ≡ sums_of (pairs_in h.count s vs))
    by true q =
        let i = rw q at e in
        (q, cc i)
    by false q =
        let i = rw q at e in
        absurd (cc i)
