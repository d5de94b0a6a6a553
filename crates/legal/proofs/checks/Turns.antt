-- A turn of the pass over the records, and its end: what is left to do gives the whole answer. Assumes nothing.
use mathlib.Core.Path.{◌≡◌, sym, ◌∙◌}
use mathlib.Core.Bool.{Bool, true, false, cond}
use mathlib.Core.List.{List}
use Rattle.std.specs.Prelude.{Some, None}
use Prim.Native.Nat.{ℕ, suc, ◌+◌, ◌*◌, ◌-◌, ◌≤◌, ◌<◌}
use native.Mathlib.Omega.{arith}
use lib.ListN.{drop}
use lib.Seq.{drop-drop}
use borrow.Author.Tests.{leb-true}
use Rattle.keys.specs.declared.orders.Wide.{Wide}
use Rattle.octets.specs.Tests.{all}
use Rattle.octets.proofs.TestLaws.{all_true}
use Rattle.table.specs.declared.formats.Format.{Format}
use Rattle.store.specs.declared.records.Record.{Record}
use Rattle.store.specs.Records.{slot_in}
use Rattle.legal.specs.Checks.{slot_tests, first_wide, pass_over}

-- the invariant: j records are passed, with the sums of their value and key lengths, and w is the last key
pub record PassedOver (n id : ℕ) (f : Format) (s : List ℕ) (w : Wide) (total keys j : ℕ) : Type 0 where
  pub total_small : total ≤ 4096 * j
  pub keys_small : keys ≤ 16 * j
  pub is : pass_over (n - j) id f total (keys + total) w (drop (32 * j) s) ≡ pass_over n id f 0 0 first_wide s

pub over_done : {n id : ℕ} {f : Format} {s : List ℕ} {w : Wide} {total keys j : ℕ} → PassedOver n id f s w total keys j → n ≤ j
    → Some (record { total = total; used = keys + total }) ≡ pass_over n id f 0 0 first_wide s
unfolding pass_over
over_done {n} {id} {f} {s} {w} {total} {keys} {j} i l =
    let e : n - j ≡ 0 = omega arith in
    rw e at i.is

-- the record of slot j
module _ {n id : ℕ} {f : Format} {s : List ℕ} {w : Wide} {total keys j : ℕ} (i : PassedOver n id f s w total keys j) (l : j < n)
    (r : Record) (e : r ≡ slot_in (drop (32 * j) s)) (ok : Bool) (t : ok ≡ all (slot_tests id f total w r)) where
  turn : pass_over n id f 0 0 first_wide s
      ≡ cond ok (pass_over (n - (j + 1)) id f (total + r.value_length) (keys + r.key_length + (total + r.value_length)) r.key (drop (32 * (j + 1)) s)) None
  unfolding pass_over
  turn =
      let k : n - j ≡ suc (n - (j + 1)) = omega arith in
      let d : 32 * j + 32 ≡ 32 * (j + 1) = omega arith in
      let u : keys + total + (r.key_length + r.value_length) ≡ keys + r.key_length + (total + r.value_length) = omega arith in
      sym i.is ∙ rw (k, ← u, t, e, drop-drop 32 (32 * j) s, d)

  pub slot_refused : ok ≡ false → None ≡ pass_over n id f 0 0 first_wide s
  slot_refused q = sym (rw q at turn)

  module _ (q : ok ≡ true) where
    slot_short : (r.key_length ≤ f.keymax) × (r.value_length ≤ f.valuemax)
    slot_short =
        let a = all_true (slot_tests id f total w r) (sym t ∙ q) in
        (leb-true _ _ a.1.0, leb-true _ _ a.1.1.0)

    pub over_more : f.keymax ≤ 16 → f.valuemax ≤ 4096
        → PassedOver n id f s r.key (total + r.value_length) (keys + r.key_length) (j + 1)
    over_more k v =
        let b = slot_short in
        record { total_small = omega arith; keys_small = omega arith; is = sym (rw q at turn) }
