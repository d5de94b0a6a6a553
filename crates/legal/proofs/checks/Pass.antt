-- The pass over the records: they pass exactly if they are the records of pairs that the format admits, in key order. Assumes nothing.
use mathlib.Core.Path.{◌≡◌, refl, sym, ap, ◌∙◌}
use mathlib.Core.Bool.{Bool, true, false, cond}
use mathlib.Core.List.{List, [], ◌∷◌, ◌++◌, append_assoc}
use Rattle.std.specs.Prelude.{Option, Some, None}
use Prim.Native.Nat.{ℕ, zero, suc, ◌+◌, ◌*◌, ◌^◌, ◌≤◌, ◌<◌}
use native.Mathlib.Nat.{add-zero}
use native.Mathlib.Omega.{arith}
use lib.ListN.{length, take, drop, length-append, length-drop, take-append-drop}
use lib.Seq.{length-take-le}
use borrow.Author.Tests.{leb-true, eqb-true, le-leb, eq-eqb}
use Rattle.keys.specs.declared.orders.Wide.{Wide}
use Rattle.octets.specs.Octets.{part, bytes, filled, all_zero}
use Rattle.std.specs.Ordering.{is_lt}
use Rattle.keys.specs.Keys.{Key, order, clear_wide}
use Rattle.octets.specs.Tests.{all}
use Rattle.octets.proofs.PartLaws.{length_part, part_two}
use Rattle.octets.proofs.NumberLaws.{Bytes, bytes_part, bytes_drop, bytes_in}
use Rattle.octets.proofs.TestLaws.{all_true}
use Rattle.keys.proofs.OrderLaws.{Below, BelowFirst, Rising, less_true}
use Rattle.octets.proofs.ZeroLaws.{zeros_behind, part_filled}
use Rattle.keys.proofs.ClearLaws.{clear_wide_law}
use Rattle.keys.proofs.WideLaws.{Widened, widened_order, widened_part}
use Rattle.store.specs.declared.namespaces.Label.{Label}
use Rattle.legal.specs.declared.checks.Sums.{Sums}
use Rattle.table.specs.Formats.{format_of}
use Rattle.store.specs.Maps.{Pair, pair, keys, used, values}
use Rattle.store.specs.Records.{record_of, records_of, key_length, place, value_length, owner, wide_in, slot_in, pairs_in}
use Rattle.legal.specs.Checks.{slot_tests, pass_over}
use Rattle.store.proofs.NamespaceLaws.{Admitted, Permitted, format_bounds}
use Rattle.store.proofs.RecordLaws.{length_record, sixteen_in, key_length_in, place_in, value_length_in, id_in, rest_in}

-- the tests of a record and the pass, under a label's own format
abbrev passing : Label → ℕ → Wide → List ℕ → Bool
passing h t w s = all (slot_tests h.id (format_of h.index) t w (slot_in s))

abbrev pub pass : ℕ → Label → ℕ → ℕ → Wide → List ℕ → Option Sums
pass n h t u w s = pass_over n h.id (format_of h.index) t u w s

-- ---- one record

-- s begins with the record of p, which the format admits behind the key j
record Fit (h : Label) (t : ℕ) (j : Key) (p : Pair) (x s : List ℕ) : Type 0 where
  image : record_of h.id t p ++ x ≡ s
  below : Below j p.key
  some : 1 ≤ length p.key
  short : length p.key ≤ (format_of h.index).keymax
  small : length p.value ≤ (format_of h.index).valuemax

clear_is : (s : List ℕ) → Bytes s → 16 ≤ length s → clear_wide (wide_in s) ≡ all_zero (drop (key_length s) (part 0 16 s))
clear_is s b l = clear_wide_law (key_length s) (part 0 16 s) (bytes_part 0 16 s b l) (length_part 0 16 s l)

-- 32 bytes are their five parts
five : (s a b c d e : List ℕ) → a ≡ part 0 16 s → b ≡ part 16 4 s → c ≡ part 20 4 s → d ≡ part 24 4 s → e ≡ part 28 4 s
    → a ++ b ++ c ++ d ++ e ≡ part 0 32 s
five s a b c d e ea eb ec ed ee =
    rw (ea, eb, ec, ed, ee, part_two 0 28 4 s, part_two 0 24 4 s, part_two 0 20 4 s, part_two 0 16 4 s)

module _ {h : Label} (permits : Permitted h.index h.id h.size) where
  module _ {t : ℕ} {j : Key} {p : Pair} {x s : List ℕ} (f : Fit h t j p x s) where
    k16 : length p.key ≤ 16
    k16 = omega (arith, format_bounds h.index permits.index, f.short)

    key_long : key_length s ≡ length p.key
    key_long = rw (← f.image) (key_length_in h.id t p k16 x)

    value_long : value_length s ≡ length p.value
    value_long = rw (← f.image) (value_length_in h.id t p k16 x (omega (arith, format_bounds h.index permits.index, f.small)))

    sixteen : part 0 16 s ≡ filled 16 p.key
    sixteen = rw (← f.image) (sixteen_in h.id t p k16 x)

    behind : drop 32 s ≡ x
    behind = rw (← f.image) (rest_in h.id t p k16 x)

    long : 32 ≤ length s
    long = rw (← f.image, length-append) (omega (arith, length_record h.id t p k16))

    wide : Bytes s → Widened (wide_in s) p.key
    wide b = record { is = rw (sixteen, key_long); short = k16; bytes = rw sixteen at (bytes_part 0 16 s b (omega (arith, long))) }

    passes : {w : Wide} → Bytes s → Widened w j → t < 2 ^ 32 → passing h t w s ≡ true
    passes b wj low =
        rw (
          le-leb 1 (key_length s) (omega (arith, key_long, f.some)),
          le-leb (key_length s) (format_of h.index).keymax (omega (arith, key_long, f.short)),
          le-leb (value_length s) (format_of h.index).valuemax (omega (arith, value_long, f.small)),
          eq-eqb (place s) t (rw (← f.image) (place_in h.id t p k16 x low)),
          eq-eqb (owner s) h.id (rw (← f.image) (id_in h.id t p k16 x (omega (arith, permits.id_high)))),
          widened_order wj (wide b),
          f.below,
          clear_is s b (omega (arith, long)),
          key_long,
          sixteen,
        ) (zeros_behind 16 p.key refl)

  -- bytes that pass are the record of the pair that stands in them
  fits : {t : ℕ} {w : Wide} {j : Key} (s vs : List ℕ) → Widened w j → Bytes s → 32 ≤ length s → value_length s ≤ length vs
      → passing h t w s ≡ true → Fit h t j (pair (take (key_length s) s) (take (value_length s) vs)) (drop 32 s) s
  unfolding record_of part
  fits {t} {w} {j} s vs wj b l m e =
      let k = key_length s in
      let a = all_true (slot_tests h.id (format_of h.index) t w (slot_in s)) e in
      let top = leb-true k (format_of h.index).keymax a.1.0 in
      let short : k ≤ 16 = omega (arith, format_bounds h.index permits.index) in
      let padded = sym (clear_is s b (omega arith)) ∙ a.1.1.1.1.1.1.0 in
      let lk : length (take k s) ≡ k = length-take-le k s (omega arith) in
      let lv : length (take (value_length s) vs) ≡ value_length s = length-take-le (value_length s) vs m in
      record {
        image =
            ap (λ (c : List ℕ). c ++ drop 32 s)
            (five s _ _ _ _ _ (sym (part_filled 0 k 16 s (omega arith) short padded)) (ap (bytes 4) lk ∙ bytes_in 16 4 s b (omega arith))
            (ap (bytes 4) (sym (eqb-true _ _ a.1.1.1.0)) ∙ bytes_in 20 4 s b (omega arith))
            (ap (bytes 4) lv ∙ bytes_in 24 4 s b (omega arith))
            (ap (bytes 4) (sym (eqb-true _ _ a.1.1.1.1.0)) ∙ bytes_in 28 4 s b (omega arith)))
            ∙ take-append-drop 32 s;
        below =
            less_true (order j (take k s))
            (sym (ap is_lt (widened_order wj (widened_part 0 k s b (omega arith) short padded))) ∙ a.1.1.1.1.1.0);
        some = omega (arith, leb-true 1 k a.0);
        short = omega arith;
        small = omega (arith, leb-true (value_length s) (format_of h.index).valuemax a.1.1.0);
      }

-- ---- many records

taken : (b : Bool) (o : Option Sums) {r : Sums} → cond b o None ≡ Some r → (b ≡ true) × (o ≡ Some r)
taken true o e = (refl, e)
taken false o e = absurd cc

-- the sums only grow, the used room by no less than the total
pub grows : (n : ℕ) (h : Label) (t u : ℕ) (w : Wide) (s : List ℕ) {r : Sums} → pass n h t u w s ≡ Some r → (t ≤ r.total) × (r.total + u ≤ r.used + t)
unfolding pass_over
grows zero h t u w s {r} e =
    let q : record { total = t; used = u } ≡ r = cc in
    rw (← q) (omega arith, omega arith)
grows (suc n) h t u w s e =
    let q = taken (passing h t w s) _ e in
    let g = grows n h (t + value_length s) (u + (key_length s + value_length s)) (wide_in s) (drop 32 s) q.1 in
    (omega arith, omega arith)

-- s begins with the records of m, which the format admits behind the key j
pub record Stands (h : Label) (t : ℕ) (j : Key) (m : List Pair) (s : List ℕ) : Type 0 where
  pub rest : List ℕ
  pub image : records_of h.id t m ++ rest ≡ s
  pub first : BelowFirst j (keys m)
  pub rising : Rising (keys m)
  pub admitted : Admitted h.index m

module _ {h : Label} (permits : Permitted h.index h.id h.size) where
  more : {t v : ℕ} {j : Key} {p : Pair} {m : List Pair} {x s : List ℕ} → Fit h t j p x s → v ≡ length p.value
      → Stands h (t + v) p.key m x → Stands h t j (p ∷ m) s
  more f e g = record {
    rest = g.rest;
    image = rw (← e, append_assoc, g.image) f.image;
    first = f.below;
    rising = (g.first, g.rising);
    admitted = (f.some, f.short, f.small, g.admitted);
  }

  -- records that pass are those of the pairs that stand in them
  pub sound : (n t u : ℕ) {j : Key} {w : Wide} (s vs : List ℕ) {r : Sums} → Widened w j → Bytes s → 32 * n ≤ length s
      → pass n h t u w s ≡ Some r → r.total ≤ t + length vs → Stands h t j (pairs_in n s vs) s
  unfolding pass_over
  sound zero t u s vs wj b l e y = record { rest = s; image = refl; first = tt; rising = tt; admitted = tt }
  sound (suc n) t u {j} {w} s vs wj b l e y =
      let v = value_length s in
      let u2 = u + (key_length s + v) in
      let q = taken (passing h t w s) _ e in
      let g = grows n h (t + v) u2 (wide_in s) (drop 32 s) q.1 in
      let f = fits permits s vs wj b (omega arith) (omega arith) q.0 in
      more f (value_long permits f)
      (sound n (t + v) u2 (drop 32 s) (drop v vs) (wide permits f b) (bytes_drop 32 s b) (omega (arith, length-drop 32 s)) q.1
      (omega (arith, length-drop v vs)))

  -- the records of pairs pass
  pub complete : (m : List Pair) (t u : ℕ) {j : Key} {w : Wide} {s : List ℕ} → Stands h t j m s → Widened w j → Bytes s
      → t + length (values m) < 2 ^ 32 → pass (length m) h t u w s ≡ Some (record { total = t + length (values m); used = u + used m })
  unfolding pass_over
  complete [] t u a wj b low = simp add-zero
  complete (p ∷ m) t u {j} {w} {s} a wj b low =
      let v = length p.value in
      let y = records_of h.id (t + v) m ++ a.rest in
      let f : Fit h t j p y s =
      record { image = rw append_assoc at a.image; below = a.first; some = a.admitted.0; short = a.admitted.1; small = a.admitted.2 } in
      let g : Stands h (t + v) p.key m y =
      record { rest = a.rest; image = refl; first = a.rising.0; rising = a.rising.1; admitted = a.admitted.3 } in
      let x_t : t + v + length (values m) ≡ t + length (p.value ++ values m) = rw length-append (omega arith) in
      let x_u : u + (length p.key + v) + used m ≡ u + (length p.key + v + used m) = omega arith in
      let b2 : Bytes y = rw (behind permits f) at (bytes_drop 32 s b) in
      rw (passes permits f b wj (omega arith), value_long permits f, key_long permits f, behind permits f, ← x_t, ← x_u)
      (complete m (t + v) (u + (length p.key + v)) g (rw (key_long permits f) at (wide permits f b)) b2 (omega arith))
