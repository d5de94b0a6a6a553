-- A key as two numbers, by its first and its last eight bytes. Assumes nothing.
use mathlib.Core.Path.{◌≡◌, sym, ap, ◌∙◌}
use mathlib.Core.List.{List, ◌++◌}
use Prim.Native.Nat.{ℕ, ◌+◌, ◌-◌, ◌*◌, ◌%◌, ◌^◌, ◌≤◌, ◌<◌}
use native.Mathlib.Omega.{arith}
use lib.ListN.{length, take, drop, length-append, length-drop, length-replicate, drop_of_length-le}
use lib.Seq.{take_all, drop-drop, take-append-le, drop-append-le}
use Rattle.octets.specs.Octets.{part, zeros, filled}
use Rattle.octets.proofs.PartLaws.{part_rest, part_whole}
use Rattle.octets.proofs.NumberLaws.{Bytes, bytes_drop}
use Rattle.octets.proofs.ZeroLaws.{length_filled}
use Rattle.keys.specs.declared.orders.Wide.{Wide}
use Rattle.keys.specs.Keys.{Key, big, wide_of}
use Rattle.keys.proofs.ClearLaws.{shifted_out, big_zeros}

-- in sixteen bytes
pub padded_wide : (k : Key) → length k ≤ 16 → {x : List ℕ} {w : Wide} → x ≡ filled 16 k → w ≡ wide_of (part 0 16 x) (length k)
    → w ≡ wide_of (filled 16 k) (length k)
padded_wide k l f g = g ∙ ap (λ (y : List ℕ). wide_of y (length k)) (ap (part 0 16) f ∙ part_whole 16 (filled 16 k) (length_filled 16 k l))

-- the last eight bytes, with the first m shifted out
pub last_shifted : (k : Key) (m : ℕ) → 8 ≤ length k → m < 8 → Bytes k → {l r : ℕ} → l ≡ big (part (length k - 8) 8 k)
    → r ≡ l * 2 ^ (8 * m) % 2 ^ 64 → r ≡ big (drop (length k - 8 + m) k) * 2 ^ (8 * m)
last_shifted k m long few b p q =
    let from = length k - 8 in
    let eight : 8 ≡ length k - from = omega arith in
    let rest : part from 8 k ≡ drop from k = ap (λ (n : ℕ). part from n k) eight ∙ part_rest from k in
    let len : length (drop from k) ≡ 8 = omega (arith, length-drop from k) in
    let s = rw len at (shifted_out m (drop from k) (bytes_drop from k b) (omega arith)) in
    q ∙ rw (p, rest, ← drop-drop m from k) s

module _ (k : Key) (short : length k ≤ 16) (long : 8 ≤ length k) where
  abbrev n : ℕ
  n = length k

  front : part 0 8 (filled 16 k) ≡ part 0 8 k
  unfolding part
  front = take-append-le 8 k (zeros (16 - n)) long

  back : part 8 8 (filled 16 k) ≡ drop 8 k ++ zeros (16 - n)
  unfolding part
  back =
      let l : length (drop 8 k ++ zeros (16 - n)) ≤ 8 = simp (length-append, length-drop, length-replicate) (omega arith) in
      ap (take 8) (drop-append-le 8 k (zeros (16 - n)) long) ∙ take_all 8 (drop 8 k ++ zeros (16 - n)) l

  second : big (part 8 8 (filled 16 k)) ≡ big (drop 8 k) * 2 ^ (8 * (16 - n))
  second = rw back (big_zeros (drop 8 k) (16 - n))

  wide : {h l : ℕ} → h ≡ big (part 0 8 k) → l ≡ big (drop 8 k) * 2 ^ (8 * (16 - n)) → record { high = h; low = l; len = n } ≡ wide_of (filled 16 k) n
  unfolding wide_of
  wide p q = rw (p, q, front, second)

  pub eight_wide : {h : ℕ} → h ≡ big (part 0 8 k) → n ≡ 8 → record { high = h; low = 0; len = 8 } ≡ wide_of (filled 16 k) n
  unfolding big
  eight_wide {h} p e =
      let z : 0 ≡ big (drop 8 k) * 2 ^ (8 * (16 - n)) = rw (drop_of_length-le k {i = 8} (omega arith)) (omega arith) in
      ap (λ (m : ℕ). record { high = h; low = 0; len = m }) (sym e) ∙ wide p z

  -- the bytes behind the eighth are the last of the last eight
  pub last_wide : {h l : ℕ} → h ≡ big (part 0 8 k) → l ≡ big (drop (n - 8 + (16 - n)) k) * 2 ^ (8 * (16 - n))
      → record { high = h; low = l; len = n } ≡ wide_of (filled 16 k) n
  last_wide p q =
      let d : n - 8 + (16 - n) ≡ 8 = omega arith in
      wide p (rw d at q)
