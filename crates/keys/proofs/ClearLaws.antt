-- Zeros behind a key, by its two big-endian numbers. Assumes nothing.
use mathlib.Core.Path.{◌≡◌, refl, sym, ap, ◌∙◌}
use mathlib.Core.Bool.{Bool, true, ◌&&◌, and_comm, and-true}
use mathlib.Core.List.{List, [], ◌∷◌, ◌++◌}
use Prim.Native.Nat.{ℕ, zero, suc, ◌+◌, ◌-◌, ◌*◌, ◌%◌, ◌^◌, ◌≤◌, ◌<◌}
use native.Mathlib.Nat.{zero-add, add-zero, zero-mul, add_assoc, add-mul, mul_assoc, mul-le-mul_right, mul-add-mod_self_right}
use native.Mathlib.Omega.{arith}
use lib.Dec.{ltb, eqb}
use lib.Pow.{pow_pos, pow-add, shl_exact}
use lib.ListN.{length, take, drop, length-drop, take-append-drop, drop_of_length-le}
use lib.Seq.{drop-append-le}
use borrow.Author.Tests.{ne_eqb, le-ltb, ltb-true, ltb-false}
use Rattle.keys.specs.declared.orders.Wide.{Wide}
use Rattle.octets.specs.Octets.{part, zeros, all_zero}
use Rattle.keys.specs.Keys.{big, big_from, wide_of, clear_wide}
use Rattle.octets.proofs.TestLaws.{known, holds, fails}
use Rattle.octets.proofs.PartLaws.{length_part, drop_past}
use Rattle.octets.proofs.ZeroLaws.{zero_append}
use Rattle.keys.proofs.WideLaws.{halves}
use Rattle.octets.proofs.NumberLaws.{Bytes, bytes_part, bytes_drop}

big_append : (m : ℕ) (xs ys : List ℕ) → big_from m (xs ++ ys) ≡ big_from (big_from m xs) ys
big_append m [] ys = refl
big_append m (x ∷ xs) ys = big_append (m * 256 + x) xs ys

shifted : (m y p b : ℕ) → (m * 256 + y) * p + b ≡ m * (256 * p) + (y * p + b)
shifted m y p b = rw (add-mul (m * 256) y p, mul_assoc m 256 p) (add_assoc (m * (256 * p)) (y * p) b)

more_bytes : (k : ℕ) → 2 ^ (8 * suc k) ≡ 256 * 2 ^ (8 * k)
more_bytes k = ap (◌^◌ 2) (omega arith) ∙ pow-add 2 8 (8 * k)

-- a number before ys stands above it
big_high : (m : ℕ) (ys : List ℕ) → big_from m ys ≡ m * 2 ^ (8 * length ys) + big_from 0 ys
big_high m [] = omega arith
big_high m (y ∷ ys) =
    rw (zero-add, more_bytes (length ys), big_high y ys, big_high (m * 256 + y) ys) (shifted m y (2 ^ (8 * length ys)) (big_from 0 ys))

big_low : (ys : List ℕ) → Bytes ys → big_from 0 ys < 2 ^ (8 * length ys)
big_low [] b = omega arith
big_low (y ∷ ys) b =
    let l = big_low ys (λ i h. b (suc i) (omega arith)) in
    let h : y < 256 = b 0 (omega arith) in
    let m : y * 2 ^ (8 * length ys) ≤ 255 * 2 ^ (8 * length ys) = mul-le-mul_right (2 ^ (8 * length ys)) (omega arith) in
    rw (zero-add, more_bytes (length ys), big_high y ys) (omega arith)

both_zero : (m y : ℕ) (x : Bool) → (eqb (m * 256 + y) 0 && x) ≡ (eqb m 0 && (eqb y 0 && x))
both_zero zero y x = rw zero-add
both_zero (suc m) y x = rw (ne_eqb (suc m * 256 + y) 0 (λ e. omega arith), ne_eqb (suc m) 0 (λ e. omega arith))

big_zero : (m : ℕ) (ys : List ℕ) → eqb (big_from m ys) 0 ≡ (eqb m 0 && all_zero ys)
big_zero m [] = sym (and-true (eqb m 0))
big_zero m (y ∷ ys) = big_zero (m * 256 + y) ys ∙ both_zero m y (all_zero ys)

times_zero : (b k : ℕ) → eqb (b * 2 ^ k) 0 ≡ eqb b 0
times_zero zero k = rw (zero-mul (2 ^ k))
times_zero (suc b) k =
    let l : 1 * 2 ^ k ≤ suc b * 2 ^ k = mul-le-mul_right (2 ^ k) (omega arith) in
    rw (ne_eqb (suc b * 2 ^ k) 0 (λ e. omega (arith, pow_pos k)), ne_eqb (suc b) 0 (λ e. omega arith))

-- shifting the first n bytes out leaves the others
pub shifted_out : (n : ℕ) (xs : List ℕ) → Bytes xs → n ≤ length xs → big xs * 2 ^ (8 * n) % 2 ^ (8 * length xs) ≡ big (drop n xs) * 2 ^ (8 * n)
unfolding big
shifted_out n xs b l =
    let a = big_from 0 (take n xs) in
    let d = drop n xs in
    let k = 8 * length d in
    let e : big_from 0 xs ≡ a * 2 ^ k + big_from 0 d = ap (big_from 0) (sym (take-append-drop n xs)) ∙ big_append 0 (take n xs) d ∙ big_high a d in
    let w : 8 * length xs ≡ k + 8 * n = omega (arith, length-drop n xs) in
    let low : big_from 0 d < 2 ^ k = big_low d (bytes_drop n xs b) in
    rw (w, e, add-mul (a * 2 ^ k) (big_from 0 d) (2 ^ (8 * n)), mul_assoc a (2 ^ k) (2 ^ (8 * n)), ← pow-add 2 k (8 * n), mul-add-mod_self_right)
    (shl_exact k (8 * n) (k + 8 * n) low (omega arith))

-- zeros behind a number stand below it
zeros_below : (m n : ℕ) → big_from m (zeros n) ≡ m * 2 ^ (8 * n)
zeros_below m zero = omega arith
zeros_below m (suc n) = zeros_below (m * 256 + 0) n ∙ rw (more_bytes n, add-zero (m * 256)) (mul_assoc m 256 (2 ^ (8 * n)))

pub big_zeros : (xs : List ℕ) (n : ℕ) → big (xs ++ zeros n) ≡ big xs * 2 ^ (8 * n)
unfolding big
big_zeros xs n = big_append 0 xs (zeros n) ∙ zeros_below (big_from 0 xs) n

shift_clear : (n : ℕ) (xs : List ℕ) → Bytes xs → n ≤ length xs → eqb (big xs * 2 ^ (8 * n) % 2 ^ (8 * length xs)) 0 ≡ all_zero (drop n xs)
unfolding big
shift_clear n xs b l =
    let d = drop n xs in
    rw (shifted_out n xs b l, times_zero (big_from 0 d) (8 * n)) (big_zero 0 d)

zero_big : (ys : List ℕ) → eqb (big ys) 0 ≡ all_zero ys
unfolding big
zero_big ys = big_zero 0 ys

eight : (n : ℕ) (ys : List ℕ) → Bytes ys → length ys ≡ 8 → n ≤ 8 → eqb (big ys * 2 ^ (8 * n) % 2 ^ 64) 0 ≡ all_zero (drop n ys)
eight n ys b l h = rw l at (shift_clear n ys b (omega arith))

module _ (n : ℕ) (xs : List ℕ) (b : Bytes xs) (l : length xs ≡ 16) where
  front : length (part 0 8 xs) ≡ 8
  front = length_part 0 8 xs (omega arith)

  low : n < 8 → (eqb (big (part 8 8 xs)) 0 && eqb (big (part 0 8 xs) * 2 ^ (8 * n) % 2 ^ 64) 0) ≡ all_zero (drop n xs)
  low h =
      let p = part 0 8 xs in
      let q = part 8 8 xs in
      let d = ap (drop n) (halves xs l) ∙ drop-append-le n p q (omega (arith, front)) in
      let e = eight n p (bytes_part 0 8 xs b (omega arith)) front (omega arith) in
      rw (zero_big q, e, d, zero_append (drop n p) q) (and_comm (all_zero q) (all_zero (drop n p)))

  high : 8 ≤ n → n ≤ 16 → eqb (big (part 8 8 xs) * 2 ^ (8 * (n - 8)) % 2 ^ 64) 0 ≡ all_zero (drop n xs)
  high h k =
      let m : 8 + (n - 8) ≡ n = omega arith in
      let q = part 8 8 xs in
      let d = ap (drop (8 + (n - 8))) (halves xs l) ∙ drop_past (part 0 8 xs) q 8 (n - 8) front in
      eight (n - 8) q (bytes_part 8 8 xs b (omega arith)) (length_part 8 8 xs (omega arith)) (omega arith) ∙ rw (← d, m)

  pub clear_wide_law : clear_wide (wide_of xs n) ≡ all_zero (drop n xs)
  unfolding clear_wide wide_of
  clear_wide_law =
      elim (known (ltb n 8)) [
        | holds p ↦ rw p (low (ltb-true n 8 p))
        | fails p ↦ elim (known (ltb n 16)) [
          | holds q ↦ rw (p, q) (high (ltb-false n 8 p) (omega (arith, ltb-true n 16 q)))
          | fails q ↦ rw (p, q, drop_of_length-le xs {i = n} (omega (arith, ltb-false n 16 q)))
        ]
      ]

-- a key of eight bytes or more whose low number is zero
pub clear_low : (w : Wide) → 8 ≤ w.len → w.low ≡ 0 → true ≡ clear_wide w
unfolding clear_wide
clear_low w h e = rw (le-ltb w.len 8 h, e, zero-mul) (elim (known (ltb w.len 16)) [ holds f ↦ rw f | fails f ↦ rw f ])
