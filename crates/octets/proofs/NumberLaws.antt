-- The laws of `number` and `bytes`, over the width: what is written is read, and what was read is written back. Assumes nothing.
use mathlib.Core.Path.{◌≡◌, refl, ap, ◌∙◌}
use mathlib.Core.List.{List, [], ◌∷◌, ◌++◌}
use Prim.Native.Nat.{ℕ, zero, suc, ◌+◌, ◌-◌, ◌*◌, ◌/◌, ◌%◌, ◌^◌, ◌≤◌, ◌<◌}
use native.Mathlib.Nat.{pow-suc}
use native.Mathlib.Omega.{arith}
use lib.ListN.{length, take, drop, get_or, length-drop}
use lib.Seq.{get_or-drop, take-suc, take_all, length-take-le}
use mir.Syntax.{w8}
use mir.Val.{Val}
use denote.Array.{each}
use denote.Plain.{UInt}
use denote.Shadow.{shadow}
use borrow.Author.Rules.{elem_Fits}
use Rattle.std.specs.Int.{Width, byte_len, byte_worth, sum_through, from_le_bytes}
use Rattle.octets.specs.Octets.{part, number, bytes}
use Rattle.octets.proofs.PartLaws.{length_part, get_d_part}

pub number_bytes : (k n : ℕ) → n < 256 ^ k → number (bytes k n) ≡ n
unfolding number
number_bytes zero n h = omega arith
number_bytes (suc k) n h =
    let p : n < 256 ^ k * 256 = rw pow-suc at h in
    let q : number (bytes k (n / 256)) ≡ n / 256 = number_bytes k (n / 256) (omega arith) in
    omega arith

abbrev pub Bytes : List ℕ → Type 0
Bytes xs = (i : ℕ) → i < length xs → get_or xs i 0 < 256

-- what an array of bytes holds
pub array_bytes : (xs : List ℕ) (us : List Val) → shadow (each ℕ (UInt w8).own_val xs us) → Bytes xs
array_bytes xs us p i l = (elem_Fits w8 w8 xs us i p tt).fits

pub bytes_number : (xs : List ℕ) → Bytes xs → bytes (length xs) (number xs) ≡ xs
unfolding number
bytes_number [] h = refl
bytes_number (x ∷ xs) h =
    let l : x < 256 = h 0 (omega arith) in
    let m : (x + 256 * number xs) % 256 ≡ x = omega arith in
    let d : (x + 256 * number xs) / 256 ≡ number xs = omega arith in
    rw (m, d, bytes_number xs (λ i l. h (suc i) (omega arith)))

pub bytes_part : (from n : ℕ) (xs : List ℕ) → Bytes xs → from + n ≤ length xs → Bytes (part from n xs)
bytes_part from n xs b h i m =
    let l : length (part from n xs) ≡ n = length_part from n xs h in
    rw (get_d_part from n i xs (omega arith)) (b (from + i) (omega arith))

pub bytes_drop : (n : ℕ) (xs : List ℕ) → Bytes xs → Bytes (drop n xs)
bytes_drop n xs b i l = rw get_or-drop (b (n + i) (omega (arith, length-drop n xs)))

-- what a part of k bytes reads as is written as that part
pub bytes_in : (at k : ℕ) (xs : List ℕ) → Bytes xs → at + k ≤ length xs → bytes k (number (part at k xs)) ≡ part at k xs
bytes_in at k xs b h = rw (length_part at k xs h) at (bytes_number (part at k xs) (bytes_part at k xs b h))

-- ---- the same as the library's words

number_append : (xs ys : List ℕ) → number (xs ++ ys) ≡ number xs + 256 ^ length xs * number ys
unfolding number
number_append [] ys = omega arith
number_append (x ∷ xs) ys = rw (number_append xs ys, pow-suc) (omega arith)

number_one : (x : ℕ) → number (x ∷ []) ≡ x
unfolding number
number_one x = omega arith

worth : (k b : ℕ) → byte_worth k b ≡ 256 ^ k * b
worth zero b = omega arith
worth (suc k) b = omega arith

number_sum : (k : ℕ) (xs : List ℕ) → k < length xs → sum_through (λ i. byte_worth i (get_or xs i 0)) k ≡ number (take (suc k) xs)
number_sum zero xs h = rw (take-suc xs zero 0 h, number_one)
number_sum (suc k) xs h =
    rw (take-suc xs (suc k) 0 h, number_append, number_sum k xs (omega arith), length-take-le (suc k) xs (omega arith), number_one, worth)

pub number_le : (w : Width) (at : ℕ) (xs : List ℕ) → 0 < byte_len w → at + byte_len w ≤ length xs
    → from_le_bytes w (part at (byte_len w) xs) ≡ number (part at (byte_len w) xs)
number_le w at xs p h =
    let ys = part at (byte_len w) xs in
    let n : length ys ≡ byte_len w = length_part at (byte_len w) xs h in
    let l : suc (byte_len w - 1) ≡ length ys = omega arith in
    number_sum (byte_len w - 1) ys (omega arith) ∙ rw l (ap number (take_all (length ys) ys (omega arith)))
