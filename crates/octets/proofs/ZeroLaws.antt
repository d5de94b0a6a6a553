-- The laws of `all_zero`, `same` and `filled`: what has zeros behind its first bytes is those bytes, filled. Assumes nothing.
use mathlib.Core.Path.{◌≡◌, refl, sym, ap, ◌∙◌, ap₂}
use mathlib.Core.Bool.{Bool, true, ◌&&◌, and-true, and_assoc}
use mathlib.Core.List.{List, [], ◌∷◌, ◌++◌}
use Prim.Native.Nat.{ℕ, zero, suc, ◌+◌, ◌-◌, ◌*◌, ◌≤◌}
use native.Mathlib.Nat.{zero-mul, suc-mul, sub-zero, zero-sub, suc-sub-suc}
use native.Mathlib.Omega.{arith}
use lib.Bits.{bit_or, or_zero_l, or_add_and, and_le_r}
use lib.Dec.{eqb}
use lib.ListN.{length, drop, length-append, length-drop, length-replicate, get_or-replicate, take-append-drop}
use lib.Seq.{drop-drop, take-take, drop-append_seam}
use borrow.Author.Tests.{eqb-true, eq-eqb, ne_eqb}
use Rattle.std.specs.List.{fold, list_all}
use Rattle.std.specs.Simd.{first_chunks}
use Rattle.octets.specs.Octets.{part, put, zeros, filled, all_zero, same}
use Rattle.octets.proofs.TestLaws.{both}
use Rattle.octets.proofs.PartLaws.{put_front, length_part}
use Rattle.octets.proofs.NumberLaws.{Bytes}

pub zeros_all : (n : ℕ) → all_zero (zeros n) ≡ true
zeros_all zero = refl
zeros_all (suc n) = zeros_all n

pub all_zeros : (xs : List ℕ) → all_zero xs ≡ true → xs ≡ zeros (length xs)
all_zeros [] e = refl
all_zeros (x ∷ xs) e =
    let b = both (eqb x 0) (all_zero xs) e in
    cc (eqb-true x 0 b.0, all_zeros xs b.1)

pub zero_append : (xs ys : List ℕ) → all_zero (xs ++ ys) ≡ (all_zero xs && all_zero ys)
zero_append [] ys = refl
zero_append (x ∷ xs) ys = rw (zero_append xs ys) (sym (and_assoc (eqb x 0) (all_zero xs) (all_zero ys)))

-- a byte joined to those seen is zero exactly if both are
or_zero : (a x : ℕ) (b : Bool) → (eqb (bit_or a x) 0 && b) ≡ (eqb a 0 && (eqb x 0 && b))
or_zero zero x b = rw (or_zero_l x)
or_zero (suc a) x b =
    rw (ne_eqb (suc a) 0 (λ e. omega arith), ne_eqb (bit_or (suc a) x) 0 (λ e. omega (arith, or_add_and (suc a) x, and_le_r (suc a) x)))

pub zero_joined : (a : ℕ) (xs : List ℕ) → eqb (fold bit_or a xs) 0 ≡ (eqb a 0 && all_zero xs)
zero_joined a [] = sym (and-true (eqb a 0))
zero_joined a (x ∷ xs) = zero_joined (bit_or a x) xs ∙ or_zero a x (all_zero xs)

-- k blocks of n bytes are tested by themselves, and what is behind them
zero_blocks : (n k : ℕ) (xs : List ℕ) → (list_all all_zero (first_chunks n k xs) && all_zero (drop (k * n) xs)) ≡ all_zero xs
zero_blocks n zero xs = rw zero-mul
zero_blocks n (suc k) xs =
    let d : drop (k * n) (drop n xs) ≡ drop (suc k * n) xs = drop-drop (k * n) n xs ∙ ap (λ (i : ℕ). drop i xs) (rw suc-mul (omega arith)) in
    rw (← d, and_assoc, zero_blocks n k (drop n xs), ← zero_append, take-append-drop)

pub zero_parts : (n k : ℕ) (xs : List ℕ) {b : Bool} {rest : List ℕ} {blocks : List (List ℕ)} → b ≡ list_all all_zero blocks → blocks ≡ first_chunks n k xs
    → rest ≡ drop (k * n) xs → (b && all_zero rest) ≡ all_zero xs
zero_parts n k xs b e r = rw (b, e, r) (zero_blocks n k xs)

pub same_self : (xs : List ℕ) → same xs xs ≡ true
same_self [] = refl
same_self (x ∷ xs) = rw (eq-eqb x x refl, same_self xs)

pub true_same : (xs ys : List ℕ) → xs ≡ ys → same xs ys ≡ true
true_same xs ys e = rw e (same_self ys)

pub same_true : (xs ys : List ℕ) → same xs ys ≡ true → xs ≡ ys
same_true [] [] e = refl
same_true [] (y ∷ ys) e = cc
same_true (x ∷ xs) [] e = cc
same_true (x ∷ xs) (y ∷ ys) e =
    let b = both (eqb x y) (same xs ys) e in
    cc (eqb-true x y b.0, same_true xs ys b.1)

pub length_filled : (n : ℕ) (xs : List ℕ) → length xs ≤ n → length (filled n xs) ≡ n
length_filled n xs h = simp (length-append, length-replicate) (omega arith)

pub zeros_behind : (n : ℕ) (xs : List ℕ) {s : List ℕ} → s ≡ filled n xs → all_zero (drop (length xs) s) ≡ true
zeros_behind n xs e = rw (e, drop-append_seam) (zeros_all (n - length xs))

drop_zeros : (n k : ℕ) → drop k (zeros n) ≡ zeros (n - k)
drop_zeros n zero = rw sub-zero
drop_zeros zero (suc k) = rw zero-sub
drop_zeros (suc n) (suc k) = rw suc-sub-suc (drop_zeros n k)

-- what is put at the front of zeros has zeros behind it
pub put_zeros : (n : ℕ) (xs : List ℕ) → put 0 xs (zeros n) ≡ filled n xs
put_zeros n xs = put_front xs (zeros n) ∙ rw drop_zeros

-- zeros behind the first n of a part's bytes
pub part_filled : (at n m : ℕ) (xs : List ℕ) → at + m ≤ length xs → n ≤ m → all_zero (drop n (part at m xs)) ≡ true
    → part at m xs ≡ filled m (part at n xs)
unfolding part
part_filled at n m xs h l z =
    let c : length (drop n (part at m xs)) ≡ m - length (part at n xs) =
    rw length-drop (omega (arith, length_part at m xs h, length_part at n xs (omega arith))) in
    sym (take-append-drop n (part at m xs)) ∙ ap₂ ◌++◌ (take-take n m (drop at xs) l) (all_zeros _ z ∙ ap zeros c)

bytes_zeros : (xs : List ℕ) (n : ℕ) → Bytes xs → Bytes (xs ++ zeros n)
bytes_zeros [] n b i h = rw (get_or-replicate {A = ℕ} n i 0 0 (rw length-replicate at h)) (omega arith)
bytes_zeros (x ∷ xs) n b zero h = b 0 (omega arith)
bytes_zeros (x ∷ xs) n b (suc i) h = bytes_zeros xs n (λ j l. b (suc j) (omega arith)) i (omega arith)

pub bytes_filled : (n : ℕ) (xs : List ℕ) → Bytes xs → Bytes (filled n xs)
bytes_filled n xs b = bytes_zeros xs (n - length xs) b
