-- The order of keys by numbers: of equally many bytes by their big-endian number, and of keys with zeros behind them by those and
-- then by their lengths; a key held as such numbers. Assumes nothing.
use mathlib.Core.Path.{◌≡◌, refl, sym, ap, ap₂, ◌∙◌}
use mathlib.Core.Bool.{true, ◌&&◌}
use mathlib.Core.List.{List, [], ◌∷◌, ◌++◌, append-nil}
use Prim.Native.Nat.{ℕ, zero, suc, ◌+◌, ◌-◌, ◌*◌, ◌≤◌, ◌<◌}
use native.Mathlib.Omega.{arith}
use lib.Dec.{eqb}
use lib.ListN.{length, drop, length-append, length-replicate}
use Rattle.std.specs.Ordering.{nat_cmp, ordering_then, ordering_reverse, is_lt, is_eq, is_some_and, partial_lt}
use Rattle.std.specs.Cmp.{then_flip}
use Rattle.std.specs.declared.cmp.Ordering.{Ordering}
use Rattle.std.specs.declared.cmp.Ordering.TheVariants.{Less, Equal, Greater}
use Rattle.std.proofs.lemmas.Cmp.{ranked}
use Rattle.keys.specs.declared.orders.Wide.{Wide}
use Rattle.keys.specs.contracts.orders.WidePartialOrd.TheImpl.{partial_cmp-value}
use Rattle.keys.specs.contracts.orders.WideOrd.TheImpl.Laws.{matches_partial_cmp-law, matches_eq-law}
use Rattle.octets.specs.Octets.{part, zeros, filled, all_zero}
use Rattle.keys.specs.Keys.{Key, order, big, big_from, wide_of, order_wide}
use Rattle.octets.proofs.PartLaws.{length_part, part_two, part_whole}
use Rattle.octets.proofs.NumberLaws.{Bytes, bytes_part}
use Rattle.octets.proofs.ZeroLaws.{length_filled, part_filled, bytes_filled}
use Rattle.keys.proofs.OrderLaws.{Ordered, cmp_is, then_assoc, then_equal, order_self, order_flip}

-- ---- one byte more

cmp_suc : (m n : ℕ) → nat_cmp (suc m) (suc n) ≡ nat_cmp m n
cmp_suc m n = cmp_is (suc m) (suc n) (nat_cmp m n) (by (nat_cmp m n) (ranked m n (nat_cmp m n) refl))
  where
    by : (o : Ordering) → Ordered m n o → Ordered (suc m) (suc n) o
    by Less h = omega arith
    by Equal h = omega arith
    by Greater h = omega arith

cmp_byte : (m n x y : ℕ) → x < 256 → y < 256 → nat_cmp (m * 256 + x) (n * 256 + y) ≡ ordering_then (nat_cmp m n) (nat_cmp x y)
cmp_byte m n x y hx hy =
    cmp_is (m * 256 + x) (n * 256 + y) (ordering_then (nat_cmp m n) (nat_cmp x y))
    (by (nat_cmp m n) (ranked m n (nat_cmp m n) refl) (nat_cmp x y) (ranked x y (nat_cmp x y) refl))
  where
    by : (o : Ordering) → Ordered m n o → (p : Ordering) → Ordered x y p → Ordered (m * 256 + x) (n * 256 + y) (ordering_then o p)
    by Less h p k = omega arith
    by Equal h Less k = omega arith
    by Equal h Equal k = omega arith
    by Equal h Greater k = omega arith
    by Greater h p k = omega arith

-- ---- equally many bytes

order_from : (m n : ℕ) (xs ys us vs : List ℕ) → Bytes xs → Bytes ys → length xs ≡ length ys
    → ordering_then (nat_cmp m n) (order (xs ++ us) (ys ++ vs)) ≡ ordering_then (nat_cmp (big_from m xs) (big_from n ys)) (order us vs)
order_from m n [] [] us vs hx hy e = refl
order_from m n [] (y ∷ ys) us vs hx hy e = absurd (omega arith)
order_from m n (x ∷ xs) [] us vs hx hy e = absurd (omega arith)
order_from m n (x ∷ xs) (y ∷ ys) us vs hx hy e =
    sym (then_assoc (nat_cmp m n) (nat_cmp x y) (order (xs ++ us) (ys ++ vs)))
    ∙ rw (← cmp_byte m n x y (hx 0 (omega arith)) (hy 0 (omega arith)))
    (order_from (m * 256 + x) (n * 256 + y) xs ys us vs (λ i h. hx (suc i) (omega arith)) (λ i h. hy (suc i) (omega arith)) (omega arith))

-- ---- keys with zeros behind them

zeros_first : (i : ℕ) (zs : List ℕ) → length zs ≡ i → ordering_then (order (zeros i) zs) Less ≡ Less
zeros_first zero [] e = refl
zeros_first zero (z ∷ zs) e = absurd (omega arith)
zeros_first (suc i) [] e = absurd (omega arith)
zeros_first (suc i) (zero ∷ zs) e = zeros_first i zs (omega arith)
zeros_first (suc i) (suc z ∷ zs) e = rw (cmp_is 0 (suc z) Less (omega arith))

zeros_last : (i : ℕ) (zs : List ℕ) → length zs ≡ i → ordering_then (order zs (zeros i)) Greater ≡ Greater
zeros_last i zs e = rw (order_flip (zeros i) zs) (then_flip (order (zeros i) zs) Less ∙ ap ordering_reverse (zeros_first i zs e))

pub order_padded : (xs ys : List ℕ) (i j : ℕ) → length xs + i ≡ length ys + j
    → ordering_then (order (xs ++ zeros i) (ys ++ zeros j)) (nat_cmp (length xs) (length ys)) ≡ order xs ys
order_padded [] [] i j e =
    let q : i ≡ j = omega arith in
    rw (q, order_self (zeros j))
order_padded [] (y ∷ ys) i j e =
    rw (cmp_is 0 (suc (length ys)) Less (omega arith)) (zeros_first i (y ∷ ys ++ zeros j) (simp (length-append, length-replicate) (omega arith)))
order_padded (x ∷ xs) [] i j e =
    rw (cmp_is (suc (length xs)) 0 Greater (omega arith)) (zeros_last j (x ∷ xs ++ zeros i) (simp (length-append, length-replicate) (omega arith)))
order_padded (x ∷ xs) (y ∷ ys) i j e =
    then_assoc (nat_cmp x y) (order (xs ++ zeros i) (ys ++ zeros j)) (nat_cmp (suc (length xs)) (suc (length ys)))
    ∙ rw (cmp_suc (length xs) (length ys)) (ap (ordering_then (nat_cmp x y)) (order_padded xs ys i j (omega arith)))

-- sixteen bytes by two numbers
pub halves : (xs : List ℕ) → length xs ≡ 16 → xs ≡ part 0 8 xs ++ part 8 8 xs
halves xs l = sym (part_whole 16 xs l) ∙ part_two 0 8 8 xs

order_16 : (xs ys : List ℕ) → Bytes xs → Bytes ys → length xs ≡ 16 → length ys ≡ 16
    → order xs ys ≡ ordering_then (nat_cmp (big (part 0 8 xs)) (big (part 0 8 ys))) (nat_cmp (big (part 8 8 xs)) (big (part 8 8 ys)))
unfolding big
order_16 xs ys bx by lx ly =
    let last = rw (append-nil, append-nil, then_equal) at (eight 8 (omega arith) [] []) in
    ap₂ order (halves xs lx) (halves ys ly) ∙ eight 0 (omega arith) (part 8 8 xs) (part 8 8 ys) ∙ rw last
  where
    eight : (at : ℕ) → at + 8 ≤ 16 → (us vs : List ℕ)
        → order (part at 8 xs ++ us) (part at 8 ys ++ vs) ≡ ordering_then (nat_cmp (big (part at 8 xs)) (big (part at 8 ys))) (order us vs)
    eight at h us vs =
        let e = length_part at 8 xs (omega arith) ∙ sym (length_part at 8 ys (omega arith)) in
        order_from 0 0 (part at 8 xs) (part at 8 ys) us vs (bytes_part at 8 xs bx (omega arith)) (bytes_part at 8 ys by (omega arith)) e

-- sixteen bytes and a length, whatever they are
pub wide_order : (xs ys : List ℕ) (m n : ℕ) → Bytes xs → Bytes ys → length xs ≡ 16 → length ys ≡ 16
    → order_wide (wide_of xs m) (wide_of ys n) ≡ ordering_then (order xs ys) (nat_cmp m n)
unfolding wide_of
wide_order xs ys m n bx by lx ly = rw (order_16 xs ys bx by lx ly, then_assoc)

-- ---- a key in its sixteen bytes, as code holds it

-- w is the key k
pub record Widened (w : Wide) (k : Key) : Type 0 where
  pub is : w ≡ wide_of (filled 16 k) (length k)
  pub short : length k ≤ 16
  pub bytes : Bytes (filled 16 k)

pub widened_order : {w x : Wide} {j k : Key} → Widened w j → Widened x k → order_wide w x ≡ order j k
widened_order {w} {x} {j} {k} a b =
    let l = length_filled 16 j a.short in
    let m = length_filled 16 k b.short in
    let e = wide_order (filled 16 j) (filled 16 k) (length j) (length k) a.bytes b.bytes l m in
    rw (a.is, b.is, e) (order_padded j k (16 - length j) (16 - length k) (omega arith))

pub widened_none : Widened (record { high = 0; low = 0; len = 0 }) []
unfolding wide_of big part
widened_none = record { is = refl; short = omega arith; bytes = bytes_filled 16 [] (λ i l. absurd (omega arith)) }

-- sixteen bytes with zeros behind the first n
pub widened_part : (at n : ℕ) (xs : List ℕ) → Bytes xs → at + 16 ≤ length xs → n ≤ 16 → all_zero (drop n (part at 16 xs)) ≡ true
    → Widened (wide_of (part at 16 xs) n) (part at n xs)
widened_part at n xs b h l z =
    let f = part_filled at n 16 xs h l z in
    let m : length (part at n xs) ≡ n = length_part at n xs (omega arith) in
    record { is = ap₂ wide_of f (sym m); short = omega arith; bytes = rw f at (bytes_part at 16 xs b h) }

-- ---- what the derived operators answer

module _ (a b : Wide) where
  pub wide_less : partial_lt partial_cmp-value.it a b ≡ is_lt (order_wide a b)
  wide_less = ap (is_some_and is_lt) (matches_partial_cmp-law a b)

  pub wide_equal : (eqb a.high b.high && (eqb a.low b.low && eqb a.len b.len)) ≡ is_eq (order_wide a b)
  wide_equal = matches_eq-law a b
