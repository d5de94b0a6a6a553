-- Keys are lists of bytes, in the order of a dictionary: the first byte that differs decides, and a key that runs out is the lower one.
-- A key in sixteen bytes is also two numbers and a length. Assumes nothing.
use Rattle.std.specs.Prelude.{◌≡◌, refl, ℕ, ◌+◌, ◌-◌, ◌*◌, ◌%◌, ◌^◌, ◌≤◌, Bool, true, cond, ◌&&◌, List, [], ◌∷◌, ltb, eqb, drop}
use Rattle.std.specs.Ordering.{nat_cmp, ordering_then, is_lt}
use Rattle.std.specs.declared.cmp.Ordering.{Ordering}
use Rattle.std.specs.declared.cmp.Ordering.TheVariants.{Less, Equal, Greater}
use Rattle.octets.specs.Octets.{part, all_zero}
use Rattle.keys.specs.declared.orders.Wide.{Wide}

abbrev pub Key : Type 0
Key = List ℕ

abbrev pub order : Key → Key → Ordering
order [] [] = Equal
order [] (y ∷ ys) = Less
order (x ∷ xs) [] = Greater
order (x ∷ xs) (y ∷ ys) = ordering_then (nat_cmp x y) (order xs ys)

-- a zero byte counts: "A", and "A" with one behind it, are two keys
pub zero_counts : order (0x41 ∷ []) (0x41 ∷ 0x00 ∷ []) ≡ Less
zero_counts = refl

-- one of three by an order
abbrev pub three {ℓ} : {A : Type ℓ} → Ordering → A → A → A → A
three Less a b c = a
three Equal a b c = b
three Greater a b c = c

abbrev pub below : Key → Key → Bool
below j k = is_lt (order j k)

-- j is below the first of the keys
abbrev pub below_first : Key → List Key → Bool
below_first j [] = true
below_first j (k ∷ ks) = below j k

-- each key is below the next
abbrev pub rising : List Key → Bool
rising [] = true
rising (k ∷ ks) = below_first k ks && rising ks

-- the keys from the first one not below j on
abbrev pub from : Key → List Key → List Key
from j [] = []
from j (k ∷ ks) = three (order j k) (k ∷ ks) (k ∷ ks) (from j ks)

-- xs are the sixteen bytes of a key of n bytes, with zeros behind it
pub record Padded (n : ℕ) (xs : List ℕ) : Type 0 where
  pub short : n ≤ 16
  pub padded : all_zero (drop n xs) ≡ true

-- the number whose bytes are xs, the highest first, behind those of n
abbrev pub big_from : ℕ → List ℕ → ℕ
big_from n [] = n
big_from n (x ∷ xs) = big_from (n * 256 + x) xs

unfoldable pub big : List ℕ → ℕ
big xs = big_from 0 xs

-- sixteen bytes as two such numbers, and a length beside them
unfoldable pub wide_of : List ℕ → ℕ → Wide
wide_of xs n = record { high = big (part 0 8 xs); low = big (part 8 8 xs); len = n }

abbrev pub order_wide : Wide → Wide → Ordering
order_wide a b = ordering_then (nat_cmp a.high b.high) (ordering_then (nat_cmp a.low b.low) (nat_cmp a.len b.len))

-- zeros stand behind the key, by what shifts leave of its two numbers
unfoldable pub clear_wide : Wide → Bool
clear_wide w =
    cond (ltb w.len 8) (eqb w.low 0 && eqb (w.high * 2 ^ (8 * w.len) % 2 ^ 64) 0)
    (cond (ltb w.len 16) (eqb (w.low * 2 ^ (8 * (w.len - 8)) % 2 ^ 64) 0) true)
