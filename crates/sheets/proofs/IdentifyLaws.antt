-- An Identify page that was written is read back, by one proof over the index of a format. Assumes nothing.
use mathlib.Core.Path.{◌≡◌, refl, ap, ◌∙◌}
use mathlib.Core.List.{List, ◌++◌, append_assoc}
use Prim.Native.Nat.{ℕ, zero, suc, ◌+◌, ◌*◌, ◌^◌, ◌≤◌, ◌<◌}
use native.Mathlib.Decide.{dec_lt}
use native.Mathlib.Omega.{arith}
use lib.ListN.{length, length-append}
use borrow.Author.Tests.{le-leb, lt-leb, le-ltb}
use Rattle.octets.specs.Octets.{part}
use Rattle.octets.proofs.PartLaws.{part_seam}
use Rattle.octets.proofs.NumberLaws.{number_bytes}
use Rattle.octets.proofs.ZeroLaws.{length_filled}
use Rattle.sheets.specs.declared.identify.Limits.{Limits}
use Rattle.sheets.specs.Identify.{descriptor, descriptors, front, identify_page, size_in, used_in, formats_in, index_in, limits_in, no_limits, limits_at}

-- each number within its bytes
pub record Sized (l : Limits) : Type 0 where
  pub keymax_in : l.keymax < 256 ^ 2
  pub valuemax_in : l.valuemax < 256 ^ 4
  pub maxkeys_in : l.maxkeys < 256 ^ 4

limits_back : (l : Limits) → Sized l → limits_in (descriptor l) ≡ l
unfolding limits_in descriptor part
limits_back l w = rw (number_bytes 2 l.keymax w.keymax_in, number_bytes 4 l.valuemax w.valuemax_in, number_bytes 4 l.maxkeys w.maxkeys_in)

module _ (f : ℕ → Limits) where
  pub length_descriptors : (n : ℕ) → length (descriptors f n) ≡ 16 * n
  unfolding descriptor
  length_descriptors zero = refl
  length_descriptors (suc n) = rw (length-append (descriptors f n) (descriptor (f n)), length_descriptors n) (omega arith)

  -- the descriptor of format o, with anything before and behind them
  descriptor_at : (n o : ℕ) (a b : List ℕ) → o < n → part (length a + 16 * o) 16 (a ++ descriptors f n ++ b) ≡ descriptor (f o)
  unfolding descriptor
  descriptor_at zero o a b h = absurd (omega arith)
  descriptor_at (suc n) o a b h =
      let d = descriptor (f n) in
      let e : a ++ (descriptors f n ++ d) ++ b ≡ a ++ descriptors f n ++ (d ++ b) =
      rw (← append_assoc a (descriptors f n) d, append_assoc (a ++ descriptors f n) d b) in
      rw e (elim (dec_lt o n) [ yes s ↦ descriptor_at n o a (d ++ b) s | no s ↦ last (omega (arith, s)) ])
    where
      last : o ≡ n → part (length a + 16 * o) 16 (a ++ descriptors f n ++ (descriptor (f n) ++ b)) ≡ descriptor (f o)
      last q =
          let l : length (a ++ descriptors f n) ≡ length a + 16 * n = length-append a (descriptors f n) ∙ ap (λ k. length a + k) (length_descriptors n) in
          rw (q, ← l, ← append_assoc (a ++ descriptors f n) (descriptor (f n)) b) (part_seam (a ++ descriptors f n) (descriptor (f n)) b)

module _ (size used index : ℕ) (f : ℕ → Limits) (n : ℕ) where
  abbrev p : List ℕ
  p = identify_page size used index f n

  pub length_page : n ≤ 251 → length p ≡ 4096
  unfolding identify_page front
  length_page h =
      let l = length-append (front size used n index) (descriptors f n) in
      length_filled 4096 (front size used n index ++ descriptors f n) (omega (arith, l, length_descriptors f n))

  pub size_back : size < 256 ^ 8 → size_in p ≡ size
  unfolding identify_page front part
  size_back h = number_bytes 8 size h

  pub used_back : used < 256 ^ 8 → used_in p ≡ used
  unfolding identify_page front part
  used_back h = number_bytes 8 used h

  pub formats_back : 1 ≤ n → formats_in p ≡ n
  unfolding identify_page front
  formats_back h = omega arith

  pub index_back : index < 16 → index_in p ≡ index
  unfolding identify_page front
  index_back h = omega arith

  pub limits_at_law : (o : ℕ) → o < n → n ≤ 251 → Sized (f o) → limits_at p o ≡ f o
  unfolding limits_at identify_page front
  limits_at_law o h m w =
      let l : length p ≡ 4096 = length_page m in
      let k : formats_in p ≡ n = formats_back (omega arith) in
      rw (lt-leb (formats_in p) o (omega arith), le-ltb (length p) (88 + 16 * o) (omega arith))
      (ap limits_in (descriptor_at f n o (front size used n index) _ h) ∙ limits_back (f o) w)

  -- past the last format
  pub no_limits_law : (o : ℕ) → n ≤ o → 1 ≤ n → limits_at p o ≡ no_limits
  unfolding limits_at
  no_limits_law o h m = let k : formats_in p ≡ n = formats_back m in rw (le-leb (formats_in p) o (omega arith))
