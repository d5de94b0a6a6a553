-- The loop that writes a line: what is left to write, on the text as it is, gives the whole line. Assumes nothing.
use mathlib.Core.Path.{◌≡◌, refl, ap, ◌∙◌}
use mathlib.Core.List.{List, [], ◌∷◌, ◌++◌}
use Prim.Native.Nat.{ℕ, suc, ◌+◌, ◌-◌, ◌*◌, ◌≤◌, ◌<◌}
use native.Mathlib.Nat.{add-zero}
use native.Mathlib.Numerals.{add-one}
use native.Mathlib.Omega.{arith}
use lib.ListN.{length, drop, get_or, set, length-append, length-drop, drop_of_length-le}
use lib.Seq.{drop-cons}
use Rattle.octets.specs.Octets.{put}
use Rattle.octets.proofs.PartLaws.{put_one, put_next, length_put}
use Rattle.bench.specs.Text.{hex_byte, hex_of, line}

length_hex : (bs : List ℕ) → length (hex_of bs) ≡ 2 * length bs
length_hex [] = refl
length_hex (b ∷ bs) = omega (arith, length_hex bs)

pub length_line : (bs : List ℕ) → length (line bs) ≡ 2 * length bs + 1
unfolding line
length_line bs = rw (length-append, length_hex)

line_cons : (b : ℕ) (bs : List ℕ) → line (b ∷ bs) ≡ hex_byte b ++ line bs
unfolding line
line_cons b bs = refl

-- the first i bytes are written
pub record Written (at : ℕ) (bs xs : List ℕ) (i : ℕ) (ys : List ℕ) : Type 0 where
  pub within : (at + (2 * length bs + 1) ≤ length xs) × (i ≤ length bs) × (length ys ≡ length xs)
  pub is : put (at + 2 * i) (line (drop i bs)) ys ≡ put at (line bs) xs

module _ {at : ℕ} {bs xs : List ℕ} where
  pub written_none : at + (2 * length bs + 1) ≤ length xs → Written at bs xs 0 xs
  written_none h = record { within = omega arith; is = rw add-zero }

  pub written_more : {i : ℕ} {ys zs : List ℕ} → Written at bs xs i ys → zs ≡ put (at + 2 * i) (hex_byte (get_or bs i 0)) ys → i < length bs
      → Written at bs xs (i + 1) zs
  written_more {i} {ys} {zs} w e h =
      let b = get_or bs i 0 in
      let vs = line (drop (suc i) bs) in
      let l : length vs ≡ 2 * (length bs - suc i) + 1 = length_line (drop (suc i) bs) ∙ rw length-drop in
      let n : at + 2 * (i + 1) ≡ at + 2 * i + 2 = omega arith in
      record {
        within = omega (arith, ap length e, length_put (at + 2 * i) (hex_byte b) ys (omega arith));
        is = rw (e, n, add-one) (put_next (at + 2 * i) (hex_byte b) vs ys (omega arith) ∙ rw (drop-cons bs i 0 h, line_cons) at w.is);
      }

  pub written_done : {i : ℕ} {ys : List ℕ} → Written at bs xs i ys → length bs ≤ i → set ys (at + 2 * length bs) 10 ≡ put at (line bs) xs
  unfolding line
  written_done {i} {ys} w h =
      let e : length bs ≡ i = omega arith in
      rw e (put_one (at + 2 * i) 10 ys (omega arith) ∙ rw (drop_of_length-le bs h) at w.is)
