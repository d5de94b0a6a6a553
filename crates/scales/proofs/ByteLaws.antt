-- Single bytes of what was put, and of a word over and over. Assumes nothing.
use mathlib.Core.Path.{◌≡◌, sym, ap, ◌∙◌}
use mathlib.Core.Bool.{Bool, cond, ◌&&◌}
use mathlib.Core.List.{List, ◌++◌}
use Prim.Native.Nat.{ℕ, zero, suc, ◌+◌, ◌*◌, ◌-◌, ◌%◌, ◌≤◌, ◌<◌}
use native.Mathlib.Decide.{dec_lt}
use native.Mathlib.Omega.{arith}
use lib.Dec.{leb, ltb}
use lib.ListN.{length, take, drop, get_or, length-append, get_or-append}
use lib.Seq.{length-take-le, get_or-take, get_or-drop, get_or-append-add}
use borrow.Author.Tests.{le-leb, lt-leb, lt-ltb, le-ltb}
use Rattle.octets.specs.Octets.{put}
use Rattle.scratch.specs.Calls.{over}

-- whether index i lies within n bytes from index `at` on
abbrev pub within : ℕ → ℕ → ℕ → Bool
within at n i = leb at i && ltb i (at + n)

module _ (at : ℕ) (vs xs : List ℕ) (fits : at + length vs ≤ length xs) (i : ℕ) where
  abbrev front : List ℕ
  front = take at xs

  front_size : length front ≡ at
  front_size = length-take-le at xs (omega arith)

  both_size : length (front ++ vs) ≡ at + length vs
  both_size = length-append front vs ∙ ap (λ (n : ℕ). n + length vs) front_size

  pub put_before : i < at → get_or (put at vs xs) i 0 ≡ get_or xs i 0
  unfolding put
  put_before h =
      get_or-append (front ++ vs) _ 0 i (omega (arith, both_size)) ∙ get_or-append front vs 0 i (omega (arith, front_size)) ∙ get_or-take at xs i 0 h

  pub put_inside : at ≤ i → i < at + length vs → get_or (put at vs xs) i 0 ≡ get_or vs (i - at) 0
  unfolding put
  put_inside h l =
      let e : i ≡ length front + (i - at) = omega (arith, front_size) in
      get_or-append (front ++ vs) _ 0 i (omega (arith, both_size)) ∙ ap (λ (j : ℕ). get_or (front ++ vs) j 0) e ∙ get_or-append-add front vs (i - at) 0

  pub put_behind : at + length vs ≤ i → get_or (put at vs xs) i 0 ≡ get_or xs i 0
  unfolding put
  put_behind h =
      let n = at + length vs in
      let e : i ≡ length (front ++ vs) + (i - n) = omega (arith, both_size) in
      let f : n + (i - n) ≡ i = omega arith in
      ap (λ (j : ℕ). get_or (put at vs xs) j 0) e ∙ get_or-append-add (front ++ vs) (drop n xs) (i - n) 0 ∙ get_or-drop n xs (i - n) 0
      ∙ ap (λ (j : ℕ). get_or xs j 0) f

  -- byte i of what was put, or of what was there
  pub put_byte : (n : ℕ) → length vs ≡ n → get_or (put at vs xs) i 0 ≡ cond (within at n i) (get_or vs (i - at) 0) (get_or xs i 0)
  put_byte n e =
      elim (dec_lt i at) [
        | yes h ↦ put_before h ∙ rw (lt-leb at i h)
        | no h ↦
            let g : at ≤ i = omega (arith, h) in
            elim (dec_lt i (at + length vs)) [
              | yes l ↦ put_inside g l ∙ rw (le-leb at i g, ← e, lt-ltb i (at + length vs) l)
              | no l ↦ let o : at + length vs ≤ i = omega (arith, l) in put_behind o ∙ rw (le-leb at i g, ← e, le-ltb i (at + length vs) o)
            ]
      ]

-- the k-th byte of four bytes over and over
pub over_byte : (n k : ℕ) (bs : List ℕ) → length bs ≡ 4 → k < 4 * n → get_or (over n bs) k 0 ≡ get_or bs (k % 4) 0
over_byte zero k bs e h = absurd (omega arith)
over_byte (suc n) k bs e h =
    elim (dec_lt k 4) [
      | yes l ↦
          let m : k % 4 ≡ k = omega arith in
          get_or-append bs (over n bs) 0 k (omega arith) ∙ ap (λ (j : ℕ). get_or bs j 0) (sym m)
      | no l ↦
          let f : k ≡ length bs + (k - 4) = omega (arith, l) in
          let m : (k - 4) % 4 ≡ k % 4 = omega (arith, l) in
          ap (λ (j : ℕ). get_or (over (suc n) bs) j 0) f ∙ get_or-append-add bs (over n bs) (k - 4) 0 ∙ over_byte n (k - 4) bs e (omega (arith, l))
          ∙ ap (λ (j : ℕ). get_or bs j 0) m
    ]
