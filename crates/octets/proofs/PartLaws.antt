-- The laws of `part` and `put`: by elements, at a seam, of a part that was lent, of puts one behind the other, of a part of a part,
-- and of bytes that make room or close a gap. Assumes nothing.
use mathlib.Core.Path.{◌≡◌, refl, sym, ap, ◌∙◌}
use mathlib.Core.List.{List, [], ◌∷◌, ◌++◌, append-nil, append_assoc}
use Prim.Native.Nat.{ℕ, zero, suc, ◌+◌, ◌-◌, ◌≤◌, ◌<◌}
use native.Mathlib.Nat.{zero-add, add-zero, add_assoc}
use native.Mathlib.Decide.{dec_lt}
use native.Mathlib.Omega.{arith}
use lib.ListN.{length, take, drop, get_or, set, drop_of_length-le, length-append, length-take, length-drop, take-append-drop}
use lib.ListN.{length-replicate, replicate-append-replicate}
use lib.Seq.{take_all, drop-cons, take-append_seam, drop-append_seam, drop-append-le, drop-append-add, take_at, drop_at}
use lib.Seq.{length-take-le, take-append-le, drop-drop, take-take, take-add, get_or-take, get_or-drop, sets, sets-eq}
use borrow.Rule.Slice.PartMut.{put_mid}
use Rattle.octets.specs.Octets.{part, put, zeros, filled}

-- ---- element by element

-- the elements of xs from index `at` on, one by one
abbrev pub each : ℕ → ℕ → List ℕ → List ℕ
each zero at xs = []
each (suc k) at xs = get_or xs at 0 ∷ each k (suc at) xs

pub part_each : (k at : ℕ) (xs : List ℕ) → at + k ≤ length xs → part at k xs ≡ each k at xs
unfolding part
part_each zero at xs h = refl
part_each (suc k) at xs h = rw (drop-cons xs at 0 (omega arith)) (ap (◌∷◌ (get_or xs at 0)) (part_each k (suc at) xs (omega arith)))

-- stores one by one are a put
pub sets_put : (at : ℕ) (vs xs : List ℕ) → at + length vs ≤ length xs → sets xs at vs ≡ put at vs xs
unfolding put
sets_put at vs xs h = sets-eq vs xs at h

-- ---- parts and puts

pub length_put : (at : ℕ) (vs xs : List ℕ) → at + length vs ≤ length xs → length (put at vs xs) ≡ length xs
unfolding put
length_put at vs xs h = simp (length-append, length-take, length-drop) (omega arith)

-- a put between two lists
pub put_seam : (p q r vs : List ℕ) → length vs ≡ length q → put (length p) vs (p ++ q ++ r) ≡ p ++ vs ++ r
unfolding put
put_seam p q r vs h = rw (h, append_assoc p q r, take-append_seam, ← append_assoc p q r, ← length-append p q, drop-append_seam)

pub part_seam : (p q r : List ℕ) → part (length p) (length q) (p ++ q ++ r) ≡ q
unfolding part
part_seam p q r = rw (append_assoc p q r, drop-append_seam, take-append_seam)

pub put_none : (at : ℕ) (xs : List ℕ) → put at [] xs ≡ xs
unfolding put
put_none at xs = rw (add-zero, append-nil, take-append-drop)

pub length_part : (from n : ℕ) (xs : List ℕ) → from + n ≤ length xs → length (part from n xs) ≡ n
unfolding part
length_part from n xs h = simp (length-take, length-drop) (omega arith)

pub get_d_part : (from n i : ℕ) (xs : List ℕ) → i < n → get_or (part from n xs) i 0 ≡ get_or xs (from + i) 0
unfolding part
get_d_part from n i xs h = rw (get_or-take, get_or-drop)

-- ---- a part that was lent as `&mut` and has come back

-- where it has a put at its front, the whole has that put
pub lent_put : (a k : ℕ) (vs xs : List ℕ) {ys : List ℕ} → ys ≡ put 0 vs (part a k xs) → length vs ≤ k → a + k ≤ length xs
    → put_mid a k xs ys ≡ put a vs xs
unfolding put part
lent_put a k vs xs e h g =
    let d = drop a xs in
    let l : length (take k d) ≡ k = length_part a k xs g in
    let r = drop-append-le (length vs) (take k d) (drop k d) (omega arith) in
    rw (e, zero-add, ← drop-drop (length vs) a xs, rw (take-append-drop k d) at r, append_assoc (take a xs) vs, append_assoc vs)

-- where all of it is vs, vs is put into the whole
pub lent_all : (a k : ℕ) (vs xs : List ℕ) {ys : List ℕ} → ys ≡ vs → k ≡ length vs → put_mid a k xs ys ≡ put a vs xs
unfolding put
lent_all a k vs xs e h = rw (e, h, drop-drop, append_assoc)

-- a put behind a put is one put
pub put_next : (at : ℕ) (us vs xs : List ℕ) → at + length us + length vs ≤ length xs → put (at + length us) vs (put at us xs) ≡ put at (us ++ vs) xs
unfolding put
put_next at us vs xs h =
    let n = at + length us in
    let p = take at xs ++ us in
    let d = drop n xs in
    let l : length p ≡ n = simp (length-append, length-take) (omega arith) in
    rw (take_at p d n l, ← drop-drop (length vs) n (p ++ d), drop_at p d n l, drop-drop, length-append, ← add_assoc at, ← append_assoc (take at xs) us vs)

-- the same, of slices: ys has the first put, and zs the second
pub put_then : (at n : ℕ) (us vs xs ys zs : List ℕ) → zs ≡ put n vs ys → ys ≡ put at us xs → n ≡ at + length us → n + length vs ≤ length xs
    → zs ≡ put at (us ++ vs) xs
put_then at n us vs xs ys zs g e f h = rw (g, e, f) (put_next at us vs xs (omega arith))

-- a list put part by part, as far as it goes
pub put_part : (at k : ℕ) (vs xs ys zs : List ℕ) → zs ≡ put at (part at k vs) ys → ys ≡ put 0 (take at vs) xs → length vs ≤ length xs
    → zs ≡ put 0 (take (at + k) vs) xs
unfolding part
put_part at k vs xs ys zs g e h = rw take-add (elim (dec_lt (length vs) at) [ yes s ↦ behind (omega arith) | no s ↦ inside (omega (arith, s)) ])
  where
    inside : at ≤ length vs → zs ≡ put 0 (take at vs ++ take k (drop at vs)) xs
    inside t =
        let l : length (take at vs) ≡ at = length-take-le at vs t in
        put_then 0 at (take at vs) (take k (drop at vs)) xs ys zs g e (omega arith) (simp (length-take, length-drop) (omega arith))

    behind : length vs ≤ at → zs ≡ put 0 (take at vs ++ take k (drop at vs)) xs
    behind t =
        let n : take k (drop at vs) ≡ [] = rw drop_of_length-le (take_all k [] (omega arith)) in
        rw (n, append-nil) (rw (n, put_none at ys) at g ∙ e)

-- a part by two
pub part_two : (from m n : ℕ) (xs : List ℕ) → part from (m + n) xs ≡ part from m xs ++ part (from + m) n xs
unfolding part
part_two from m n xs = rw (take-add m n (drop from xs), drop-drop)

-- a put over the front, and over the whole
pub put_front : (vs xs : List ℕ) → put 0 vs xs ≡ vs ++ drop (length vs) xs
unfolding put
put_front vs xs = rw zero-add

pub put_all : (vs xs : List ℕ) → length vs ≡ length xs → put 0 vs xs ≡ vs
put_all vs xs h = put_front vs xs ∙ rw (drop_of_length-le xs {i = length vs} (omega arith)) (append-nil vs)

-- a store is a put of one byte
pub put_one : (at a : ℕ) (xs : List ℕ) → at < length xs → set xs at a ≡ put at (a ∷ []) xs
put_one at a xs h = sets_put at (a ∷ []) xs (omega arith)

-- puts one behind the other, the first of them at `at`, are one put
abbrev pub puts : ℕ → List (List ℕ) → List ℕ → List ℕ
puts at [] xs = xs
puts at (v ∷ vs) xs = puts (at + length v) vs (put at v xs)

abbrev pub joined : List ℕ → List (List ℕ) → List ℕ
joined u [] = u
joined u (v ∷ vs) = joined (u ++ v) vs

joined_long : (u : List ℕ) (vs : List (List ℕ)) → length u ≤ length (joined u vs)
joined_long u [] = omega arith
joined_long u (v ∷ vs) = omega (arith, joined_long (u ++ v) vs, length-append u v)

-- a put on what a list has become is one on what it came from
pub put_on : {xs ys zs : List ℕ} (at : ℕ) (v : List ℕ) → ys ≡ xs → zs ≡ put at v ys → zs ≡ put at v xs
put_on at v d e = e ∙ ap (put at v) d

pub puts_joined : (at : ℕ) (u : List ℕ) (vs : List (List ℕ)) (xs : List ℕ) → at + length (joined u vs) ≤ length xs
    → puts at (u ∷ vs) xs ≡ put at (joined u vs) xs
puts_joined at u [] xs h = refl
puts_joined at u (v ∷ vs) xs h =
    let l : at + length u + length v ≤ length xs = omega (arith, joined_long (u ++ v) vs, length-append u v) in
    rw (put_next at u v xs l, add_assoc at (length u) (length v), ← length-append u v) (puts_joined at (u ++ v) vs xs h)

pub puts_whole : (u : List ℕ) (vs : List (List ℕ)) (xs : List ℕ) → length (joined u vs) ≡ length xs → puts 0 (u ∷ vs) xs ≡ joined u vs
puts_whole u vs xs h = puts_joined 0 u vs xs (omega arith) ∙ put_all (joined u vs) xs h

-- a part of a rest
pub part_drop : (at from n : ℕ) (xs : List ℕ) → part from n (drop at xs) ≡ part (at + from) n xs
unfolding part
part_drop at from n xs = rw drop-drop

pub part_rest : (at : ℕ) (xs : List ℕ) → part at (length xs - at) xs ≡ drop at xs
unfolding part
part_rest at xs = take_all (length xs - at) (drop at xs) (simp length-drop (omega arith))

pub part_front : (n : ℕ) (xs : List ℕ) → part 0 n xs ≡ take n xs
unfolding part
part_front n xs = refl

pub part_whole : (n : ℕ) (xs : List ℕ) → length xs ≡ n → part 0 n xs ≡ xs
part_whole n xs h = part_front n xs ∙ take_all n xs (omega arith)

-- a part of a beginning
pub part_take : (from n k : ℕ) (xs : List ℕ) → from + n ≤ k → part from n (take k xs) ≡ part from n xs
unfolding part
part_take zero n k xs h = take-take n k xs (omega arith)
part_take (suc from) n zero xs h = absurd (omega arith)
part_take (suc from) n (suc k) [] h = refl
part_take (suc from) n (suc k) (x ∷ xs) h = part_take from n k xs (omega arith)

-- a part of a part
pub part_inside : (at m from n : ℕ) (xs : List ℕ) → from + n ≤ m → part from n (part at m xs) ≡ part (at + from) n xs
unfolding part
part_inside at m from n xs h = part_take from n m (drop at xs) h ∙ part_drop at from n xs

-- a rest behind a seam that is known by a number
pub drop_past : (xs ys : List ℕ) (k n : ℕ) → length xs ≡ k → drop (k + n) (xs ++ ys) ≡ drop n ys
drop_past xs ys k n e = rw (← e) (drop-append-add xs ys n)

-- a put right before a put is one put
pub put_ahead : (at : ℕ) (us vs xs : List ℕ) → at + length us ≤ length xs → put at us (put (at + length us) vs xs) ≡ put at (us ++ vs) xs
unfolding put
put_ahead at us vs xs h =
    let n : ℕ = at + length us in
    let l : length (take n xs) ≡ n = length-take-le n xs h in
    let m : at ≤ length (take n xs) = omega arith in
    let o : at ≤ n = omega arith in
    rw (append_assoc (take n xs), take-append-le, take-take, drop_at, length-append, ← add_assoc) (simp append_assoc)

-- ---- of slices: n bytes make room for us and us is put there, n bytes close a gap of k and zeros are put behind them

pub moved_up : (at n : ℕ) (us xs ys zs : List ℕ) → zs ≡ put at us ys → ys ≡ put (at + length us) (part at n xs) xs → at + length us + n ≤ length xs
    → zs ≡ put at (us ++ part at n xs) xs
moved_up at n us xs ys zs e f h = rw (e, f) (put_ahead at us (part at n xs) xs (omega arith))

pub moved_down : (at k n : ℕ) (xs ys zs : List ℕ) → zs ≡ put (at + n) (zeros k) ys → ys ≡ put at (part (at + k) n xs) xs → at + k + n ≤ length xs
    → zs ≡ put at (part (at + k) n xs ++ zeros k) xs
moved_down at k n xs ys zs e f h =
    let l = length_part (at + k) n xs h in
    rw (e, f) (rw l at (put_next at (part (at + k) n xs) (zeros k) xs (omega (arith, length-replicate {A = ℕ} k 0))))

-- ---- the same, on a and b with zeros behind them

module _ (n : ℕ) (a v b : List ℕ) (fits : length a + length v + length b ≤ n) where
  narrow : zeros (n - length (a ++ b)) ≡ zeros (length v) ++ zeros (n - length (a ++ v ++ b))
  narrow =
      let e : n - length (a ++ b) ≡ length v + (n - length (a ++ v ++ b)) = simp length-append (omega arith) in
      rw (e, replicate-append-replicate {A = ℕ} (length v))

  even : length (v ++ b) ≡ length (b ++ zeros (length v))
  even = simp (length-append, length-replicate) (omega arith)

  pub put_in : put (length a) (v ++ part (length a) (length b) (filled n (a ++ b))) (filled n (a ++ b)) ≡ filled n (a ++ v ++ b)
  put_in =
      let c = zeros (n - length (a ++ v ++ b)) in
      let e : a ++ b ++ (zeros (length v) ++ c) ≡ a ++ (b ++ zeros (length v)) ++ c = simp append_assoc in
      rw (part_seam a b (zeros (n - length (a ++ b))), narrow, e, put_seam a (b ++ zeros (length v)) c (v ++ b) even) (simp append_assoc)

  pub take_out :
      let f = filled n (a ++ v ++ b) in
      put (length a) (part (length a + length v) (length b) f ++ zeros (length v)) f ≡ filled n (a ++ b)
  take_out =
      let c = zeros (n - length (a ++ v ++ b)) in
      let e : a ++ v ++ b ++ c ≡ a ++ (v ++ b) ++ c = simp append_assoc in
      let p = rw (length-append a v) at (part_seam (a ++ v) b c) in
      rw (p, e, put_seam a (v ++ b) c (b ++ zeros (length v)) (sym even), narrow) (simp append_assoc)
