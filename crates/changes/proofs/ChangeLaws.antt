-- Other pairs in one of the namespaces change its half, its records part and its values part, and no other byte. Assumes nothing.
use mathlib.Core.Path.{◌≡◌, refl, sym, ap, ap₂, ◌∙◌}
use mathlib.Core.List.{List, [], ◌∷◌, ◌++◌, append_assoc}
use Prim.Native.Nat.{ℕ, ◌+◌, ◌-◌, ◌*◌, ◌≤◌}
use native.Mathlib.Nat.{add_assoc}
use native.Mathlib.Omega.{arith}
use lib.ListN.{length, take, drop, length-append, take-append-drop}
use lib.Seq.{drop-drop, drop-append-le, take-take, take-add}
use borrow.Rule.Slice.PartMut.{put_mid}
use Rattle.octets.specs.Octets.{part, put, bytes, zeros}
use Rattle.octets.proofs.PartLaws.{length_part, length_put, put_front}
use Rattle.store.specs.Maps.{Pair, used}
use Rattle.store.specs.Namespace.{Namespace, with_pairs}
use Rattle.store.proofs.NamespaceLaws.{Within as One}
use Rattle.memory.specs.Namespaces.{joined, total, slots_of, size_of}
use Rattle.memory.specs.Memory.{memory, needed, needed_values, half_of, label_of, half_for, records_for, values_for, head_of, directory_of, values_of}
use Rattle.memory.specs.Memory.{image_over}
use Rattle.memory.proofs.JoinLaws.{put_mid_law, each_at, each_before, part_joined, put_joined}
use Rattle.memory.proofs.LimitLaws.{Within, same_total, changed_within}
use Rattle.memory.proofs.ImageLaws.{length_half, length_halves, length_head, length_records, length_values_part}
use Rattle.memory.proofs.ImageLaws.{length_records_all, length_values, length_directory}
use Rattle.memory.proofs.ImageLaws.{Holds, directory_split, values_split}

-- a put in a part is a put in the whole
put_inside : (a k at : ℕ) (vs xs : List ℕ) → at + length vs ≤ k → a + k ≤ length xs → put a (put at vs (part a k xs)) xs ≡ put (a + at) vs xs
unfolding put part
put_inside a k at vs xs h g =
    let n : ℕ = at + length vs in
    let l : length (take k (drop a xs)) ≡ k = length_part a k xs g in
    let m : length (take at (take k (drop a xs)) ++ vs ++ drop n (take k (drop a xs))) ≡ k = length_put at vs (part a k xs) (omega arith) ∙ l in
    let e : at ≤ k = omega arith in
    let r : drop n (drop a xs) ≡ drop n (take k (drop a xs)) ++ drop k (drop a xs) =
    ap (drop n) (sym (take-append-drop k (drop a xs))) ∙ drop-append-le n (take k (drop a xs)) (drop k (drop a xs)) (omega arith) in
    rw (m, ← drop-drop k a xs, take-take at k, take-add a at xs, add_assoc a at (length vs), ← drop-drop n a xs, r) (simp append_assoc)

-- the namespace between a and b, with the pairs m
module _ (a b : List Namespace) (s : Namespace) (m : List Pair) where
  abbrev s' : Namespace
  s' = with_pairs s m

  abbrev old : List Namespace
  old = a ++ s ∷ b

  abbrev new : List Namespace
  new = a ++ s' ∷ b

  -- ---- its half, whatever stands behind the head

  -- halves are even, so the same zeros stand behind them
  halves_even : length (joined half_for new) ≡ length (joined half_for old)
  halves_even =
      length_halves new ∙ ap (λ (n : ℕ). 32 * n) (length-append a (s' ∷ b) ∙ sym (length-append a (s ∷ b))) ∙ sym (length_halves old)

  half_there : (x : List ℕ) → part (32 * length a) 32 (head_of old ++ x) ≡ half_for s
  unfolding head_of
  half_there x =
      let l = length_halves a in
      rw (append_assoc (joined half_for old) (zeros (64 - length (joined half_for old))) x)
      (part_joined half_for [] _ a b s (32 * length a) 32 (omega arith) (length_half (label_of s)))

  half_changed : (x : List ℕ) → put (32 * length a) (half_for s') (head_of old ++ x) ≡ head_of new ++ x
  unfolding head_of
  half_changed x =
      let l = length_halves a in
      rw (append_assoc (joined half_for old) (zeros (64 - length (joined half_for old))) x, halves_even)
      (put_joined half_for [] _ a b s (32 * length a) 32 (omega arith) (length_half (label_of s)) s' (length_half (label_of s')) ∙ simp append_assoc)

  -- of the half, two numbers alone
  counted : put 12 (bytes 4 (length m) ++ bytes 4 (used m)) (half_for s) ≡ half_for s'
  unfolding put half_of
  counted = refl

  module _ (w : Within old) (c : One s') where
    -- ---- its parts

    records_changed : (t : List ℕ)
        → put (64 + 32 * total slots_of a) (records_for s') (directory_of old ++ t) ≡ head_of old ++ (joined records_for new ++ t)
    unfolding directory_of
    records_changed t =
        let h = length_head old w.two in
        let l = length_records_all a (each_before One b s a w.each) in
        put_joined records_for (head_of old) t a b s _ _ (omega arith) (length_records s (each_at One b s a w.each)) s' (length_records s' c)
        ∙ append_assoc (head_of old) (joined records_for new) t

    values_changed : (u : List ℕ) → put (total size_of a) (values_for s') (values_of old ++ u) ≡ values_of new ++ u
    unfolding values_of
    values_changed u =
        let l = length_values a (each_before One b s a w.each) in
        put_joined values_for [] u a b s _ _ (omega arith) (length_values_part s (each_at One b s a w.each)) s' (length_values_part s' c)

    all_changed : (t : List ℕ) → head_of new ++ (joined records_for new ++ t) ≡ directory_of new ++ t
    unfolding directory_of
    all_changed t = sym (append_assoc (head_of new) (joined records_for new) t)

    -- ---- in slices that hold the old ones: the parts come back, and then the half

    module _ {d v : List ℕ} (h : Holds old (memory d v)) where
      abbrev start : ℕ
      start = 64 + 32 * total slots_of a

      abbrev half : ℕ
      half = 32 * length a

      -- the directory with the new records
      abbrev between : List ℕ
      between = put_mid start (32 * slots_of s) d (records_for s')

      between_is : between ≡ head_of old ++ (joined records_for new ++ drop (needed old) d)
      between_is =
          put_mid_law start (32 * slots_of s) d (records_for s') (length_records s' c)
          ∙ ap (put start (records_for s')) (directory_split h)
          ∙ records_changed (drop (needed old) d)

      -- two numbers written into the half are the half written anew
      half_written : put (half + 12) (bytes 4 (length m) ++ bytes 4 (used m)) between ≡ put half (half_for s') between
      half_written =
          let n = length-append (head_of old) (joined records_for new ++ drop (needed old) d) in
          let l : half + 32 ≤ length between =
          rw between_is (omega (arith, n, length_head old w.two, w.two, length-append a (s ∷ b))) in
          sym (put_inside half 32 12 (bytes 4 (length m) ++ bytes 4 (used m)) between (omega arith) l)
          ∙ ap (λ (x : List ℕ). put half x between) (ap (put 12 _) (ap (part half 32) between_is ∙ half_there _) ∙ counted)

      pub image_changed : (x y : List ℕ) → x ≡ put (half + 12) (bytes 4 (length m) ++ bytes 4 (used m)) between
          → y ≡ put_mid (total size_of a) s.size v (values_for s') → memory x y ≡ image_over new (memory d v)
      image_changed x y ex ey =
          let q = changed_within b s m a w c in
          let front : put 0 (directory_of new) d ≡ directory_of new ++ drop (needed old) d =
          put_front (directory_of new) d ∙ rw (length_directory new q, same_total b s m slots_of refl a) in
          let values_front : put 0 (values_of new) v ≡ values_of new ++ drop (needed_values old) v =
          put_front (values_of new) v ∙ rw (length_values new q.each, same_total b s m size_of refl a) in
          ap₂ memory
          (ex
          ∙ half_written
          ∙ ap (put half (half_for s')) between_is
          ∙ half_changed _
          ∙ all_changed _
          ∙ sym front)
          (ey
          ∙ put_mid_law (total size_of a) s.size v (values_for s') (length_values_part s' c)
          ∙ ap (put (total size_of a) (values_for s')) (values_split h)
          ∙ values_changed (drop (needed_values old) v)
          ∙ sym values_front)
