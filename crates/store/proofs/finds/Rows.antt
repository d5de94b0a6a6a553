-- The records as arrays of 32 bytes, here rows, and the slot that divides those below a key from the others. Assumes nothing.
use Rattle.std.proofs.Common.{◌≡◌, ℕ, zero, suc, ◌+◌, ◌*◌, ◌/◌, ◌<◌, ◌≤◌, Bool, true, false, ltb, List, [], length, get_or, take, drop, refl, sym, ap, ◌∙◌}
use Rattle.std.proofs.Common.{arith, length-drop, length-take-le, get_or-take, drop-drop, ltb-false, ltb-true, lt-ltb, ⊎_elim}
use Rattle.std.proofs.lemmas.Bool.Decides.{leb_tells}
use Rattle.std.specs.Simd.{first_chunks}
use Rattle.std.specs.List.Sorted.{IsPartitionedBy, IsPartitionPoint}
use Rattle.octets.specs.Octets.{part}
use Rattle.std.specs.declared.cmp.Ordering.{Ordering}
use Rattle.keys.specs.declared.orders.Wide.{Wide}
use Rattle.std.specs.Ordering.{is_lt, is_eq}
use Rattle.keys.specs.Keys.{Key, order, order_wide}
use Rattle.octets.proofs.NumberLaws.{Bytes, bytes_drop}
use Rattle.octets.proofs.PartLaws.{part_take}
use Rattle.keys.proofs.OrderLaws.{rising_true}
use Rattle.keys.proofs.WideLaws.{Widened, widened_order, widened_part}
use Rattle.store.specs.Records.{key_length, wide_in}
use Rattle.store.specs.Finds.{rank, has_key, keys_in, KeysFit}
use Rattle.store.proofs.RankLaws.{rank_le, rank_test, has_at, has_past, length_keys_in, key_at}

-- how the key of the record at the front of s compares with the one that is looked for
abbrev met : Wide → List ℕ → Ordering
met w s = order_wide (wide_in s) w

-- and whether it is below that one
abbrev pub lower : Wide → List ℕ → Bool
lower w s = is_lt (met w s)

-- row j is the record at slot j
row_at : (k j : ℕ) (s d : List ℕ) → j < k → get_or (first_chunks 32 k s) j d ≡ take 32 (drop (32 * j) s)
row_at zero j s d h = absurd (omega arith)
row_at (suc k) zero s d h = refl
row_at (suc k) (suc j) s d h =
    let a : 32 + 32 * j ≡ 32 * suc j = omega arith in
    row_at k j (drop 32 s) d (omega arith) ∙ rw (drop-drop (32 * j) 32 s, a)

module _ {n : ℕ} {s : List ℕ} {w : Wide} {k : Key} (f : KeysFit n s) (b : Bytes s) (g : Widened w k) where
  abbrev slot_of : ℕ
  slot_of = rank k (keys_in n s)

  in_rows : slot_of ≤ n
  in_rows = omega (arith, rank_le k (keys_in n s), length_keys_in n s)

  slot_order : (j : ℕ) → j < n → met w (drop (32 * j) s) ≡ order (get_or (keys_in n s) j []) k
  unfolding part
  slot_order j h =
      let t = drop (32 * j) s in
      let l : 16 ≤ length t = omega (arith, length-drop (32 * j) s, f.lie) in
      let slot = widened_part 0 (key_length t) t (bytes_drop (32 * j) s b) l (f.fit j h).short (f.fit j h).padded in
      widened_order slot g ∙ ap (λ (x : Key). order x k) (sym (key_at n j s h))

  module _ {blocks : List (List ℕ)} (e : blocks ≡ first_chunks 32 (length s / 32) s) (long : length blocks ≡ length s / 32) where
    abbrev rows : List (List ℕ)
    rows = take n blocks

    inside : n ≤ length s / 32
    inside = omega (arith, f.lie)

    many : length rows ≡ n
    many = length-take-le n blocks (omega (arith, inside))

    row_test : (j : ℕ) (d : List ℕ) → j < n → lower w (get_or rows j d) ≡ ltb j slot_of
    row_test j d l =
        let t = drop (32 * j) s in
        let r = get_or-take n blocks j d l ∙ ap (λ (xs : List (List ℕ)). get_or xs j d) e ∙ row_at (length s / 32) j s d (omega (arith, inside)) in
        rw (r, part_take 0 16 32 t (omega arith), part_take 16 4 32 t (omega arith), slot_order j l)
        (rank_test k (keys_in n s) j (rising_true (keys_in n s) f.rise) (omega (arith, length_keys_in n s)))

    parted : IsPartitionedBy (lower w) rows
    parted i j d l m t =
        let under : j < slot_of = ltb-true j slot_of (sym (row_test j d (omega (arith, many))) ∙ t) in
        row_test i d (omega (arith, many)) ∙ lt-ltb i slot_of (omega arith)

    -- the point where the rows part is the slot
    pub divided : (i : ℕ) → i ≤ length rows
        → (IsPartitionedBy (lower w) rows → IsPartitionPoint (λ row. lower w row ≡ true) (λ row. lower w row ≡ false) rows i) → i ≡ slot_of
    divided i l ends =
        let p = ends parted in
        let over = λ (h : i < slot_of). sym (row_test i [] (omega (arith, in_rows))) ∙ p.1 i [] (omega arith) (omega (arith, in_rows, many)) in
        let under = λ (h : slot_of < i). sym (row_test slot_of [] (omega (arith, many))) ∙ p.0 slot_of [] (omega arith) h in
        let up : slot_of ≤ i = ⊎_elim (λ q. q.1) (λ q. ltb-false i slot_of (over q.1)) (leb_tells slot_of i) in
        let down : i ≤ slot_of = ⊎_elim (λ q. q.1) (λ q. absurd (omega (arith, ltb-true slot_of slot_of (under q.1)))) (leb_tells i slot_of) in
        omega arith

  pub held : {i : ℕ} {v : Wide} {t : Bool} → i ≡ slot_of → i < n → v ≡ wide_in (drop (32 * i) s) → t ≡ is_eq (order_wide v w) → t ≡ has_key k (keys_in n s)
  held {i} r h e u =
      let b : has_key k (keys_in n s) ≡ is_eq (order (get_or (keys_in n s) i []) k) =
      rw (← r) at (has_at k (keys_in n s) (omega (arith, length_keys_in n s))) in
      u ∙ rw e (ap is_eq (slot_order i h)) ∙ sym b

  pub past : {i : ℕ} → i ≡ slot_of → n ≤ i → has_key k (keys_in n s) ≡ false
  past r h = has_past k (keys_in n s) (omega (arith, length_keys_in n s))
