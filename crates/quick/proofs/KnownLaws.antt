-- The call from its run and its search: refusals, the search as code makes it, and on an image the search among the keys of the namespace.
-- Assumes nothing.
use mathlib.Core.Path.{◌≡◌, refl, sym, ap, ◌∙◌}
use mathlib.Core.Bool.{Bool, true, false, cond}
use mathlib.Core.List.{List, [], ◌∷◌, ◌++◌}
use Prim.Native.Nat.{ℕ, zero, suc, ◌+◌, ◌-◌, ◌*◌, ◌≤◌, ◌<◌}
use native.Mathlib.Nat.{zero-add}
use native.Mathlib.Omega.{arith}
use lib.Dec.{ltb, eqb}
use lib.ListN.{length, drop, get_or}
use borrow.Author.Tests.{eq-eqb, ltb-false}
use Rattle.std.specs.Prelude.{Ok}
use Rattle.octets.specs.Octets.{part, number, filled}
use Rattle.octets.proofs.TestLaws.{known as split, holds, fails, neither}
use Rattle.octets.proofs.PartLaws.{length_part, part_drop, part_inside}
use Rattle.octets.proofs.NumberLaws.{Bytes, bytes_part}
use Rattle.octets.proofs.ZeroLaws.{length_filled, bytes_filled}
use Rattle.std.specs.declared.cmp.Ordering.{Ordering}
use Rattle.keys.specs.declared.orders.Wide.{Wide}
use Rattle.keys.specs.Keys.{Key, order, wide_of, order_wide}
use Rattle.keys.proofs.WideLaws.{order_padded, wide_order}
use Rattle.store.specs.Maps.{Pair, keys}
use Rattle.store.specs.Namespace.{Namespace}
use Rattle.store.specs.Records.{key_length, wide_in}
use Rattle.store.specs.Slots.{pair_at}
use Rattle.store.proofs.RankLaws.{length_keys}
use Rattle.store.proofs.SlotLaws.{recorded_at, key_length_at, sixteen_at}
use Rattle.memory.specs.Namespaces.{total, slots_of, held, at}
use Rattle.memory.specs.Memory.{Memory, memory, label_of}
use Rattle.memory.proofs.NameLaws.{another, at_none, at_there, Named, named}
use Rattle.memory.proofs.ImageLaws.{Holds}
use Rattle.memory.proofs.PlaceLaws.{within_held, part_held}
use Rattle.quick.specs.declared.looks.Look.{Look}
use Rattle.quick.specs.Search.{Search, search, search_keys}
use Rattle.quick.specs.declared.heads.Span.{Span}
use Rattle.quick.specs.Heads.{Run, run_in, no_run, run_from, run_of}
use Rattle.quick.specs.Known.{record_at, compare, no_key, run_for, look_of, known, no_look, known_in}
use Rattle.quick.proofs.SearchLaws.{Alike, search_alike}
use Rattle.quick.proofs.HeadLaws.{run_lies, run_among, run_there, run_none, run_held}

-- ---- what stands at a slot

-- a field of the record, where the slot is the j-th of a part of the directory
field_at : (i start n j from k : ℕ) (d : List ℕ) → start + 32 * j ≡ 64 + 32 * i → from + k ≤ 32 → 32 * j + 32 ≤ n
    → part from k (record_at i d) ≡ part from k (drop (32 * j) (part start n d))
unfolding record_at
field_at i start n j from k d e l h =
    let x : 64 + 32 * i + from ≡ start + (32 * j + from) = omega arith in
    part_inside (64 + 32 * i) 32 from k d l ∙ rw x
    (sym (part_inside start n (32 * j + from) k d (omega arith)) ∙ sym (part_drop (32 * j) from k (part start n d)))

-- ---- the search as code makes it, in the bytes behind the head

abbrev pub behind : List ℕ → List ℕ
behind d = part 64 (length d - 64) d

module _ (k : Key) (d : List ℕ) (bk : Bytes (filled 16 k)) (bd : Bytes d) (short : length k ≤ 16) where
  compared_at : (i : ℕ) → 64 + 32 * i + 32 ≤ length d
      → order_wide (wide_of (filled 16 k) (length k)) (wide_in (drop (32 * i) (behind d))) ≡ compare k (record_at i d)
  unfolding compare
  compared_at i h =
      let s = drop (32 * i) (behind d) in
      let e = field_at i 64 (length d - 64) i 0 16 d refl (omega arith) (omega arith) in
      let f = field_at i 64 (length d - 64) i 16 4 d refl (omega arith) (omega arith) in
      let g : part 0 16 s ≡ part (64 + (32 * i + 0)) 16 d =
      part_drop (32 * i) 0 16 (behind d) ∙ part_inside 64 (length d - 64) (32 * i + 0) 16 d (omega arith) in
      let b : Bytes (part 0 16 s) = rw g (bytes_part (64 + (32 * i + 0)) 16 d bd (omega arith)) in
      let l : length (part 0 16 s) ≡ 16 = rw g (length_part (64 + (32 * i + 0)) 16 d (omega arith)) in
      wide_order (filled 16 k) (part 0 16 s) (length k) (key_length s) bk b (length_filled 16 k short) l ∙ rw (e, f)

alike_look : {s t : Search} (n : ℕ) → Alike s t → look_of n s ≡ look_of n t
alike_look n a = rw (a.known, a.looks)

-- ---- the call

pub short_key : (k : Key) → no_key k ≡ false → length k ≤ 16
short_key k e = ltb-false 16 (length k) (neither (eqb (length k) 0) (ltb 16 (length k)) e).1

module _ (k : Key) (id : ℕ) (m : Memory) where
  known_15 : no_key k ≡ true → no_look 15 ≡ known k id m
  unfolding known run_for
  known_15 e = rw e

  known_none : no_key k ≡ false → (n : ℕ) → run_of id m ≡ no_run n → known k id m ≡ no_look n
  unfolding known run_for
  known_none e n f = rw (e, f)

  module _ (e : no_key k ≡ false) {s : Span} (q : run_in (Ok s) ≡ run_of id m) where
    known_looked : (o : ℕ → Ordering) → ((j : ℕ) → j < s.count → o (s.first + j) ≡ compare k (record_at (s.first + j) m.directory))
        → look_of 0 (search s.count o s.first s.count) ≡ known k id m
    unfolding known run_for
    known_looked o h = rw (e, ← q) (alike_look 0 (search_alike s.count o _ s.first s.first s.count h))

    -- the search that code has made
    pub known_found : {w : Wide} → w ≡ wide_of (filled 16 k) (length k) → Bytes k → Bytes m.directory
        → look_of 0 (search s.count (λ j. order_wide w (wide_in (drop (32 * j) (behind m.directory)))) s.first s.count) ≡ known k id m
    known_found {w} c bk bd =
        let l = short_key k e in
        let lies = rw (← q) at (run_lies id m.directory m.values (sym (ap (λ (r : Run). r.number) q))).1 in
        known_looked _ (λ j h. rw c (compared_at k m.directory (bytes_filled 16 k bk) bd l (s.first + j) (omega (arith, lies))))

  known_run : no_key k ≡ false → (first n : ℕ) → run_of id m ≡ record { number = 0; first = first; count = n }
      → known k id m ≡ look_of 0 (search n (λ j. compare k (record_at j m.directory)) first n)
  unfolding known run_for
  known_run e first n r = rw (e, r)

-- ---- on an image

keys_at_law : (m : List Pair) (j : ℕ) → get_or (keys m) j [] ≡ (pair_at m j).key
keys_at_law [] j = refl
keys_at_law (p ∷ m) zero = refl
keys_at_law (p ∷ m) (suc j) = keys_at_law m j

module _ (k : Key) (short : length k ≤ 16) (a b : List Namespace) (s : Namespace) {d v : List ℕ} (h : Holds (a ++ s ∷ b) (memory d v)) where
  -- the key of slot j
  compared_held : (j : ℕ) → j < length s.pairs → compare k (record_at (total slots_of a + j) d) ≡ order k (get_or (keys s.pairs) j [])
  unfolding compare
  compared_held j l =
      let c = (within_held a b s h).count in
      let p = (part_held a b s h).holds in
      let x = pair_at s.pairs j in
      let i : 64 + 32 * total slots_of a + 32 * j ≡ 64 + 32 * (total slots_of a + j) = omega arith in
      let o = 64 + 32 * total slots_of a in
      let e = field_at (total slots_of a + j) o (32 * slots_of s) j 0 16 d i (omega arith) (omega arith) ∙ sixteen_at p j l in
      let f = ap number (field_at (total slots_of a + j) o (32 * slots_of s) j 16 4 d i (omega arith) (omega arith)) ∙ key_length_at p j l in
      let w = (recorded_at s.pairs j l p.recorded).0 in
      rw (e, f, keys_at_law s.pairs j) (order_padded k x.key (16 - length k) (16 - length x.key) (omega arith))

  searched_held : Alike (search (length s.pairs) (λ j. compare k (record_at j d)) (total slots_of a) (length s.pairs)) (search_keys k (keys s.pairs))
  searched_held =
      rw (length_keys s.pairs)
      (search_alike (length s.pairs) _ _ (total slots_of a) 0 (length s.pairs) (λ j l. compared_held j l ∙ rw (zero-add j)))

abbrev Right : Key → ℕ → List Namespace → Look → Type 0
Right k id ss l = l ≡ cond (eqb id (at id ss).id) (look_of 0 (search_keys k (keys (at id ss).pairs))) (no_look 23)

-- the answer goes by what the id names, and by nothing else of memory
pub known_held : {ss : List Namespace} {m : Memory} (k : Key) (id : ℕ) → Holds ss m → known k id m ≡ known_in k id (at id ss)
known_held {ss} {m} k id h = elim (split (no_key k)) [ holds e ↦ rw e (sym (known_15 k id m e)) | fails e ↦ rw e (go e (held id ss) refl) ]
  where
    there : no_key k ≡ false → (n : Named id ss) → Right k id ss (known k id m)
    there e n =
        let s = n.space in
        let i = eq-eqb id s.id n.id in
        let g = rw n.all at h in
        let r : run_of id m ≡ run_from (total slots_of n.before) (label_of s) =
        run_held id ss h ∙ ap (run_among id 0) n.all ∙ run_there id n.behind s n.before 0 n.first i ∙ rw zero-add in
        let q : at id ss ≡ s = rw n.all (at_there id s n.behind n.id n.before n.first) in
        rw (q, i) (known_run k id m e _ _ r ∙ alike_look 0 (searched_held k (short_key k e) n.before n.behind s g))

    go : no_key k ≡ false → (z : Bool) → held id ss ≡ z → Right k id ss (known k id m)
    go e false f = rw (at_none id ss f, another id) (known_none k id m e 23 (run_held id ss h ∙ run_none id ss 0 f))
    go e true f = there e (named id ss f)
