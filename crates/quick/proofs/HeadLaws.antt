-- The run that the head names: its slots lie in the directory; a refusal has none; and on an image it is the run of the namespace that the id
-- names. Assumes nothing.
use mathlib.Core.Path.{◌≡◌, refl, sym, ap, ◌∙◌}
use mathlib.Core.Bool.{Bool, true, false, cond}
use mathlib.Core.List.{List, [], ◌∷◌, ◌++◌}
use Prim.Native.Nat.{ℕ, ◌+◌, ◌*◌, ◌≤◌}
use native.Mathlib.Nat.{zero-add, add-zero, add_assoc}
use native.Mathlib.Omega.{arith}
use lib.Dec.{eqb}
use lib.ListN.{length}
use borrow.Author.Tests.{eqb-true, eqb-false, ne_eqb, le-leb, leb-true}
use Rattle.octets.specs.Octets.{part, number}
use Rattle.octets.specs.Tests.{all}
use Rattle.octets.proofs.TestLaws.{known, holds, fails, neither, All, all_true, true_all}
use Rattle.table.specs.Formats.{slots}
use Rattle.store.specs.declared.namespaces.Label.{Label}
use Rattle.store.specs.Namespace.{Namespace}
use Rattle.store.proofs.NamespaceLaws.{Within as One}
use Rattle.memory.specs.Namespaces.{total, slots_of, held}
use Rattle.memory.specs.Memory.{Memory, memory, label_of, label_in, label_at, half_of, head_of, directory_of}
use Rattle.memory.proofs.ImageLaws.{Holds, directory_split}
use Rattle.memory.proofs.PlaceLaws.{label_held, directory_long, values_long_enough}
use Rattle.quick.specs.Heads.{Run, slots_by, size_by, sound_tests, sound, need_tests, no_run, run_from, chosen, run_by, run_of}
use Rattle.quick.proofs.ClaimLaws.{sound_is, run_by_law}

-- ---- the run that is chosen

-- its slots are among those that the halves ask for, and these lie in a directory of d bytes
pub record Inside (h t : Label) (d : ℕ) (r : Run) : Type 0 where
  pub count : r.count ≤ 1024
  pub slots : r.first + r.count ≤ slots_by h + slots_by t
  pub few : slots_by h + slots_by t ≤ 2048
  pub lies : 64 + 32 * (slots_by h + slots_by t) ≤ d

module _ (id : ℕ) (h t : Label) (d v : ℕ) where
  -- by the tests
  abbrev by : Bool → Bool → Bool → Bool → Run
  by z a b c = cond z (cond a (no_run 23) (cond b (run_from 0 h) (cond c (run_from (slots_by h) t) (no_run 23)))) (no_run 6)

  refused : ¬ ((run_by id h t d v).number ≡ 0) → run_by id h t d v ≡ no_run (run_by id h t d v).number
  unfolding run_by
  refused n = go (all (need_tests h t d v)) (eqb id 0) (eqb id h.id) (eqb id t.id) n
    where
      go : (z a b c : Bool) → ¬ ((by z a b c).number ≡ 0) → by z a b c ≡ no_run (by z a b c).number
      go false a b c n = refl
      go true true b c n = refl
      go true false true c n = absurd (n refl)
      go true false false true n = absurd (n refl)
      go true false false false n = refl

  inside : (run_by id h t d v).number ≡ 0 → Inside h t d (run_by id h t d v)
  unfolding run_by
  inside e = go (all (need_tests h t d v)) refl (eqb id 0) refl (eqb id h.id) refl (eqb id t.id) refl e
    where
      of : {r : Run} → All (need_tests h t d v) → r.count ≤ 1024 → r.first + r.count ≤ slots_by h + slots_by t → Inside h t d r
      of n c s =
          record {
            count = c;
            slots = s;
            few = omega (arith, (sound_is h n.1.0).slots, (sound_is t n.1.1.0).slots);
            lies = leb-true (64 + 32 * (slots_by h + slots_by t)) d n.1.1.1.0;
          }

      go : (z : Bool) → all (need_tests h t d v) ≡ z → (a : Bool) → eqb id 0 ≡ a → (b : Bool) → eqb id h.id ≡ b → (c : Bool) → eqb id t.id ≡ c
          → (by z a b c).number ≡ 0 → Inside h t d (by z a b c)
      go false f a p b q c r e = absurd (omega arith)
      go true f true p b q c r e = absurd (omega arith)
      go true f false p false q false r e = absurd (omega arith)
      go true f false p true q c r e =
          let n = all_true (need_tests h t d v) f in
          let i = (sound_is h n.1.0).count (λ z. eqb-false id 0 p (eqb-true id h.id q ∙ z)) in
          of n (omega (arith, (sound_is h n.1.0).slots)) (omega arith)
      go true f false p false q true r e =
          let n = all_true (need_tests h t d v) f in
          let i = (sound_is t n.1.1.0).count (λ z. eqb-false id 0 p (eqb-true id t.id r ∙ z)) in
          of n (omega (arith, (sound_is t n.1.1.0).slots)) (omega arith)

module _ (id : ℕ) (m : Memory) where
  pub run_refused : ¬ ((run_of id m).number ≡ 0) → run_of id m ≡ no_run (run_of id m).number
  unfolding run_of
  run_refused = refused id (label_at 0 m.directory) (label_at 32 m.directory) (length m.directory) (length m.values)

  pub run_inside : (run_of id m).number ≡ 0 → Inside (label_at 0 m.directory) (label_at 32 m.directory) (length m.directory) (run_of id m)
  unfolding run_of
  run_inside = inside id (label_at 0 m.directory) (label_at 32 m.directory) (length m.directory) (length m.values)

-- what the search asks for
pub run_lies : (id : ℕ) (d v : List ℕ) → (run_of id (memory d v)).number ≡ 0
    → ((run_of id (memory d v)).first + (run_of id (memory d v)).count ≤ 2048)
    × (64 + 32 * ((run_of id (memory d v)).first + (run_of id (memory d v)).count) ≤ length d)
run_lies id d v q =
    let i = run_inside id (memory d v) q in
    (omega (arith, i.slots, i.few), omega (arith, i.slots, i.lies))

-- ---- on an image

-- the run of the one that id names among ss, of which the first has its records from a slot on
abbrev pub run_among : ℕ → ℕ → List Namespace → Run
run_among id b [] = no_run 23
run_among id b (s ∷ ss) = cond (eqb id s.id) (run_from b (label_of s)) (run_among id (b + slots_of s) ss)

pub run_there : (id : ℕ) (b : List Namespace) (s : Namespace) (a : List Namespace) (n : ℕ) → held id a ≡ false → eqb id s.id ≡ true
    → run_among id n (a ++ s ∷ b) ≡ run_from (n + total slots_of a) (label_of s)
run_there id b s [] n f e = rw (e, add-zero n)
run_there id b s (t ∷ a) n f e =
    let g = neither (eqb id t.id) (held id a) f in
    rw g.0 (run_there id b s a (n + slots_of t) g.1 e ∙ rw (add_assoc n (slots_of t) (total slots_of a)))

pub run_none : (id : ℕ) (ss : List Namespace) (n : ℕ) → held id ss ≡ false → run_among id n ss ≡ no_run 23
run_none id [] n f = refl
run_none id (s ∷ ss) n f =
    let g = neither (eqb id s.id) (held id ss) f in
    rw g.0 (run_none id ss (n + slots_of s) g.1)

-- what a namespace within its limits asks for
record Asks (s : Namespace) : Type 0 where
  named : eqb s.id 0 ≡ false
  sound : sound (label_of s) ≡ true

asks : (s : Namespace) → One s → Asks s
asks s w =
    let p = w.permits in
    let n = ne_eqb s.id 0 (λ e. omega (arith, p.id_low)) in
    let tests : All (sound_tests (label_of s)) =
    (le-leb _ 15 p.index, (le-leb 1 _ p.size_low, (le-leb _ 65536 p.size_high, (le-leb _ (slots s.index) w.count, tt)))) in
    record { named = n; sound = rw n (true_all (sound_tests (label_of s)) tests) }

-- the second half of one namespace is empty
second_empty : (s : Namespace) (x : List ℕ) → (label_at 32 (directory_of (s ∷ []) ++ x)).id ≡ 0
unfolding label_in directory_of head_of half_of part number
second_empty s x = refl

module _ (id : ℕ) where
  -- an id of 0 names no half, an empty one no more than another
  chosen_any : (h t : Label) → eqb h.id 0 ≡ false
      → chosen id h t
      ≡ cond (eqb id h.id) (run_from 0 h) (cond (eqb t.id 0) (no_run 23) (cond (eqb id t.id) (run_from (slots_by h) t) (no_run 23)))
  chosen_any h t n =
      elim (known (eqb id h.id)) [
        | holds b ↦ rw (b, eqb-true id h.id b, n)
        | fails b ↦
            elim (known (eqb id 0)) [
              | holds a ↦
                  elim (known (eqb t.id 0)) [
                    | holds z ↦ rw (a, b, z)
                    | fails z ↦ rw (a, b, z, ne_eqb id t.id (λ f. eqb-false t.id 0 z (sym f ∙ eqb-true id 0 a)))
                  ]
              | fails a ↦
                  elim (known (eqb t.id 0)) [
                    | holds z ↦ rw (a, b, z, ne_eqb id t.id (λ f. eqb-false id 0 a (f ∙ eqb-true t.id 0 z)))
                    | fails z ↦ rw (a, b, z)
                  ]
            ]
      ]

  module _ {d v : List ℕ} where
    pub run_held : (ss : List Namespace) → Holds ss (memory d v) → run_of id (memory d v) ≡ run_among id 0 ss
    unfolding run_of
    run_held [] h = absurd (omega (arith, h.within.one))
    run_held (s ∷ []) h =
        let a = asks s h.within.each.0 in
        let t = label_at 32 d in
        let e : t.id ≡ 0 = ap (λ (x : List ℕ). (label_at 32 x).id) (directory_split h) ∙ second_empty s _ in
        let z : eqb t.id 0 ≡ true = rw e in
        let u : sound t ≡ true = rw z in
        let n : slots_by (label_of s) + slots_by t ≡ slots_of s = rw (a.named, z) (omega arith) in
        let r : size_by (label_of s) + size_by t ≡ s.size = rw (a.named, z) (omega arith) in
        rw (label_held [] [] s h)
        (run_by_law id (label_of s) t (length d) (length v) a.sound u (omega (arith, directory_long h)) (omega (arith, values_long_enough h))
        ∙ chosen_any (label_of s) t a.named ∙ rw z)
    run_held (s ∷ t ∷ []) h =
        let a = asks s h.within.each.0 in
        let b = asks t h.within.each.1.0 in
        let n : slots_by (label_of s) + slots_by (label_of t) ≡ slots_of s + slots_of t = rw (a.named, b.named) in
        let r : size_by (label_of s) + size_by (label_of t) ≡ s.size + t.size = rw (a.named, b.named) in
        rw (label_held [] (t ∷ []) s h, label_held (s ∷ []) [] t h)
        (run_by_law id (label_of s) (label_of t) (length d) (length v) a.sound b.sound (omega (arith, directory_long h)) (omega (arith, values_long_enough h))
        ∙ chosen_any (label_of s) (label_of t) a.named ∙ rw (a.named, b.named, zero-add (slots_of s)))
    run_held (s ∷ t ∷ u ∷ ss) h = absurd (omega (arith, h.within.two))
