-- The two halves together: what `check` answers, one law for each way out. Assumes nothing.
use mathlib.Core.Path.{◌≡◌, refl, sym, ap, ap₂, ◌∙◌}
use mathlib.Core.Bool.{Bool, true, false, cond, ◌||◌}
use mathlib.Core.List.{List, [], ◌∷◌, ◌++◌}
use Rattle.std.specs.Prelude.{Option, Some, None}
use Prim.Native.Nat.{ℕ, ◌+◌, ◌*◌, ◌≤◌, ◌<◌}
use native.Mathlib.Nat.{add-zero, zero-add}
use native.Mathlib.Omega.{arith}
use lib.Dec.{ltb, eqb}
use lib.ListN.{length, take, drop, length-take, length-drop}
use borrow.Author.Tests.{eqb-false, eq-eqb, ne_eqb, not-true, ltb-false, le-ltb}
use Rattle.octets.specs.Octets.{part, number, zeros, all_zero}
use Rattle.octets.specs.Tests.{all}
use Rattle.octets.proofs.TestLaws.{refuted, contrary, neither, known, holds, fails, All, all_true, true_all}
use Rattle.octets.proofs.PartLaws.{length_part, part_two, part_front, part_inside, part_take}
use Rattle.octets.proofs.NumberLaws.{Bytes}
use Rattle.octets.proofs.ZeroLaws.{all_zeros}
use Rattle.store.specs.Namespace.{Namespace}
use Rattle.store.proofs.PartsLaws.{records_long, values_long}
use Rattle.legal.proofs.LegalLaws.{legal_part}
use Rattle.memory.specs.Namespaces.{slots_of}
use Rattle.memory.specs.Memory.{Memory, memory, half_of, half_for, head_of, label_in, label_at, namespace_at, namespaces_of, legal}
use Rattle.memory.proofs.LimitLaws.{Within, one_within, apart_two}
use Rattle.memory.proofs.ImageLaws.{Holds, holds_back, holds_legal, legal_holds}
use Rattle.memory.proofs.PlaceLaws.{parts_hold, half_held, label_held, part_held, directory_long, head_held}
use Rattle.checking.specs.declared.checks.Checked.{Checked}
use Rattle.checking.specs.Checks.{numbers_at, checked, CanSee, half_tests, half_checked}
use Rattle.checking.proofs.checks.Halves.{Stands, tests_stand, stand_tests}

-- ---- one half

module _ (half start base : ℕ) (m : Memory) where
  pub half_ok : {k : Checked} → Some k ≡ half_checked half start base m
      → All (half_tests half start base m) × (k ≡ numbers_at half start base (namespace_at half start base m))
  unfolding half_checked
  half_ok {k} e =
      elim (known (all (half_tests half start base m))) [
        | holds q ↦
            let i = rw q at e in
            (all_true (half_tests half start base m) q, cc i)
        | fails q ↦
            let i = rw q at e in
            absurd (cc i)
      ]

  pub half_not : None ≡ half_checked half start base m → All (half_tests half start base m) → ⊥
  unfolding half_checked
  half_not e t =
      let i = rw (true_all (half_tests half start base m) t) at e in
      cc i

-- ---- two halves

-- the two cannot stand side by side
abbrev clash : Checked → Checked → Bool
clash k t = eqb k.label.id t.label.id || ltb 65536 (k.label.size + t.label.size)

-- of two that can, the one that n names, else the first
abbrev chosen : ℕ → Checked → Option Checked → Option Checked
chosen n k None = None
chosen n k (Some t) = cond (clash k t) None (cond (eqb t.label.id n) (Some t) (Some k))

some_chosen : (b : Bool) (k t : Checked) → cond b (Some t) (Some k) ≡ Some (cond b t k)
some_chosen true k t = refl
some_chosen false k t = refl

-- ---- the head of one and of two

head_two : (d : List ℕ) → take 64 d ≡ part 0 32 d ++ part 32 32 d
head_two d = sym (part_front 64 d) ∙ part_two 0 32 32 d

head_one_is : (s : Namespace) → head_of (s ∷ []) ≡ half_for s ++ zeros 32
unfolding head_of half_of
head_one_is s = refl

head_two_is : (s t : Namespace) → head_of (s ∷ t ∷ []) ≡ half_for s ++ half_for t
unfolding head_of half_of
head_two_is s t = refl

module _ (d v : List ℕ) where
  abbrev m : Memory
  m = memory d v

  abbrev s : Namespace
  s = namespace_at 0 64 0 m

  abbrev t : Namespace
  t = namespace_at 32 (64 + 32 * slots_of s) s.size m

  one_there : eqb t.id 0 ≡ true → namespaces_of m ≡ s ∷ []
  unfolding namespaces_of
  one_there e = rw e

  two_there : eqb t.id 0 ≡ false → namespaces_of m ≡ s ∷ t ∷ []
  unfolding namespaces_of
  two_there e = rw e

  -- ---- what legal memory has

  first_tests : Holds (namespaces_of m) m → All (half_tests 0 64 0 m)
  unfolding namespaces_of
  first_tests h =
      let b = cond (eqb t.id 0) [] (t ∷ []) in
      stand_tests 0 64 0 d v s (label_held [] b s h) (half_held [] b s h) (part_held [] b s h)

  rest_zero : Holds (s ∷ []) m → all_zero (part 32 32 d) ≡ true
  unfolding head_of half_of part
  rest_zero h = ap all_zero (sym (part_take 32 32 64 d (omega arith)) ∙ ap (part 32 32) (head_held h))

  second_tests : Holds (s ∷ t ∷ []) m → All (half_tests 32 (64 + 32 * slots_of s) s.size m)
  second_tests h =
      stand_tests 32 (64 + 32 * slots_of s) s.size d v t (label_held (s ∷ []) [] t h) (half_held (s ∷ []) [] t h)
      (rw (add-zero (slots_of s), add-zero s.size) at (part_held (s ∷ []) [] t h))

  -- ---- and the other way

  module _ (bs : Bytes d) (l : 64 ≤ length d) (f : All (half_tests 0 64 0 m)) where
    first : Stands 0 64 0 d v s
    first = tests_stand 0 64 0 d v bs (omega arith) f

    one_holds : all_zero (part 32 32 d) ≡ true → Holds (s ∷ []) m
    one_holds z =
        let y : part 32 32 d ≡ zeros 32 = rw (length_part 32 32 d l) at (all_zeros (part 32 32 d) z) in
        parts_hold (s ∷ []) d v (one_within s first.within) (head_two d ∙ ap₂ ◌++◌ first.there y ∙ sym (head_one_is s)) (first.lies, tt)

    two_holds : All (half_tests 32 (64 + 32 * slots_of s) s.size m) → ¬ (s.id ≡ t.id) → s.size + t.size ≤ 65536 → Holds (s ∷ t ∷ []) m
    two_holds g i n =
        let second = tests_stand 32 (64 + 32 * slots_of s) s.size d v bs l g in
        let w : Within (s ∷ t ∷ []) =
        record {
          one = omega arith;
          two = omega arith;
          each = (first.within, (second.within, tt));
          apart = apart_two s t ∙ rw (ne_eqb s.id t.id i);
          room = omega arith;
        } in
        parts_hold (s ∷ t ∷ []) d v w (head_two d ∙ ap₂ ◌++◌ first.there second.there ∙ sym (head_two_is s t))
        (first.lies, (rw (zero-add s.size) second.lies, tt))

  -- ---- the ways out of `check`

  refuse : (n : ℕ) → (Holds (namespaces_of m) m → ⊥) → None ≡ checked n m
  unfolding checked
  refuse n q = rw (refuted (legal m) (λ e. q (legal_holds m e)))

  abbrev seconds : List Bool
  seconds = half_tests 32 (64 + 32 * slots_of s) s.size m

  both_is : (n : ℕ) → eqb t.id 0 ≡ false → Bytes d → 64 ≤ length d → All (half_tests 0 64 0 m)
      → chosen n (numbers_at 0 64 0 s) (half_checked 32 (64 + 32 * slots_of s) s.size m) ≡ checked n m
  unfolding half_checked checked
  both_is n q bs l f =
      elim (known (all seconds)) [
        | fails x ↦ rw x (refuse n (λ h. contrary (sym x ∙ true_all seconds (second_tests (rw (two_there q) at h)))))
        | holds x ↦
            elim (known (eqb s.id t.id || ltb 65536 (s.size + t.size))) [
              | holds y ↦
                  rw (x, y)
                  (refuse n
                  (λ h.
                  let w = rw (two_there q) at h.within in
                  let i : eqb s.id t.id ≡ false = not-true _ (sym (apart_two s t) ∙ w.apart) in
                  let j : s.size + t.size ≤ 65536 = omega (arith, w.room) in
                  contrary (rw (i, le-ltb 65536 (s.size + t.size) j) at y)))
              | fails y ↦
                  let g = neither _ _ y in
                  let h = two_holds bs l f (all_true seconds x) (eqb-false _ _ g.0) (ltb-false _ _ g.1) in
                  rw (x, y, holds_legal h, holds_back h, add-zero (slots_of s), add-zero s.size) (some_chosen (eqb t.id n) _ _)
            ]
      ]

  pub check_short : (n : ℕ) → length d < 64 → None ≡ checked n m
  check_short n l = refuse n (λ h. omega (arith, directory_long h))

  pub check_first : (n : ℕ) → None ≡ half_checked 0 64 0 m → None ≡ checked n m
  check_first n e = refuse n (λ h. half_not 0 64 0 m e (first_tests h))

  module _ (n : ℕ) {k : Checked} (e : Some k ≡ half_checked 0 64 0 m) {r : ℕ} (er : r ≡ number (part 32 4 d)) where
    first_ok : All (half_tests 0 64 0 m) × (k ≡ numbers_at 0 64 0 s)
    first_ok = half_ok 0 64 0 m e

    id_is : t.id ≡ r
    unfolding namespace_at label_in
    id_is = ap number (part_inside 32 32 0 4 d (omega arith)) ∙ sym er

    -- what the second half needs
    pub first_behind : 64 ≤ length d → CanSee 32 k.end k.label.size d v
    unfolding namespace_at part
    first_behind l =
        let p = legal_part (label_at 0 d) _ _ first_ok.0.1.0 in
        let a = length-take (32 * slots_of s) (drop 64 d) in
        let b = length-take s.size (drop 0 v) in
        rw first_ok.1 (record {
          head = omega arith;
          directory = l;
          records = omega (arith, records_long p.holds, a, length-drop 64 d);
          values = omega (arith, values_long p.holds, b, length-drop 0 v);
        })

    -- ---- one namespace

    module _ (z : r ≡ 0) {y : Bool} (ey : y ≡ all_zero (take 32 (drop 32 d))) where
      alone : namespaces_of m ≡ s ∷ []
      alone = one_there (eq-eqb t.id 0 (id_is ∙ z))

      pub check_rest : y ≡ false → None ≡ checked n m
      unfolding part
      check_rest q = refuse n (λ h. contrary (sym q ∙ ey ∙ rest_zero (rw alone at h)))

      pub check_one : y ≡ true → Bytes d → 64 ≤ length d → Some k ≡ checked n m
      unfolding checked part
      check_one q bs l =
          let h = one_holds bs l first_ok.0 (sym ey ∙ q) in
          rw (holds_legal h, holds_back h) (ap Some first_ok.1)

    -- ---- two

    module _ (z : ¬ (r ≡ 0)) {o : Option Checked} (eo : o ≡ half_checked 32 k.end k.label.size m) (bs : Bytes d) (l : 64 ≤ length d) where
      both_checked : chosen n k o ≡ checked n m
      both_checked =
          ap (chosen n k) eo
          ∙ ap (λ (x : Checked). chosen n x (half_checked 32 x.end x.label.size m)) first_ok.1
          ∙ both_is n (ne_eqb t.id 0 (λ q. z (sym id_is ∙ q))) bs l first_ok.0

      pub check_second : o ≡ None → None ≡ checked n m
      check_second q = rw q at both_checked

      module _ {u : Checked} (q : o ≡ Some u) where
        with_second : chosen n k (Some u) ≡ checked n m
        with_second = rw q at both_checked

        pub check_clash : clash k u ≡ true → None ≡ checked n m
        check_clash c = rw c at with_second

        pub check_named : clash k u ≡ false → u.label.id ≡ n → Some u ≡ checked n m
        check_named c i = rw (c, eq-eqb u.label.id n i) at with_second

        pub check_other : clash k u ≡ false → ¬ (u.label.id ≡ n) → Some k ≡ checked n m
        check_other c i = rw (c, ne_eqb u.label.id n i) at with_second

pub ruleset both_laws = (check_short, check_first, first_behind, check_rest, check_one, check_second, check_clash, check_named, check_other)
