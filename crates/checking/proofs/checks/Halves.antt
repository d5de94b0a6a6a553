-- One half of the head with its parts: what `check_half` answers, one law for each way out; and what its tests say of a namespace. Assumes nothing.
use mathlib.Core.Path.{◌≡◌, sym, ap, ◌∙◌}
use mathlib.Core.Bool.{Bool, true, false, ◌||◌}
use mathlib.Core.List.{List, ◌++◌}
use Rattle.std.specs.Prelude.{Some, None, Result, Ok, Err}
use Rattle.std.specs.Result.{result_ok}
use Prim.Native.Nat.{ℕ, ◌+◌, ◌-◌, ◌*◌, ◌≤◌}
use native.Mathlib.Omega.{arith}
use lib.Dec.{ltb}
use lib.ListN.{length, take, drop, length-take, length-drop}
use borrow.Author.Tests.{eqb-true, eqb-false, eq-eqb, ltb-false, le-ltb}
use Rattle.refusals.specs.declared.numbers.Refusal.{Refusal}
use Rattle.refusals.specs.Refusals.{number_in}
use Rattle.refusals.proofs.Counted.{number_counts}
use Rattle.octets.specs.Octets.{part, number, bytes, zeros, all_zero}
use Rattle.octets.specs.Tests.{all, first_of}
use Rattle.octets.proofs.TestLaws.{refuted, contrary, neither, All, all_true, true_all}
use Rattle.octets.proofs.PartLaws.{length_part, part_two, part_inside, part_whole}
use Rattle.octets.proofs.NumberLaws.{Bytes, bytes_in, bytes_part}
use Rattle.octets.proofs.ZeroLaws.{all_zeros}
use Rattle.store.specs.declared.namespaces.Label.{Label}
use Rattle.legal.specs.declared.checks.Sums.{Sums}
use Rattle.table.specs.declared.formats.Format.{Format}
use Rattle.table.specs.Formats.{format_of, slots}
use Rattle.store.specs.Maps.{used}
use Rattle.store.specs.Namespace.{Namespace, permit_steps}
use Rattle.store.specs.Records.{pairs_in}
use Rattle.legal.specs.Checks.{part_legal, sums_of, part_sums}
use Rattle.store.proofs.NamespaceLaws.{Permitted, no_number, permitted as permits, Within as One}
use Rattle.store.proofs.PartsLaws.{length_pairs, records_long, values_long, pairs_held}
use Rattle.legal.proofs.LegalLaws.{Legal, legal_part, part_legal_law, sums_legal}
use Rattle.memory.specs.Memory.{Memory, memory, half_of, label_of, half_for, label_in, label_at, records_in, values_in, namespace_at}
use Rattle.memory.proofs.PlaceLaws.{Lies}
use Rattle.checking.specs.Checks.{CanSee, half_tests, half_checked}

-- ---- what the tests say

-- a half is written as it is read, where zeros stand behind its numbers
half_read : (x : List ℕ) → Bytes x → length x ≡ 32 → all_zero (part 20 12 x) ≡ true → x ≡ half_of (label_in x)
unfolding half_of label_in
half_read x b l z =
    let y : zeros 12 ≡ part 20 12 x = sym (rw (length_part 20 12 x (omega arith)) at (all_zeros (part 20 12 x) z)) in
    let word : (at : ℕ) → at + 4 ≤ 32 → bytes 4 (number (part at 4 x)) ≡ part at 4 x = λ at l4. bytes_in at 4 x b (omega arith) in
    sym (joins (word 0 (omega arith)) (word 4 (omega arith)) (word 8 (omega arith)) (word 12 (omega arith)) (word 16 (omega arith)) y)
  where
    joins : {a e f g u y : List ℕ} → a ≡ part 0 4 x → e ≡ part 4 4 x → f ≡ part 8 4 x → g ≡ part 12 4 x → u ≡ part 16 4 x → y ≡ part 20 12 x
        → a ++ e ++ f ++ g ++ u ++ y ≡ x
    joins pa pe pf pg pu py =
        rw (pa, pe, pf, pg, pu, py, ← part_two 0 4 4 x, ← part_two 0 8 4 x, ← part_two 0 12 4 x, ← part_two 0 16 4 x, ← part_two 0 20 12 x)
        (part_whole 32 x l)

module _ (half start base : ℕ) (d v : List ℕ) where
  abbrev m : Memory
  m = memory d v

  abbrev label : Label
  label = label_at half d

  -- the parts are those of a namespace within its limits, and its numbers stand in the half
  pub record Stands (s : Namespace) : Type 0 where
    pub within : One s
    pub lies : Lies s start base d v
    pub there : part half 32 d ≡ half_for s

  pub tests_stand : Bytes d → half + 32 ≤ length d → All (half_tests half start base m) → Stands (namespace_at half start base m)
  unfolding namespace_at
  tests_stand bs l t =
      let p = legal_part label _ _ t.1.0 in
      let u = eqb-true (used (namespace_at half start base m).pairs) label.used t.1.1.0 in
      let n = length_pairs label.count (records_in label start d) (values_in label base v) in
      let z : all_zero (part 20 12 (part half 32 d)) ≡ true = rw (part_inside half 32 20 12 d (omega arith)) t.0 in
      record {
        within = p.within;
        lies = record { records = p.holds.records; values = p.holds.values };
        there = half_read (part half 32 d) (bytes_part half 32 d bs l) (length_part half 32 d l) z ∙ rw (u, n);
      }

  zeros_there : (h : Label) → part half 32 d ≡ half_of h → all_zero (part (half + 20) 12 d) ≡ true
  unfolding half_of part
  zeros_there h e = ap all_zero (sym (part_inside half 32 20 12 d (omega arith)) ∙ ap (part 20 12) e)

  pub stand_tests : (s : Namespace) → label_at half d ≡ label_of s → part half 32 d ≡ half_for s
      → Legal (label_of s) s.pairs (records_in (label_of s) start d) (values_in (label_of s) base v) → All (half_tests half start base m)
  stand_tests s e f l =
      let p = pairs_held l.holds in
      let found = pairs_in (length s.pairs) (records_in (label_of s) start d) (values_in (label_of s) base v) in
      rw e (zeros_there (label_of s) f, (part_legal_law (label_of s) _ _ (rw p l), (eq-eqb (used found) (used s.pairs) (ap used p), tt)))

-- ---- the ways out of `check_half`

module _ {half start base : ℕ} {d v : List ℕ} (c : CanSee half start base d v) where
  abbrev tests : List Bool
  tests = half_tests half start base (memory d v)

  refuse : (All tests → ⊥) → None ≡ half_checked half start base (memory d v)
  unfolding half_checked
  refuse n = rw (refuted (all tests) (λ e. n (all_true tests e)))

  module _ {y : Bool} (ey : y ≡ all_zero (take (half + 32 - (half + 20)) (drop (half + 20) d))) where
    zeros_are : y ≡ all_zero (part (half + 20) 12 d)
    unfolding part
    zeros_are =
        let n : half + 32 - (half + 20) ≡ 12 = omega arith in
        rw n at ey

    pub check_zeros : y ≡ false → None ≡ half_checked half start base (memory d v)
    check_zeros z = refuse (λ a. contrary (sym z ∙ zeros_are ∙ a.0))

  module _ {x : List ℕ} (ex : x ≡ part half 32 d) {h : Label} (eh : h ≡ label_in x) where
    label_is : h ≡ label_at half d
    label_is = eh ∙ ap label_in ex

    -- the parts that h names
    abbrev records : List ℕ
    records = records_in h start d

    abbrev values : List ℕ
    values = values_in h base v

    tested : All tests → Legal h (pairs_in h.count records values) records values
    tested t = rw label_is (legal_part _ _ _ t.1.0)

    -- numbers 3 to 5 stand against it
    pub check_refused : (r : Result Format Refusal) → number_in r ≡ first_of (permit_steps h.index h.id h.size) → None ≡ result_ok r
        → None ≡ half_checked half start base (memory d v)
    check_refused (Ok f) e q = absurd cc
    check_refused (Err r) e q = refuse (λ t. eqb-false _ 0 (number_counts r) (e ∙ no_number h.index h.id h.size (tested t).within.permits))

    module _ {f : Format} (eq : f ≡ format_of h.index) where
      -- a slice is too short
      abbrev short : Bool
      short = ltb (length d) (start + 32 * f.maxkeys) || ltb (length v) (base + h.size)

      record Spanned : Type 0 where
        pub permits : Permitted h.index h.id h.size
        pub directory : start + 32 * f.maxkeys ≤ length d
        pub room : base + h.size ≤ length v

      spanned : 0 ≡ first_of (permit_steps h.index h.id h.size) → short ≡ false → Spanned
      spanned n q =
          let b = neither _ _ q in
          record { permits = permits h.index h.id h.size (sym n); directory = ltb-false _ _ b.0; room = ltb-false _ _ b.1 }

      pub check_short : short ≡ true → None ≡ half_checked half start base (memory d v)
      unfolding part
      check_short q =
          refuse
          (λ t.
          let l = tested t in
          let x : start + 32 * f.maxkeys ≤ length d =
          rw eq (omega (arith, records_long l.holds, length-take (32 * slots h.index) (drop start d), length-drop start d, c)) in
          let y : base + h.size ≤ length v = omega (arith, values_long l.holds, length-take h.size (drop base v), length-drop base v, c) in
          contrary (rw (le-ltb _ _ x, le-ltb _ _ y) at q))

      module _ (n : 0 ≡ first_of (permit_steps h.index h.id h.size)) (in_reach : short ≡ false) where
        q : Spanned
        q = spanned n in_reach

        abbrev end : ℕ
        end = start + 32 * f.maxkeys

        records_are : take (end - start) (drop start d) ≡ records
        unfolding part
        records_are =
            let n : end - start ≡ 32 * slots h.index = rw eq (omega arith) in
            rw n

        values_are : take (base + h.size - base) (drop base v) ≡ values
        unfolding part
        values_are =
            let n : base + h.size - base ≡ h.size = omega arith in
            rw n

        pub check_unread : None ≡ part_sums h (take (end - start) (drop start d)) (take (base + h.size - base) (drop base v))
            → None ≡ half_checked half start base (memory d v)
        unfolding part_sums
        check_unread e =
            refuse
            (λ a.
            let y : part_legal h records values ≡ true = rw label_is a.1.0 in
            let i = rw (records_are, values_are, y) at e in
            absurd (cc i))

        module _ {t : Sums} (et : Some t ≡ part_sums h (take (end - start) (drop start d)) (take (base + h.size - base) (drop base v))) where
          sums_are : Some t ≡ part_sums h records values
          sums_are = rw (records_are, values_are) at et

          legal_sums : (part_legal h records values ≡ true) × (t ≡ sums_of (pairs_in h.count records values))
          legal_sums = sums_legal h records values t sums_are

          pub check_sums : ¬ (t.used ≡ h.used) → None ≡ half_checked half start base (memory d v)
          check_sums w =
              refuse
              (λ a.
              let u : used (pairs_in h.count records values) ≡ h.used = rw label_is (eqb-true _ _ a.1.1.0) in
              w (ap (λ (x : Sums). x.used) legal_sums.1 ∙ u))

          pub check_passed : {y : Bool} → y ≡ all_zero (take (half + 32 - (half + 20)) (drop (half + 20) d)) → y ≡ true → t.used ≡ h.used
              → Some (record { label = h; format = f; half = half; start = start; end = end; base = base; total = t.total })
              ≡ half_checked half start base (memory d v)
          unfolding half_checked namespace_at
          check_passed ey z u =
              let l = legal_sums in
              let k : used (pairs_in h.count records values) ≡ h.used = sym (ap (λ (x : Sums). x.used) l.1) ∙ u in
              let a : All tests = (sym (zeros_are ey) ∙ z, (rw (← label_is) l.0, (rw (← label_is) (eq-eqb _ _ k), tt))) in
              rw (true_all tests a, ← label_is, l.1, eq, length_pairs h.count records values, k)

pub ruleset half_laws = (check_zeros, check_short, check_unread, check_sums, check_passed)
