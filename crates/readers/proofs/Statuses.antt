-- A command on another key of the same namespace can change step j of a command, and nothing before it. Assumes nothing.
use mathlib.Core.Path.{◌≡◌, sym, ap, ◌∙◌}
use mathlib.Core.Bool.{true, ◌||◌}
use mathlib.Core.List.{List, ◌++◌}
use Prim.Native.Nat.{ℕ}
use lib.Dec.{T, eqb}
use borrow.Author.Tests.{eqb-true, eq-eqb, ne_eqb}
use Rattle.octets.specs.Tests.{Row, first_of}
use Rattle.octets.proofs.TestLaws.{known, holds, fails, contrary, named, each, first_each, none_holds, none_first, some_first}
use Rattle.wire.specs.declared.entries.Command.{Command}
use Rattle.wire.specs.Entry.{key_of}
use Rattle.store.specs.Maps.{Pair, lookup, is_some}
use Rattle.store.specs.Namespace.{Namespace, with_pairs}
use Rattle.rules.specs.declared.steps.View.{View}
use Rattle.rules.specs.declared.steps.Stock.{Stock}
use Rattle.rules.specs.Steps.{view_of, stock_of, steps_to_h, step_i, step_j, steps, status_of}

-- last rows that have one number, and do not refuse, leave it to those before them
last_rows_law : (rs qs : List Row) (k : ℕ) → T (named rs) → T (each (λ n. eqb n 0 || eqb n k) qs) → ¬ (first_of (rs ++ qs) ≡ k)
    → first_of (rs ++ qs) ≡ first_of rs
last_rows_law rs qs k t u n =
    elim (known (eqb (first_of rs) 0)) [
      | fails z ↦ some_first rs qs (λ e. contrary (sym z ∙ eq-eqb (first_of rs) 0 e))
      | holds z ↦
          let e = eqb-true (first_of rs) 0 z in
          let late = none_first rs qs (none_holds rs t e) in
          late ∙ alone (first_of qs) (first_each _ qs tt u) (λ q. n (late ∙ q)) ∙ sym e
    ]
  where
    alone : (m : ℕ) → T (eqb m 0 || eqb m k) → ¬ (m ≡ k) → m ≡ 0
    alone m v q = elim (known (eqb m 0)) [ holds z ↦ eqb-true m 0 z | fails z ↦ absurd (rw (z, ne_eqb m k q) at v) ]

-- the rows before step j
abbrev front : View → Command → Stock → List Row
front v c u = steps_to_h v c ++ step_i u c

decided : (v : View) (c : Command) (u : Stock) → ¬ (first_of (steps v u c) ≡ 0x81) → first_of (steps v u c) ≡ first_of (front v c u)
unfolding steps
decided v c u n = last_rows_law (front v c u) (step_j u c) 0x81 tt tt n

-- the same under the key that is asked for
pub status_alike : (s : Namespace) (ps : List Pair) (c : Command) (n : ℕ) → lookup (key_of c) ps ≡ lookup (key_of c) s.pairs
    → ¬ (status_of true s c n ≡ 0x81) → ¬ (status_of true (with_pairs s ps) c n ≡ 0x81) → status_of true (with_pairs s ps) c n ≡ status_of true s c n
unfolding status_of
status_alike s ps c n e f g =
    let v = view_of true s n in
    let u = stock_of s (key_of c) in
    let w = stock_of (with_pairs s ps) (key_of c) in
    let same : w.held ≡ u.held = ap is_some e in
    let front_same : first_of (front v c w) ≡ first_of (front v c u) = rw same in
    decided v c w g ∙ front_same ∙ sym (decided v c u f)
