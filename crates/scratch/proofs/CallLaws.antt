-- The laws of an attempt and of a call: refused by a row, and let pass. Assumes nothing.
use mathlib.Core.Path.{◌≡◌, sym, ◌∙◌}
use mathlib.Core.Bool.{false}
use mathlib.Core.List.{List}
use Prim.Native.Nat.{ℕ, ◌+◌, ◌%◌, ◌≤◌}
use lib.ListN.{length}
use borrow.Author.Tests.{ltb-false, eqb-true, not-false, eq-eqb, ne_eqb}
use Rattle.octets.specs.Tests.{first_of}
use Rattle.octets.proofs.TestLaws.{both, none_holds}
use Rattle.wire.specs.Completion.{Post, posted}
use Rattle.ranges.specs.declared.requests.Request.{Request}
use Rattle.ranges.specs.Request.{aligned, read_request, numbers, statuses}
use Rattle.scratch.specs.Calls.{Task, lacks, Tried, tried, effect, attempt, Slices, slices, ended, memory_call}

-- ---- an attempt

-- what the table lets pass: the range lies in the memory, and in the data buffer if there is one
pub record Fits (t : Task) (q : Request) (b m : List ℕ) : Type 0 where
  pub lies : q.start + q.len ≤ length m
  pub words : q.len % 4 ≡ 0
  pub enough : lacks t b q.len ≡ false

module _ (t : Task) (id : ℕ) (q : Request) (b m : List ℕ) {st : ℕ} (e : st ≡ first_of (statuses q id (length m) (lacks t b q.len))) where
  pub attempt_refused : (st ≡ 0 → ⊥) → tried st b m ≡ attempt t id q b m
  unfolding attempt
  attempt_refused h = rw (← e, ne_eqb st 0 h)

  pub attempt_done : st ≡ 0 → effect t q b m ≡ attempt t id q b m
  unfolding attempt
  attempt_done h = rw (← e, eq-eqb st 0 h)

  pub fits : st ≡ 0 → Fits t q b m
  fits h =
      let n = none_holds (statuses q id (length m) (lacks t b q.len)) tt (sym e ∙ h) in
      let w = both (aligned q.start) (aligned q.len) (not-false _ n.1.0) in
      record { lies = ltb-false _ _ n.1.1.0; words = eqb-true _ 0 w.1; enough = n.1.1.1.0 }

-- ---- a call

module _ (e : List ℕ) (s : Slices) {k : ℕ} (f : k ≡ first_of (numbers e s.completion s.memory)) where
  pub call_refused : (t : Task) (p : Post) (id : ℕ) → (k ≡ 0 → ⊥) → ended k s ≡ memory_call t p id e s
  unfolding memory_call
  call_refused t p id h = rw (← f, ne_eqb k 0 h)

  -- the entry read, the attempt made and the completion written
  pub call_done : (t : Task) (p : Post) (id : ℕ) {q : Request} {r : Tried} {c : List ℕ} → k ≡ 0 → q ≡ read_request e
      → r ≡ attempt t id q s.buffer s.memory → c ≡ posted p q.cid r.status 0 → ended 0 (slices c r.buffer r.memory) ≡ memory_call t p id e s
  unfolding memory_call
  call_done t p id h eq er ec = rw (← f, h, ← eq, ← er, ec)
