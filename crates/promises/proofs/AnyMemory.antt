-- A command on any memory at all, legal or not. Assumes nothing.
use mathlib.Core.Path.{◌≡◌, refl, ap, ◌∙◌}
use mathlib.Core.Bool.{Bool, true, false}
use mathlib.Core.List.{List}
use Prim.Native.Nat.{ℕ}
use native.Mathlib.Omega.{arith}
use lib.ListN.{length}
use lib.Dec.{eqb}
use Rattle.wire.specs.Entry.{read_command}
use Rattle.store.specs.Namespace.{Namespace}
use Rattle.memory.specs.Namespaces.{at}
use Rattle.memory.specs.Memory.{Memory, namespaces_of, legal}
use Rattle.rules.specs.Steps.{status_of}
use Rattle.wire.specs.Completion.{Post}
use Rattle.module.proofs.HistoryLaws.{status_back}
use Rattle.commands.specs.Command.{respond, serve, Outcome, outcome}
use Rattle.module.specs.History.{commanding, lend, run, status}
use Rattle.rules.proofs.StepLaws.{status_byte}
use Rattle.commands.proofs.AnswerLaws.{answer_status}
use Rattle.commands.proofs.CommandLaws.{command_0, command_1, command_2}

module _ (m : Memory) (p : Post) (e c b : List ℕ) where
  -- the namespace that it names, if memory is legal
  abbrev s : Namespace
  s = at (read_command e).nsid (namespaces_of m)

  -- number 0: the command is carried out
  pub any_served : (run m (commanding p e c b)).number ≡ 0 → run m (commanding p e c b) ≡ outcome 0 (serve p (read_command e) (lend c b m))
  any_served n = go (eqb (length e) 64) refl (eqb (length c) 16) refl
    where
      go : (x : Bool) → eqb (length e) 64 ≡ x → (y : Bool) → eqb (length c) 16 ≡ y
          → run m (commanding p e c b) ≡ outcome 0 (serve p (read_command e) (lend c b m))
      go false f y g = absurd (omega (arith, rw (command_1 p e (lend c b m) f) at n))
      go true f false g = absurd (omega (arith, rw (command_2 p e (lend c b m) f g) at n))
      go true f true g = command_0 p e (lend c b m) f g

  -- and its completion has the status of the steps
  pub any_status : (run m (commanding p e c b)).number ≡ 0
      → status (run m (commanding p e c b)) ≡ status_of (legal m) s (read_command e) (length b)
  unfolding serve respond
  any_status n =
      let k = read_command e in
      let st = answer_status (legal m) s k b in
      ap (λ (o : Outcome). status o) (any_served n)
      ∙ rw st (status_back p k (status_of (legal m) s k (length b)) _ (status_byte (legal m) s k (length b)))
