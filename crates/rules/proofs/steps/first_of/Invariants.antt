use Rattle.std.proofs.Common.{◌≡◌, cond, map, drop, is_ok}
use Rattle.refusals.specs.Refusals.{code_in}
use Rattle.octets.specs.Tests.{first_of}
use Rattle.rules.specs.Steps.{row_of}
use Rattle.rules.proofs.steps.first_of.Given as goal

abbrev pub invariant-loop-row : goal.invariant-loop-row
invariant-loop-row g l = cond (is_ok l.outcome) (first_of (map row_of (drop l.row-index l.rows))) (code_in l.outcome) ≡ first_of (map row_of l.rows)
