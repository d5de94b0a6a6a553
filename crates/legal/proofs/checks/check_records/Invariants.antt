use Rattle.legal.proofs.checks.Turns.{PassedOver}
use Rattle.legal.proofs.checks.check_records.Given as goal

abbrev pub invariant-loop-j : goal.invariant-loop-j
invariant-loop-j l = PassedOver l.count l.id l.f l.records l.before l.total l.keys l.j
