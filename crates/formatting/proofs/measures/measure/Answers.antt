use Rattle.std.proofs.Common.{rules}
use Rattle.formatting.specs.Formatting.{format_steps}
use Rattle.formatting.proofs.measures.measure.Goals as goal

pub returns-in_err-keys-2-clause-number : goal.returns-in_err-keys-2-clause-number
unfolding format_steps
returns-in_err-keys-2-clause-number c = rw c.in-Some.is (search rules)
