use mathlib.Core.Path.{◌∙◌}
use Rattle.checking.proofs.checks.Halves.{check_refused}
use Rattle.checking.proofs.checks.check_half.Goals as goal

pub returns-in_err-format : goal.returns-in_err-format
returns-in_err-format c =
    let n = rw c.from.ensures at c.permit.ensures.number in
    c.from_residual.ensures ∙ check_refused c.requires c.bytes_at.ensures c.read_label-label.ensures _ n c.in_err-format.ensures.value
