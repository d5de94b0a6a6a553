use native.Mathlib.Omega.{arith}
use Rattle.octets.proofs.PartLaws.{lent_all}
use Rattle.octets.proofs.runs.copy_at.Goals as goal

pub returns : goal.returns
returns c = lent_all _ _ _ _ c.copy_from_slice.ensures.after (omega arith)
