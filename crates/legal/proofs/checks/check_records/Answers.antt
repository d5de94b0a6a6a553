use Rattle.legal.proofs.checks.Turns.{over_more}
use Rattle.legal.proofs.checks.check_records.Goals as goal

pub loop-j-preserved : goal.loop-j-preserved
loop-j-preserved c = search over_more
