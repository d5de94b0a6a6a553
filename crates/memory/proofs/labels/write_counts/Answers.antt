use native.Mathlib.Omega.{arith}
use Rattle.octets.proofs.PartLaws.{put_then}
use Rattle.memory.proofs.labels.write_counts.Goals as goal

pub returns : goal.returns
returns c =
    put_then _ _ _ _ _ _ _ c.write32-2.ensures c.write32.ensures (omega arith) (omega arith)
