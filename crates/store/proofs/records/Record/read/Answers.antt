use Rattle.std.proofs.Common.{add-zero}
use Rattle.octets.proofs.PartLaws.{part_drop}
use Rattle.store.proofs.records.Record.read.Goals as goal

pub returns : goal.returns
returns c = simp (part_drop, add-zero) cc
