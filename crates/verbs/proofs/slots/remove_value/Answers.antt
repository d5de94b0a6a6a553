use Rattle.std.proofs.Common.{rules}
use Rattle.octets.proofs.PartLaws.{moved_down}
use Rattle.verbs.proofs.slots.remove_value.Goals as goal

pub returns : goal.returns
returns c = search (rules, moved_down)
