use Rattle.octets.proofs.PartLaws.{moved_up}
use Rattle.verbs.proofs.slots.insert_value.Goals as goal

pub returns : goal.returns
returns c = search moved_up
