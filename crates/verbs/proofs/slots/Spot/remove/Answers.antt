use Rattle.verbs.proofs.slots.Images.{remove_image}
use Rattle.verbs.proofs.slots.Spot.remove.Goals as goal

pub returns : goal.returns
returns c =
    remove_image c.requires _ c.read-record.ensures c.wrapping_neg.ensures c.remove_value.ensures c.remove_record.ensures
