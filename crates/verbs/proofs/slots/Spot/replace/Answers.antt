use Rattle.verbs.proofs.slots.Images.{replace_can, replace_image}
use Rattle.verbs.proofs.slots.Spot.replace.Goals as goal

pub insert-requires : goal.insert-requires
insert-requires c =
    replace_can c.requires c.remove.ensures _ c.read-len.ensures

pub returns : goal.returns
returns c =
    replace_image c.requires c.remove.ensures _ c.insert.ensures
