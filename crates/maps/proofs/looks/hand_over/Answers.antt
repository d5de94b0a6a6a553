use Rattle.maps.proofs.looks.Handed.{can_copy, handed}
use Rattle.maps.proofs.looks.hand_over.Goals as goal

pub copy_value-requires : goal.copy_value-requires
copy_value-requires c = can_copy c.requires

pub returns : goal.returns
returns c =
    handed c.requires c.copy_value.ensures
