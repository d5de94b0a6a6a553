use Rattle.maps.proofs.looks.Handed.{can_write, listed}
use Rattle.maps.proofs.looks.list_keys.Goals as goal

pub write_list-requires : goal.write_list-requires
write_list-requires c = can_write c.requires

pub returns : goal.returns
returns c =
    listed c.requires c.write_list.ensures
