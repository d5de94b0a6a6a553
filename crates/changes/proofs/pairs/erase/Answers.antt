use Rattle.changes.proofs.pairs.Pairs.{erased_image}
use Rattle.changes.proofs.pairs.erase.Goals as goal

pub returns : goal.returns
returns c =
    erased_image c.requires c.used_without-used.ensures c.remove.ensures c.write_counts.ensures
