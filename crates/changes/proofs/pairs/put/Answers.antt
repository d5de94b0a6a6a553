use Rattle.changes.proofs.pairs.Pairs.{replaced_image, inserted_image}
use Rattle.changes.proofs.pairs.put.Goals as goal

pub returns-then-f : goal.returns-then-f
returns-then-f c =
    replaced_image c.requires c.if-f.true c.used_without.ensures c.from.ensures c.from-len.ensures c.replace.ensures c.write_counts.ensures

pub returns : goal.returns
returns c =
    inserted_image c.requires c.if-f.false c.used_without.ensures c.from.ensures c.from-len.ensures c.insert.ensures c.write_counts-2.ensures
