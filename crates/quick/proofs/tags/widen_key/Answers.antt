use Rattle.quick.proofs.TagLaws.{padded_wide, eight_wide, last_wide}
use Rattle.quick.proofs.tags.widen_key.Goals as goal

pub returns-then-n-lt8 : goal.returns-then-n-lt8
returns-then-n-lt8 c =
    padded_wide c.args.key.bytes.now c.args.key.short c.pad-sixteen.ensures c.widen.ensures

pub returns-then-n-eq8 : goal.returns-then-n-eq8
returns-then-n-eq8 c =
    eight_wide _ c.args.key.short c.if-n-lt8.false c.read_big-high.ensures c.if-n-eq8.true

pub returns : goal.returns
returns c =
    last_wide _ c.args.key.short c.if-n-lt8.false c.read_big-high.ensures c.read_last.ensures
