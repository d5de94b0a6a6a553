use mathlib.Core.Path.{◌∙◌}
use Rattle.octets.proofs.PartLaws.{part_whole}
use Rattle.octets.proofs.NumberLaws.{array_bytes}
use Rattle.keys.proofs.ClearLaws.{clear_wide_law}
use Rattle.keys.proofs.orders.ends_clear.Goals as goal

pub returns : goal.returns
returns c =
    let s = c in
    let g = s.well_formed.0 in
    let l = g.1.0.1 in
    rw (c.before.widen.ensures, part_whole 16 s.args.key l, c.from.ensures) at c.is_clear.ensures
    ∙ clear_wide_law s.args.len s.args.key (array_bytes s.args.key g.0 g.1.1) l
