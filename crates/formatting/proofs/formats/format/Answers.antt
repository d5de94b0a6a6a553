use mathlib.Core.Path.{◌≡◌, ◌∙◌}
use Rattle.std.proofs.Common.{rules}
use Rattle.memory.specs.Memory.{memory}
use Rattle.formatting.proofs.formats.Done.{done, behind, image_is}
use Rattle.formatting.proofs.formats.format.Goals as goal

pub returns : goal.returns
returns c =
    let a = c.args in
    let m = memory a.directory.now a.values.now in
    let label : c.map_or_else-behind.result ≡ behind a.second = search rules in
    done _ m c.in_ok-reach.ensures.number
    (c.write_blank.ensures ∙ rw (c.label.ensures, label) (image_is a.first a.second m c.in_ok-reach.ensures.reach))
