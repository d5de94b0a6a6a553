use mathlib.Core.Path.{◌∙◌}
use Rattle.octets.specs.Octets.{part}
use Rattle.quick.proofs.KnownLaws.{known_found}
use Rattle.quick.proofs.looks.find.Goals as goal

pub returns : goal.returns
unfolding part
returns c =
    c.search.ensures
    ∙ known_found _ _ _ c.if-n.false c.in_ok-span.ensures c.widen_key.ensures (λ j l. (c.type_inv.key j).fits)
    (λ j l. (c.type_inv.directory j).fits)
