use mathlib.Core.Path.{refl}
use Rattle.quick.proofs.TagLaws.{last_shifted}
use Rattle.quick.proofs.tags.read_last.Goals as goal

pub returns : goal.returns
returns c = last_shifted _ _ c.requires.long c.requires.few (λ j l. (c.type_inv.s j).fits) c.read_big.ensures refl
