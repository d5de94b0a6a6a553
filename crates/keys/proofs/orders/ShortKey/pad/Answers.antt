use mathlib.Core.Path.{◌∙◌}
use Rattle.octets.proofs.ZeroLaws.{put_zeros}
use Rattle.keys.proofs.orders.ShortKey.pad.Goals as goal

pub returns : goal.returns
returns c = c.before.copy_at.ensures ∙ put_zeros 16 _
