use mathlib.Core.Path.{◌∙◌}
use native.Mathlib.Omega.{arith}
use Rattle.std.specs.Int.{w32}
use Rattle.octets.proofs.NumberLaws.{number_le}
use Rattle.octets.proofs.words.read32.Goals as goal

pub returns : goal.returns
returns c = c.from_le_bytes.ensures ∙ rw c.bytes_at.ensures (number_le w32 _ _ (omega arith) c.requires)
