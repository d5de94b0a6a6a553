use mathlib.Core.List.{[], ◌∷◌}
use native.Mathlib.Omega.{arith}
use Rattle.octets.specs.Octets.{bytes, zeros}
use Rattle.octets.proofs.PartLaws.{puts_joined}
use Rattle.wire.proofs.entries.write_dwords.Goals as goal

pub returns : goal.returns
returns c =
    let a = c.args in
    let vs = (a.c.len ∷ []) ∷ (a.c.options ∷ []) ∷ zeros 10 ∷ [] in
    rw (c.clear.ensures, c.write8-2.ensures, c.write8.ensures, c.write32.ensures)
    (puts_joined 40 (bytes 4 a.c.amount) vs a.entry.now (omega arith))
