use mathlib.Core.List.{[], ◌∷◌}
use native.Mathlib.Omega.{arith}
use Rattle.octets.specs.Octets.{bytes}
use Rattle.octets.proofs.PartLaws.{puts_joined}
use Rattle.wire.proofs.entries.write_front.Goals as goal

pub returns : goal.returns
returns c =
    let a = c.args in
    let vs = (a.c.fused ∷ []) ∷ bytes 2 a.c.cid ∷ bytes 4 a.c.nsid ∷ [] in
    rw (c.write32.ensures, c.write16.ensures, c.write8-2.ensures, c.write8.ensures)
    (puts_joined 0 (a.c.opcode ∷ []) vs a.entry.now (omega arith))
