use native.Mathlib.Nat.{add-zero}
use native.Mathlib.Omega.{arith}
use Rattle.keys.specs.Keys.{wide_of}
use Rattle.octets.proofs.PartLaws.{part_inside}
use Rattle.keys.proofs.orders.widen.Goals as goal

pub returns : goal.returns
unfolding wide_of
returns c =
    let a = c.before.before.before.args in
    let high = part_inside a.at 16 0 8 a.s.now (omega arith) in
    let low = part_inside a.at 16 8 8 a.s.now (omega arith) in
    rw (rw add-zero at high, low, c.before.read_big.ensures, c.read_big-2.ensures)
