use Rattle.std.proofs.Common.{◌≡◌, ◌*◌, ◌%◌, ◌^◌, ◌≤◌, arith}
use Rattle.std.proofs.Math.Pow.{pow_mono}
use Rattle.std.proofs.lemmas.Nat.{and_mask}
use Rattle.wire.proofs.completions.bits.Goals as goal

pub returns : goal.returns
returns g c =
    let few : 2 ^ g.row.WIDTH ≤ 2 ^ 8 = pow_mono c.requires.1 in
    let mask : 1 * 2 ^ g.row.WIDTH % 65536 ≡ 2 ^ g.row.WIDTH = omega (arith, few) in
    rw mask (and_mask _ _)
