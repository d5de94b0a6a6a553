use native.Mathlib.Omega.{arith}
use Rattle.keys.specs.Keys.{big}
use Rattle.octets.proofs.PartLaws.{part_each}
use Rattle.keys.proofs.wide.read_big.Goals as goal

pub returns : goal.returns
unfolding big
returns c =
    let e = part_each 8 _ _ c.requires in
    rw e (omega (arith, rw (c.bytes_at.ensures, e) at c.from_be_bytes.ensures))
