use mathlib.Core.Path.{◌≡◌}
use Prim.Native.Nat.{◌+◌, ◌-◌}
use native.Mathlib.Omega.{arith}
use Rattle.octets.specs.Octets.{part, put}
use Rattle.octets.proofs.PartLaws.{length_part}
use Rattle.octets.proofs.runs.slide.Goals as goal

pub returns : goal.returns
unfolding part put
returns c =
    let a = c.args in
    let n : a.from + a.n - a.from ≡ a.n = omega arith in
    let l = length_part a.from a.n a.s.now (omega arith) in
    rw (c.copy_within.ensures.after, n, l)
