use native.Mathlib.Omega.{arith}
use Rattle.host.proofs.identities.Limits.{limits_none, limits_past, limits_read}
use Rattle.host.proofs.identities.limits_at.Goals as goal

pub returns-then-formats_in-ordinal : goal.returns-then-formats_in-ordinal
returns-then-formats_in-ordinal c = limits_none _ _ c.formats_in.ensures c.if-formats_in-ordinal.true

pub returns-in_err-descriptor : goal.returns-in_err-descriptor
returns-in_err-descriptor c =
    rw c.from_residual.ensures (limits_past _ _ c.formats_in.ensures (omega arith) (omega (arith, c.in_err-descriptor.ensures.lookup.0)))

pub returns : goal.returns
returns c =
    let d = c.in_ok-descriptor.ensures.lookup.0 in
    limits_read _ _ c.formats_in.ensures (omega arith) d.2 c.read16.ensures c.read32.ensures c.read32-2.ensures (omega arith)
