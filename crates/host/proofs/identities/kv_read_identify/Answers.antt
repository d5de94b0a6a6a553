use borrow.Author.Tests.{eq-eqb}
use Rattle.host.specs.Identity.{identity}
use Rattle.host.proofs.identities.Limits.{limits_or_zeros}
use Rattle.host.proofs.identities.kv_read_identify.Goals as goal

pub returns : goal.returns
unfolding identity
returns c =
    let e = c.in-Some.ensures.cases in
    let l = limits_or_zeros _ c.limits_at.ensures c.unwrap_or_default-limits.ensures in
    rw (eq-eqb _ _ e.long, ← e.same)
    (rw (c.read64-2.ensures, c.read64.ensures, c.index_in.ensures, c.formats_in.ensures, c.from-2.ensures, l))
