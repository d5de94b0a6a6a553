use native.Mathlib.Omega.{arith}
use Rattle.quick.proofs.ClaimLaws.{claimed, claims_small}
use Rattle.quick.proofs.heads.find_run.Goals as goal

pub overflow_add-end : goal.overflow_add-end
overflow_add-end c = omega (arith, (claims_small _ _ c.in_ok-a.ensures c.in_ok-b.ensures).0)

pub overflow_mul-end : goal.overflow_mul-end
overflow_mul-end c = omega (arith, (claims_small _ _ c.in_ok-a.ensures c.in_ok-b.ensures).0)

pub overflow_add-end-2 : goal.overflow_add-end-2
overflow_add-end-2 c = omega (arith, (claims_small _ _ c.in_ok-a.ensures c.in_ok-b.ensures).0)

pub overflow_add-stop : goal.overflow_add-stop
overflow_add-stop c = omega (arith, (claims_small _ _ c.in_ok-a.ensures c.in_ok-b.ensures).1)

pub choose-requires : goal.choose-requires
choose-requires c = (claimed _ c.in_ok-a.ensures).slots
