use mathlib.Core.Path.{refl}
use native.Mathlib.Omega.{arith}
use borrow.Author.Rules.{rules}
use Rattle.keys.proofs.orders.compare.Invariants.{agree_longer, agree_shorter, agree_same, agree_less, agree_greater, agree_more}
use Rattle.keys.proofs.orders.compare.Goals as goal

pub loop-i-init : goal.loop-i-init
loop-i-init c = record { in_a = omega arith; in_b = omega arith; is = refl }

pub returns-then-b-i : goal.returns-then-b-i
returns-then-b-i c = search agree_longer

pub returns-then-a-i : goal.returns-then-a-i
returns-then-a-i c = search (rules, agree_less)

pub returns-then-b-i-2 : goal.returns-then-b-i-2
returns-then-b-i-2 c = search (rules, agree_greater)

pub loop-i-preserved : goal.loop-i-preserved
loop-i-preserved c = search (rules, agree_more)

pub returns-then-a-b : goal.returns-then-a-b
returns-then-a-b c = agree_shorter c.loop-i.invariant (omega arith) (omega arith)

pub returns-else-a-b : goal.returns-else-a-b
returns-else-a-b c = agree_same c.loop-i.invariant (omega arith) (omega arith)
