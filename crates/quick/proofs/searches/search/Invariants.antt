use Rattle.quick.proofs.searches.Going.{met, Going}
use Rattle.quick.proofs.searches.search.Given as goal

abbrev pub invariant-loop-left : goal.invariant-loop-left
invariant-loop-left l = Going (met l.records l.wanted) l.first l.count l.low l.left l.looked

abbrev pub decreases-loop-left : goal.decreases-loop-left
decreases-loop-left l = l.left
