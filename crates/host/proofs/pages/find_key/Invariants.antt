use Rattle.host.proofs.pages.Loop.{Passed}
use Rattle.host.proofs.pages.find_key.Given as goal

abbrev pub invariant-loop-i : goal.invariant-loop-i
invariant-loop-i l = Passed l.page l.ordinal l.count l.i l.rest l.last l.asked
