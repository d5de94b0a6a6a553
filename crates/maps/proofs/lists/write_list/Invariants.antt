use Rattle.maps.proofs.lists.Loop.{Listed}
use Rattle.maps.proofs.lists.write_list.Given as goal

abbrev pub invariant-loop-j : goal.invariant-loop-j
invariant-loop-j l = Listed l.count l.slot l.size l.records l.initial.buffer l.at l.j l.buffer
