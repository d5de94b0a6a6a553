use Rattle.bench.proofs.texts.Line.{Written}
use Rattle.bench.proofs.texts.write_line.Given as goal

abbrev pub invariant-loop-i : goal.invariant-loop-i
invariant-loop-i l = Written l.at l.bytes l.initial.text l.i l.text
