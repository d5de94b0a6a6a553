use native.Mathlib.Omega.{arith}
use lib.ListN.{length-set}
use borrow.Author.Rules.{rules}
use Rattle.bench.proofs.texts.Line.{written_none, written_more, written_done}
use Rattle.bench.proofs.texts.write_line.Goals as goal

pub loop-i-init : goal.loop-i-init
loop-i-init c = written_none (omega arith)

pub loop-i-preserved : goal.loop-i-preserved
loop-i-preserved c = search (rules, written_more)

pub shape_of-text : goal.shape_of-text
shape_of-text c = rw length-set c.loop-i.invariant.within.2

pub returns : goal.returns
returns c = written_done c.loop-i.invariant (omega arith)
