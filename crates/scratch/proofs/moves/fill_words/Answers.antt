use mathlib.Core.Path.{sym}
use native.Mathlib.Omega.{arith}
use Rattle.octets.specs.Octets.{bytes}
use Rattle.octets.proofs.PartLaws.{put_none}
use Rattle.scratch.proofs.MoveLaws.{over_more}
use Rattle.scratch.proofs.moves.fill_words.Goals as goal

pub loop-i-init : goal.loop-i-init
loop-i-init c = sym (put_none _ _)

pub loop-i-preserved : goal.loop-i-preserved
loop-i-preserved c =
    over_more _ _ c.loop-i.i 1 _ (bytes 4 c.args.word) _ c.loop-i.invariant c.write32.ensures (omega arith) (omega arith) (omega arith)
