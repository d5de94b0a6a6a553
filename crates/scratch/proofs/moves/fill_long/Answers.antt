use mathlib.Core.Path.{sym}
use Prim.Native.Nat.{◌*◌, ◌%◌}
use native.Mathlib.Omega.{arith}
use Rattle.octets.specs.Octets.{bytes}
use Rattle.octets.proofs.PartLaws.{put_none}
use Rattle.scratch.proofs.MoveLaws.{over_more}
use Rattle.scratch.proofs.moves.fill_long.Goals as goal

pub loop-i-init : goal.loop-i-init
loop-i-init c = sym (put_none _ _)

pub loop-i-preserved : goal.loop-i-preserved
loop-i-preserved c =
    over_more _ _ (64 * c.loop-i.i) 64 _ (bytes 4 c.args.word) _ c.loop-i.invariant c.fill_words.ensures (omega arith) (omega arith) (omega arith)

pub returns : goal.returns
returns c =
    let n = c.args.n in
    over_more _ _ (64 * c.loop-i.i) (n % 64) _ (bytes 4 c.args.word) _ c.loop-i.invariant c.fill_words-2.ensures (omega arith) (omega arith) (omega arith)
