use lib.Bits.{bit_or}
use Rattle.std.proofs.Common.{rules}
use Rattle.std.proofs.lemmas.Iterator.{YieldsList-from_slice}
use Rattle.std.proofs.lemmas.Iterator.Consumers.{fold_from_yields_List}
use Rattle.octets.proofs.ZeroLaws.{zero_joined}
use Rattle.octets.proofs.runs.zero_run.Goals as goal

pub returns : goal.returns
returns c =
    let yields = YieldsList-from_slice c.args.s.now c.iter.ensures.rest in
    let e = fold_from_yields_List _ bit_or _ c.fold.result c.fold.ensures.ran yields (λ a x b q k. search rules) in
    rw e (zero_joined 0 c.args.s.now)
