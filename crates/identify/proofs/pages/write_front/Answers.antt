use native.Mathlib.Omega.{arith}
use Rattle.identify.proofs.pages.Writes.{front_written}
use Rattle.identify.proofs.pages.write_front.Goals as goal

pub returns : goal.returns
returns c =
    front_written c.args.d.size c.args.d.used c.args.d.index c.args.page.now (omega arith) (omega arith)
    c.clear.ensures c.write32.ensures c.write32-2.ensures c.write8.ensures c.write8-2.ensures
