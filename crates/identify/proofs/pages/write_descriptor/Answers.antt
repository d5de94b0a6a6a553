use Rattle.identify.specs.Identify.{limits_of}
use Rattle.identify.proofs.pages.Writes.{descriptor_written}
use Rattle.identify.proofs.pages.write_descriptor.Goals as goal

pub returns : goal.returns
returns c =
    let k = rw c.from.ensures at c.write16.ensures in
    descriptor_written (limits_of c.args.f) c.args.at c.args.page.now c.requires k c.write16-2.ensures
    c.write32.ensures c.write32-2.ensures c.write32-3.ensures
