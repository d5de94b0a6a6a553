use mathlib.Core.Path.{◌≡◌}
use lib.ListN.{length}
use Rattle.octets.specs.Octets.{part}
use Rattle.wire.proofs.EntryLaws.{entry_puts}
use Rattle.wire.proofs.entries.write_entry.Goals as goal

pub returns : goal.returns
unfolding part
returns c =
    -- an array within a struct has its length
    let sixteen : length c.args.c.key ≡ 16 = c.well_formed.1.0.1.1.1.1.1.1.0.1.0.1 in
    rw (c.copy_at-2.ensures, c.write_dwords.ensures, c.clear.ensures, c.copy_at.ensures, c.write_front.ensures)
    (entry_puts c.args.c sixteen c.args.entry.now c.told-entry)
