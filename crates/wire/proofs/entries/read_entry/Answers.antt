use mathlib.Core.Path.{◌∙◌}
use Rattle.octets.specs.Octets.{part}
use Rattle.octets.proofs.PartLaws.{put_on}
use Rattle.wire.specs.Entry.{read_command}
use Rattle.wire.proofs.EntryLaws.{key_puts}
use Rattle.wire.proofs.entries.read_entry.Goals as goal

pub returns : goal.returns
unfolding part read_command
returns c =
    let k = put_on _ _ c.copy_at.ensures c.copy_at-2.ensures ∙ key_puts c.args.entry.now c.told-entry in
    rw (c.read32-2.ensures, c.read32.ensures, c.read16.ensures, k)
