use Rattle.memory.specs.Memory.{label_in}
use Rattle.memory.proofs.labels.read_label.Goals as goal

pub returns : goal.returns
unfolding label_in
returns c =
    rw (c.read32-5.ensures, c.read32-4.ensures, c.read32-3.ensures, c.read32-2.ensures, c.read32.ensures)
