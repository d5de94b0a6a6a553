use mathlib.Core.Path.{◌≡◌}
use native.Mathlib.Omega.{arith}
use Rattle.wire.specs.Completion.{phase_in, read_completion}
use Rattle.wire.proofs.completions.read_completion.Goals as goal

pub returns : goal.returns
unfolding read_completion
returns c =
    let phase : c.bits.result ≡ phase_in c.read16-word.result = omega arith in
    rw (c.bits-3.ensures, c.bits-2.ensures, phase, c.read16-3.ensures)
    (rw (c.read16-2.ensures, c.read16.ensures, c.read32.ensures, c.read16-word.ensures))
