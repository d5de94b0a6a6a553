use mathlib.Core.List.{[], ◌∷◌}
use native.Mathlib.Omega.{arith}
use Rattle.octets.specs.Octets.{bytes, zeros}
use Rattle.octets.proofs.PartLaws.{puts_whole}
use Rattle.wire.specs.Completion.{word, write_completion}
use Rattle.wire.proofs.completions.write_completion.Goals as goal

pub returns : goal.returns
unfolding write_completion
returns c =
    let a = c.args in
    let vs = zeros 4 ∷ bytes 2 a.c.head ∷ bytes 2 a.c.queue ∷ bytes 2 a.c.cid ∷ bytes 2 (word a.c) ∷ [] in
    rw (c.write16-4.ensures, c.pack-word.ensures, c.write16-3.ensures, c.write16-2.ensures)
    (rw (c.write16.ensures, c.write32-2.ensures, c.write32.ensures)
    (puts_whole (bytes 4 a.c.dword0) vs a.completion.now (omega arith)))
