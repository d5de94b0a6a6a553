use mathlib.Core.Path.{◌≡◌}
use Prim.Native.Nat.{◌*◌}
use Rattle.octets.specs.Octets.{put, bytes}
use Rattle.scratch.specs.Calls.{over}
use Rattle.scratch.proofs.moves.fill_long.Given as goal

abbrev pub invariant-loop-i : goal.invariant-loop-i
invariant-loop-i l = l.memory ≡ put l.at (over (64 * l.i) (bytes 4 l.word)) l.initial.memory
