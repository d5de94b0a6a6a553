use mathlib.Core.Path.{◌≡◌}
use Rattle.octets.specs.Octets.{put, bytes}
use Rattle.scratch.specs.Calls.{over}
use Rattle.scratch.proofs.moves.fill_words.Given as goal

abbrev pub invariant-loop-i : goal.invariant-loop-i
invariant-loop-i l = l.memory ≡ put l.at (over l.i (bytes 4 l.word)) l.initial.memory
