-- A device that is to be told from the module: behind the needed part of the directory it leaves the key that it changed last.
-- Assumes nothing.
use Rattle.std.specs.Prelude.{cond}
use Rattle.octets.specs.Octets.{put}
use Rattle.keys.specs.Keys.{Key}
use Rattle.wire.specs.Entry.{read_command, key_of}
use Rattle.memory.specs.Memory.{Memory, memory, needed, namespaces_of}
use Rattle.commands.specs.Command.{Outcome, outcome}
use Rattle.module.specs.History.{ask, Call, formatting, commanding, asking, lend, run, succeeded}
use Rattle.farms.specs.Sides.{Device}

abbrev pub marked : Key → Memory → Memory
marked k m = memory (put (needed (namespaces_of m)) k m.directory) m.values

abbrev pub marking : Memory → Call → Outcome
marking m (formatting l) = run m (formatting l)
marking m (commanding p e c b) =
    let o = run m (commanding p e c b) in
    let a = o.after in
    cond (succeeded o) (outcome 0 (lend a.completion a.buffer (marked (key_of (read_command e)) a.memory))) o
marking m (asking q) = run m (asking q)

abbrev pub marks : Device
marks = record { does = marking; tells = ask }
