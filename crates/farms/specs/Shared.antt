-- A device that is to be told from the module: where one farm's store is full, a Store of the other is answered 81h. Assumes nothing.
use Rattle.std.specs.Prelude.{Bool, false, cond, not, ◌&&◌, ◌||◌, List, [], ◌∷◌, ℕ, length, leb, eqb}
use Rattle.wire.specs.Entry.{read_command, is_store}
use Rattle.store.specs.Maps.{used}
use Rattle.store.specs.Namespace.{Namespace}
use Rattle.memory.specs.Namespaces.{slots_of}
use Rattle.memory.specs.Memory.{Memory, namespaces_of}
use Rattle.commands.specs.Command.{completion_of, Outcome, outcome}
use Rattle.module.specs.History.{ask, Call, formatting, commanding, asking, lend, run, succeeded}
use Rattle.farms.specs.Sides.{Device}

-- no slot left, or no room
abbrev pub full : Namespace → Bool
full s = leb (slots_of s) (length s.pairs) || eqb (used s.pairs) s.size

-- one that n does not name is full
abbrev pub crowded : ℕ → List Namespace → Bool
crowded n [] = false
crowded n (s ∷ ss) = not (eqb n s.id) && full s || crowded n ss

-- a Store that would succeed is refused there; all else is as in the module
abbrev pub crowding : Memory → Call → Outcome
crowding m (formatting l) = run m (formatting l)
crowding m (commanding p e c b) =
    let r = read_command e in
    let o = run m (commanding p e c b) in
    let refused = outcome 0 (lend (completion_of p r 0x81 0) b m) in
    cond (is_store r.opcode && succeeded o && crowded r.nsid (namespaces_of m)) refused o
crowding m (asking q) = run m (asking q)

abbrev pub shared : Device
shared = record { does = crowding; tells = ask }
