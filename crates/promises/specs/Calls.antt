-- A call that stores a key with success. Assumes nothing.
use Rattle.std.specs.Prelude.{Bool, false, ◌&&◌, ℕ, eqb}
use Rattle.octets.specs.Octets.{same}
use Rattle.keys.specs.Keys.{Key}
use Rattle.wire.specs.Entry.{read_command, key_of, is_store}
use Rattle.commands.specs.Command.{Outcome}
use Rattle.module.specs.History.{Call, formatting, commanding, asking, succeeded}

-- in the namespace n
abbrev pub stores : ℕ → Key → Call → Outcome → Bool
stores n k (formatting l) o = false
stores n k (commanding p e c b) o = succeeded o && is_store (read_command e).opcode && eqb (read_command e).nsid n && same (key_of (read_command e)) k
stores n k (asking q) o = false
