-- The formatting of two and the calls that the instances beside the theorems compute with. Assumes nothing.
use mathlib.Core.Path.{◌≡◌, refl}
use mathlib.Core.List.{List, [], ◌∷◌}
use Prim.Native.Nat.{ℕ}
use lib.ListN.{length, replicate}
use Rattle.octets.specs.Octets.{part, put, number, zeros, filled}
use Rattle.keys.specs.Keys.{Key}
use Rattle.wire.specs.Entry.{read_command, write_command}
use Rattle.wire.specs.Completion.{read_completion, write_completion, post}
use Rattle.sheets.specs.Page.{page_entry, page}
use Rattle.store.specs.Namespace.{within}
use Rattle.store.specs.Records.{record_of, records_part, values_part}
use Rattle.memory.specs.Namespaces.{all_within}
use Rattle.memory.specs.Memory.{memory, half_of, head_of, directory_of, values_of, label_in, namespace_at, namespaces_of, legal}
use Rattle.rules.specs.Steps.{steps, status_of}
use Rattle.formatting.specs.Formatting.{half, format_steps, format}
use Rattle.commands.specs.Answer.{answer}
use Rattle.commands.specs.Command.{respond, serve, command}
use Rattle.maps.specs.Describe.{describe}
use Rattle.room.specs.Room.{room}
use Rattle.module.specs.History.{Call}
use Rattle.farms.specs.Sides.{real, Ask, sends, Start, begun}
use Rattle.farms.specs.Hosts.{call_of}

-- to unfold it is to unfold all that an answer on the map computes with
unfoldable pub on_map : Unit {0}
unfolding read_command write_command read_completion part put number page_entry page answer status_of steps
on_map = tt

-- and this is all besides that memory does
unfoldable pub on_memory : Unit {0}
unfolding on_map format format_steps write_completion within record_of records_part values_part all_within half_of head_of directory_of values_of label_in
    namespace_at namespaces_of legal respond serve command describe room
on_memory = tt

-- ids 1 and 2, both of format 15, with these sizes; bytes that are all 7, one more in each slice than is needed
abbrev pub start : ℕ → ℕ → Start
start x y = record { first = half 15 1 x; second = half 15 2 y; lent = memory (replicate 1089 7) (replicate 129 7) }

pub start_begun : (begun real (start 64 64)).number ≡ 0
unfolding format format_steps
start_begun = refl

abbrev pub A : Key
A = 0x41 ∷ []

-- opcode op, namespace id n, key k, x in Dword 10
abbrev pub entry : ℕ → ℕ → Key → ℕ → List ℕ
entry op n k x = write_command (record { opcode = op; fused = 0; cid = 0; nsid = n; key = filled 16 k; len = length k; options = 0; amount = x })

-- with a data buffer as long as Dword 10 says
abbrev pub ask : ℕ → ℕ → Key → List ℕ → Ask
ask op n k b = sends (entry op n k (length b)) (zeros 16) b

abbrev pub call : ℕ → ℕ → Key → List ℕ → Call
call op n k b = call_of (post 0 0 0) (ask op n k b)
