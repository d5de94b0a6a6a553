-- The small stores and calls that the instances beside the theorems compute with. Assumes nothing.
use mathlib.Core.Path.{◌≡◌, refl}
use mathlib.Core.List.{List, [], ◌∷◌, ◌++◌}
use Prim.Native.Nat.{ℕ}
use lib.ListN.{length, replicate}
use Rattle.octets.specs.Octets.{part, put, number, zeros, filled}
use Rattle.keys.specs.Keys.{Key}
use Rattle.wire.specs.Entry.{read_command, write_command}
use Rattle.wire.specs.Completion.{read_completion, write_completion, post}
use Rattle.sheets.specs.Page.{page_entry, page, entry_steps, first_entry, read_page}
use Rattle.store.specs.Namespace.{within}
use Rattle.store.specs.Records.{record_of, records_part, values_part}
use Rattle.memory.specs.Namespaces.{all_within}
use Rattle.memory.specs.Memory.{half_of, label_in, head_of, directory_of, values_of, namespace_at, namespaces_of, legal, memory}
use Rattle.rules.specs.Steps.{steps, status_of}
use Rattle.commands.specs.Answer.{answer}
use Rattle.formatting.specs.Formatting.{half, format_steps, format}
use Rattle.commands.specs.Command.{respond, serve, command}
use Rattle.module.specs.History.{one, two, polling, Call, formatting, commanding, asking}
use Rattle.promises.specs.Histories.{Start, begun}
use Rattle.promises.specs.Requests.{Request, call, refusal}

-- to unfold the one or the other is to unfold all that an instance computes with: what is answered on a map, with its page or
-- without; and memory besides
unfoldable pub on_map : Unit {0}
unfolding read_command write_command part put number page_entry page entry_steps first_entry read_page answer status_of steps
on_map = tt

unfoldable pub on_memory : Unit {0}
unfolding on_map format format_steps read_completion write_completion within all_within record_of records_part values_part half_of label_in head_of
    directory_of values_of namespace_at namespaces_of legal respond serve command refusal
on_memory = tt

-- format 15, id 1, size 64, on bytes that are all b, one more in each slice than is needed
abbrev pub start : ℕ → Start
start b = record { layout = one (half 15 1 64); lent = memory (replicate 577 b) (replicate 65 b) }

pub start_begun : (b : ℕ) → (begun (start b)).number ≡ 0
unfolding format format_steps
start_begun b = refl

-- two namespaces like it, with ids 1 and 2
abbrev pub start_two : ℕ → Start
start_two b = record { layout = two (half 15 1 64) (half 15 2 64); lent = memory (replicate 1089 b) (replicate 129 b) }

pub two_begun : (b : ℕ) → (begun (start_two b)).number ≡ 0
unfolding format format_steps
two_begun b = refl

-- namespace id, opcode op, key k, n in Dword 10
abbrev pub request_to : ℕ → ℕ → Key → ℕ → List ℕ → Request
request_to id op k n b =
    record {
      post = post 0 0 0;
      entry = write_command (record { opcode = op; fused = 0; cid = 0; nsid = id; key = filled 16 k; len = length k; options = 0; amount = n });
      completion = zeros 16;
      buffer = b;
    }

abbrev pub request : ℕ → Key → ℕ → List ℕ → Request
request = request_to 1

abbrev pub A : Key
A = 0x41 ∷ []

abbrev pub B : Key
B = 0x42 ∷ []

-- sixteen bytes, the last of them n
abbrev pub key : ℕ → Key
key n = replicate 15 0 ++ n ∷ []

abbrev pub store : Key → List ℕ → Request
store k v = request 0x01 k (length v) v

-- of the second namespace
abbrev pub store_two : Key → List ℕ → Request
store_two k v = request_to 2 0x01 k (length v) v

abbrev pub exist : Key → Request
exist k = request 0x14 k 0 []

-- a List from k, with room for two entries of the longest keys
abbrev pub list : Key → Request
list k = request 0x06 k 44 (replicate 50 0xff)

-- refused: by number 1, by number 3, and a Store by step j; and a poll
abbrev pub vain : List Call
vain = commanding (post 0 0 0) [] [] [] ∷ formatting (one (half 16 1 64)) ∷ asking (polling 1) ∷ call (store B (replicate 64 0)) ∷ []
