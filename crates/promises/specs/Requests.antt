-- A command that a host sends, what refuses it before step i, and what it is answered. Assumes nothing.
use Rattle.std.specs.Prelude.{◌≡◌, Bool, true, ◌&&◌, List, ◌∷◌, ℕ, ◌%◌, eqb, length}
use Rattle.keys.specs.Keys.{Key}
use Rattle.octets.specs.Tests.{first_of}
use Rattle.wire.specs.declared.entries.Command.{Command}
use Rattle.wire.specs.Entry.{read_command, key_of, is_store, not_entry}
use Rattle.wire.specs.Completion.{read_completion, not_completion, Post}
use Rattle.store.specs.Namespace.{Namespace}
use Rattle.rules.specs.declared.steps.View.{View}
use Rattle.rules.specs.declared.steps.Stock.{Stock}
use Rattle.rules.specs.Steps.{view_of, stock_of, steps_to_h, step_i}
use Rattle.commands.specs.Answer.{Answer}
use Rattle.memory.specs.Memory.{Memory}
use Rattle.commands.specs.Command.{Outcome}
use Rattle.module.specs.History.{Call, commanding, run}

pub record Request : Type 0 where
  pub post : Post
  pub entry : List ℕ
  pub completion : List ℕ
  pub buffer : List ℕ

abbrev pub call : Request → Call
call x = commanding x.post x.entry x.completion x.buffer

abbrev pub sends : Memory → Request → Outcome
sends m x = run m (call x)

abbrev pub asked : Request → Command
asked x = read_command x.entry

-- a Store that asks for its key to be held and to be absent
abbrev pub both_bits : Command → Bool
both_bits c = is_store c.opcode && eqb (c.options % 4) 3

-- what the steps look at where s is stored
abbrev pub view_at : Namespace → Request → View
view_at s x = view_of true s (length x.buffer)

abbrev pub stock_at : Namespace → Request → Stock
stock_at s x = stock_of s (key_of (asked x))

-- what numbers 1 and 2 and steps a to h say, 0 if none refuses; memory is legal after a formatting, so step a never does
unfoldable pub refusal : Namespace → Request → ℕ
refusal s x = first_of (not_entry x.entry ∷ not_completion x.completion ∷ steps_to_h (view_at s x) (asked x))

-- it names n, with opcode op and key k, and nothing before step i refuses it where n holds s
pub record Proper (n : ℕ) (s : Namespace) (op : ℕ) (k : Key) (x : Request) : Type 0 where
  pub nsid : (asked x).nsid ≡ n
  pub opcode : (asked x).opcode ≡ op
  pub key : key_of (asked x) ≡ k
  pub passes : refusal s x ≡ 0

-- and step i lets it pass as well
pub record PassesI (n : ℕ) (s : Namespace) (op : ℕ) (k : Key) (x : Request) : Type 0 where
  pub proper : Proper n s op k x
  pub keyed : first_of (step_i (stock_at s x) (asked x)) ≡ 0

-- number 0, and with it status, Dword 0 and the data buffer afterwards
pub record Gives (st n : ℕ) (b : List ℕ) (o : Outcome) : Type 0 where
  pub number : o.number ≡ 0
  pub status : (read_completion o.after.completion).status ≡ st
  pub dword0 : (read_completion o.after.completion).dword0 ≡ n
  pub buffer : o.after.buffer ≡ b

-- as a command on the map is answered
abbrev pub Answered : Answer → Outcome → Type 0
Answered a o = Gives a.status a.dword0 a.buffer o
