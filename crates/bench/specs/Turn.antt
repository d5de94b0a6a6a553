-- One entry of the bench program: its data buffer, the command, and what is printed of it. Assumes nothing.
use Rattle.std.specs.Prelude.{Bool, cond, ◌&&◌, ◌||◌, List, [], ◌++◌, ℕ, ◌+◌, ◌%◌, min, eqb, length, take}
use Rattle.octets.specs.Octets.{put, zeros}
use Rattle.wire.specs.declared.entries.Command.{Command}
use Rattle.wire.specs.Entry.{is_store, is_retrieve, is_list, read_command}
use Rattle.wire.specs.Completion.{read_completion, post}
use Rattle.commands.specs.Command.{lent, serve}
use Rattle.bench.specs.Text.{line}
use Rattle.bench.specs.Span.{page_span}

-- the queue head for the entry that n others came before
abbrev pub head_after : ℕ → ℕ
head_after n = (n + 1) % 65536

-- the length of the data buffer: a Store's value, at most 4096; 4096 for Retrieve and List
unfoldable pub room_of : Command → ℕ
room_of c = cond (is_store c.opcode) (min c.amount 4096) (cond (is_retrieve c.opcode || is_list c.opcode) 4096 0)

-- a successful Retrieve or List hands bytes over
abbrev pub gives : ℕ → ℕ → Bool
gives op status = (is_retrieve op || is_list op) && eqb status 0

-- how many, of a data buffer b: the page, or as much of the value, whose length Dword 0 gives, as the host buffer has room for
unfoldable pub given_of : Command → ℕ → List ℕ → ℕ
given_of c dword0 b = cond (is_list c.opcode) (page_span b) (min (min c.amount dword0) (length b))

-- the completion as a line, and the bytes handed over likewise
unfoldable pub printed : Command → List ℕ → List ℕ → List ℕ
printed c k b =
    let r = read_completion k in
    line k ++ cond (gives c.opcode r.status) (line (take (given_of c r.dword0 b) b)) []

pub record Turned : Type 0 where
  pub count : ℕ
  pub text : List ℕ
  pub buffer : List ℕ
  pub directory : List ℕ
  pub values : List ℕ

abbrev pub turned : ℕ → List ℕ → List ℕ → List ℕ → List ℕ → Turned
turned n t b d v = record { count = n; text = t; buffer = b; directory = d; values = v }

-- the entry's command is run, with queue 1 and phase 1, and its text stands at the beginning of t
unfoldable pub turn_of : ℕ → List ℕ → List ℕ → List ℕ → List ℕ → List ℕ → Turned
turn_of head e t b d v =
    let c = read_command e in
    let l = serve (post head 1 1) c (lent (zeros 16) b d v) in
    let p = printed c l.completion l.buffer in
    turned (length p) (put 0 p t) l.buffer l.memory.directory l.memory.values
