-- Memory calls one after the other, what their caller sees of them, and what they put where (request [8]). Assumes nothing.
use Rattle.std.specs.Prelude.{Bool, true, false, cond, ◌&&◌, List, [], ◌∷◌, ℕ, ◌+◌, ◌-◌, ◌%◌, leb, ltb, eqb, get_or}
use Rattle.octets.specs.Octets.{bytes}
use Rattle.wire.specs.Completion.{read_completion, Post}
use Rattle.ranges.specs.declared.requests.Request.{Request}
use Rattle.ranges.specs.Request.{read_request}
use Rattle.scratch.specs.Calls.{Task, reading, writing, filling, slices, Ended, memory_call}

-- what the caller gives
pub record Call : Type 0 where
  pub task : Task
  pub post : Post
  pub id : ℕ
  pub entry : List ℕ
  pub completion : List ℕ
  pub buffer : List ℕ

abbrev pub asked : Call → Request
asked c = read_request c.entry

-- what is made of a call on a memory
abbrev pub Device : Type 0
Device = Call → List ℕ → Ended

abbrev pub ours : Device
ours c m = memory_call c.task c.post c.id c.entry (slices c.completion c.buffer m)

-- ---- on one memory, that was lent as m

abbrev pub memory_after : Device → List ℕ → List Call → List ℕ
memory_after d m [] = m
memory_after d m (c ∷ cs) = memory_after d (d c m).after.memory cs

-- a call with what its caller sees of it
pub record Told : Type 0 where
  pub call : Call
  pub number : ℕ
  pub completion : List ℕ

abbrev pub told : Call → Ended → Told
told c o = record { call = c; number = o.number; completion = o.after.completion }

abbrev pub log : Device → List ℕ → List Call → List Told
log d m [] = []
log d m (c ∷ cs) = told c (d c m) ∷ log d (d c m).after.memory cs

-- number 0, and 00h in the completion
abbrev pub done : Told → Bool
done t = eqb t.number 0 && eqb (read_completion t.completion).status 0

-- ---- what calls put where

abbrev pub writes : Task → Bool
writes reading = false
writes writing = true
writes (filling w) = true

-- the k-th byte of the range, with b for data buffer
abbrev pub given : Task → List ℕ → ℕ → ℕ
given reading b k = 0
given writing b k = get_or b k 0
given (filling w) b k = get_or (bytes 4 w) (k % 4) 0

-- whether byte i of the memory lies in the range that a call writes
abbrev pub covers : ℕ → Call → Bool
covers i c = writes c.task && (leb (asked c).start i && ltb i ((asked c).start + (asked c).len))

-- byte i of a memory that had x there: as the last call that was done and covers it put it
abbrev pub last_put : ℕ → ℕ → List Told → ℕ
last_put i x [] = x
last_put i x (t ∷ ts) =
    let c = t.call in
    last_put i (cond (done t && covers i c) (given c.task c.buffer (i - (asked c).start)) x) ts
