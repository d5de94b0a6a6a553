-- One command between bytes: numbers 1 and 2, the entry read, steps a to j, the effect, the completion written. Assumes nothing.
use Rattle.std.specs.Prelude.{cond, List, [], ◌∷◌, ℕ, ◌%◌, eqb}
use Rattle.octets.specs.Tests.{first_of}
use Rattle.wire.specs.declared.entries.Command.{Command}
use Rattle.wire.specs.Entry.{read_command, not_entry}
use Rattle.wire.specs.Completion.{write_completion, not_completion, Post}
use Rattle.memory.specs.Namespaces.{at, with}
use Rattle.memory.specs.Memory.{Memory, memory, image_over, namespaces_of, legal}
use Rattle.commands.specs.Answer.{answer}

abbrev pub completion_of : Post → Command → ℕ → ℕ → List ℕ
completion_of p c status dword0 =
    write_completion (record { dword0 = dword0; head = p.head; queue = p.queue; cid = c.cid; phase = p.phase % 2; status = status; kind = 0 })

-- the lent slices
pub record Lent : Type 0 where
  pub completion : List ℕ
  pub buffer : List ℕ
  pub memory : Memory

abbrev pub lent : List ℕ → List ℕ → List ℕ → List ℕ → Lent
lent c b d v = record { completion = c; buffer = b; memory = memory d v }

-- an answer in bytes: the memory in the place of the pairs
pub record Response : Type 0 where
  pub status : ℕ
  pub dword0 : ℕ
  pub buffer : List ℕ
  pub memory : Memory

abbrev pub response : ℕ → ℕ → List ℕ → List ℕ → List ℕ → Response
response st n b d v = record { status = st; dword0 = n; buffer = b; memory = memory d v }

-- on the namespace that the command names; the store's memory is written only where the status is 00h
unfoldable pub respond : Command → List ℕ → Memory → Response
respond c b m =
    let ss = namespaces_of m in
    let a = answer (legal m) (at c.nsid ss) c b in
    record {
      status = a.status;
      dword0 = a.dword0;
      buffer = a.buffer;
      memory = cond (eqb a.status 0) (image_over (with c.nsid a.pairs ss) m) m;
    }

unfoldable pub serve : Post → Command → Lent → Lent
serve p c l =
    let r = respond c l.buffer l.memory in
    record { completion = completion_of p c r.status r.dword0; buffer = r.buffer; memory = r.memory }

pub record Outcome : Type 0 where
  pub number : ℕ
  pub after : Lent

abbrev pub outcome : ℕ → Lent → Outcome
outcome n l = record { number = n; after = l }

-- numbers 1 and 2 write nothing at all
unfoldable pub command : Post → List ℕ → Lent → Outcome
command p e l =
    let k = first_of (not_entry e ∷ not_completion l.completion ∷ []) in
    record { number = k; after = cond (eqb k 0) (serve p (read_command e) l) l }
