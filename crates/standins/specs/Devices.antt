-- Devices of any making, and where a history on one stands after a formatting and calls. Assumes nothing.
use Rattle.std.specs.Prelude.{List, [], ◌∷◌}
use Rattle.store.specs.Namespace.{Namespace}
use Rattle.memory.specs.Memory.{Memory}
use Rattle.formatting.specs.Formatting.{blanks}
use Rattle.commands.specs.Command.{Outcome}
use Rattle.module.specs.History.{halves, Call, formatting, run, told}
use Rattle.promises.specs.Histories.{Start, System}

-- the outcome of a call on lent memory; a device may go by the calls before it too, the latest of them first
abbrev pub Device : Type 0
Device = List Call → Memory → Call → Outcome

-- the one that the contracts of `kv_format`, `kv_format_two`, `kv_command` and `kv_used` name
abbrev pub real : Device
real before m x = run m x

-- ---- a history

-- the calls so far, the latest of them first; the memory that the next is lent; what numbers and statuses tell to be stored
pub record Point : Type 0 where
  pub before : List Call
  pub memory : Memory
  pub stored : List Namespace

abbrev pub at : Device → Point → Call → Outcome
at d q x = d q.before q.memory x

abbrev pub moved : Device → Point → Call → Point
moved d q x =
    let o = at d q x in
    record { before = x ∷ q.before; memory = o.after.memory; stored = told q.stored x o }

abbrev pub goes : Device → Point → List Call → Point
goes d q [] = q
goes d q (x ∷ xs) = goes d (moved d q x) xs

abbrev pub on : Device → System Point
on d = record { does = at d; goes = goes d }

-- the formatting, and where it leads
abbrev pub opens : Device → Start → Outcome
opens d a = d [] a.lent (formatting a.layout)

abbrev pub opened : Device → Start → Point
opened d a =
    record {
      before = formatting a.layout ∷ [];
      memory = (opens d a).after.memory;
      stored = blanks (halves a.layout);
    }

abbrev pub reached : Device → Start → List Call → Point
reached d a xs = goes d (opened d a) xs
