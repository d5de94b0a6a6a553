-- A history of calls, each lent the same two slices whole; and what it leaves stored, told from the numbers and statuses alone.
-- Assumes nothing.
use Rattle.std.specs.Prelude.{Bool, false, cond, ◌&&◌, List, [], ◌∷◌, ℕ, eqb}
use Rattle.wire.specs.declared.entries.Command.{Command}
use Rattle.wire.specs.Entry.{read_command}
use Rattle.wire.specs.Completion.{read_completion, Post}
use Rattle.store.specs.Namespace.{Namespace}
use Rattle.memory.specs.Namespaces.{at, with}
use Rattle.memory.specs.Memory.{Memory}
use Rattle.maps.specs.Describe.{described_as}
use Rattle.formatting.specs.declared.measures.Half.{Half}
use Rattle.formatting.specs.Formatting.{blanks, Formatted, format}
use Rattle.commands.specs.Answer.{pairs_after}
use Rattle.commands.specs.Command.{Lent, Outcome, command}
use Rattle.room.specs.declared.polls.Room.{Room}
use Rattle.room.specs.Room.{room_of, room}
use Rattle.identify.specs.Identify.{Identified, identify_of, identify, asked, create}
use Rattle.quick.specs.declared.looks.Look.{Look}
use Rattle.quick.specs.Known.{known_in, known}

-- what a formatting is given: the numbers of one namespace, or of two, or a host's fields for one under an id
pub data Layout : Type 0 where
  one : Half → Layout
  two : Half → Half → Layout
  fields : List ℕ → ℕ → Layout

abbrev pub halves : Layout → List Half
halves (one h) = h ∷ []
halves (two h k) = h ∷ k ∷ []
halves (fields s id) = asked s id ∷ []

-- what it does
abbrev pub begin : Layout → Memory → Formatted
begin (one h) m = format (h ∷ []) m
begin (two h k) m = format (h ∷ k ∷ []) m
begin (fields s id) m = create s id m

-- a call that reads memory and changes nothing there: under an id, a poll of the used room; the Identify page, for which a slice is lent; or a
-- look for a key
pub data Question : Type 0 where
  polling : ℕ → Question
  identifying : List ℕ → ℕ → Question
  knowing : List ℕ → ℕ → Question

pub data Told : Type 0 where
  filled : Room → Told
  paged : Identified → Told
  seen : Look → Told

abbrev pub id_of : Question → ℕ
id_of (polling n) = n
id_of (identifying p n) = n
id_of (knowing k n) = n

abbrev pub ask : Memory → Question → Told
ask m (polling n) = filled (room n m)
ask m (identifying p n) = paged (identify n p m)
ask m (knowing k n) = seen (known k n m)

-- the same of a namespace, with no memory
abbrev pub tell : Namespace → Question → Told
tell s (polling n) = filled (room_of (described_as n s))
tell s (identifying p n) = paged (identify_of (described_as n s) p)
tell s (knowing k n) = seen (known_in k n s)

-- a call with all that its caller gives: a formatting; a command with its entry, completion and data buffer; a question
pub data Call : Type 0 where
  formatting : Layout → Call
  commanding : Post → List ℕ → List ℕ → List ℕ → Call
  asking : Question → Call

abbrev pub lend : List ℕ → List ℕ → Memory → Lent
lend c b m = record { completion = c; buffer = b; memory = m }

-- its number, and the slice that was lent for a page
abbrev pub number_in : Told → ℕ
number_in (filled r) = r.number
number_in (paged i) = i.number
number_in (seen l) = l.number

abbrev pub page_in : Told → List ℕ
page_in (filled r) = []
page_in (paged i) = i.page
page_in (seen l) = []

-- one call; where it has no completion or no data buffer these are empty, and a page stands as a data buffer does
abbrev pub run : Memory → Call → Outcome
run m (formatting l) = let f = begin l m in record { number = f.number; after = lend [] [] f.after }
run m (commanding p e c b) = command p e (lend c b m)
run m (asking q) = record { number = number_in (ask m q); after = lend [] (page_in (ask m q)) m }

-- the memory that calls leave
abbrev pub leaves : Memory → List Call → Memory
leaves m [] = m
leaves m (x ∷ xs) = leaves (run m x).after.memory xs

-- the status that the completion says
abbrev pub status : Outcome → ℕ
status o = (read_completion o.after.completion).status

-- number 0 and status 00h
abbrev pub succeeded : Outcome → Bool
succeeded o = eqb o.number 0 && eqb (status o) 0

-- it formats with success
abbrev pub formats : Call → Outcome → Bool
formats (formatting l) o = eqb o.number 0
formats (commanding p e c b) o = false
formats (asking q) o = false

-- a Store puts and a Delete takes out, in the namespace that it names
abbrev pub changed : Command → List ℕ → List Namespace → List Namespace
changed c b ss = with c.nsid (pairs_after c b (at c.nsid ss).pairs) ss

-- a successful formatting, Store or Delete changes what is stored; nothing else does
abbrev pub told : List Namespace → Call → Outcome → List Namespace
told ss (formatting l) o = cond (eqb o.number 0) (blanks (halves l)) ss
told ss (commanding p e c b) o = cond (succeeded o) (changed (read_command e) b ss) ss
told ss (asking q) o = ss

-- what calls leave stored, where ss are stored before them
abbrev pub stored : List Namespace → Memory → List Call → List Namespace
stored ss m [] = ss
stored ss m (x ∷ xs) = stored (told ss x (run m x)) (run m x).after.memory xs
