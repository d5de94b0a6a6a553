-- One memory for two farms, and what one of them sees of a device: what its own calls show it, and its used room at the end.
-- Queue head, queue and phase are the caller's and stay outside. Assumes nothing.
use Rattle.std.specs.Prelude.{◌≡◌, Bool, true, cond, not, ◌&&◌, List, [], ◌∷◌, ◌++◌, ℕ, eqb}
use Rattle.wire.specs.Entry.{read_command}
use Rattle.wire.specs.Completion.{read_completion}
use Rattle.store.specs.Namespace.{Namespace, fresh}
use Rattle.memory.specs.Namespaces.{held, at}
use Rattle.memory.specs.Memory.{Memory}
use Rattle.formatting.specs.declared.measures.Half.{Half}
use Rattle.formatting.specs.Formatting.{blanks}
use Rattle.commands.specs.Command.{Outcome}
use Rattle.module.specs.History.{two, Question, polling, id_of, Told, ask, Call, formatting, commanding, asking, run, status, formats}

-- what a call does to memory, and what a question gives
pub record Device : Type 0 where
  pub does : Memory → Call → Outcome
  pub tells : Memory → Question → Told

-- the module
abbrev pub real : Device
real = record { does = run; tells = ask }

abbrev pub next : Device → Memory → Call → Memory
next d m x = (d.does m x).after.memory

-- ---- the calls of one farm

-- what a farm gives for a call of its own: an entry, a completion and a data buffer; or a question
pub data Ask : Type 0 where
  sends : List ℕ → List ℕ → List ℕ → Ask
  poses : Question → Ask

-- a call as n's own, if it names n; a formatting is of neither farm
abbrev pub asks : ℕ → Call → List Ask
asks n (formatting l) = []
asks n (commanding p e c b) = cond (eqb n (read_command e).nsid) (sends e c b ∷ []) []
asks n (asking q) = cond (eqb n (id_of q)) (poses q ∷ []) []

abbrev pub own : ℕ → List Call → List Ask
own n [] = []
own n (x ∷ xs) = asks n x ++ own n xs

-- ---- what they show

-- a command: the number, and of the completion and the data buffer afterwards status, Dword 0 and all bytes; a question: its whole answer
pub data Seen : Type 0 where
  answered : ℕ → ℕ → ℕ → List ℕ → Seen
  learnt : Told → Seen

abbrev pub seen_of : Outcome → Seen
seen_of o = answered o.number (status o) (read_completion o.after.completion).dword0 o.after.buffer

-- what a call shows n
abbrev pub shows : Device → ℕ → Memory → Call → List Seen
shows d n m (formatting l) = []
shows d n m (commanding p e c b) = cond (eqb n (read_command e).nsid) (seen_of (d.does m (commanding p e c b)) ∷ []) []
shows d n m (asking q) = cond (eqb n (id_of q)) (learnt (d.tells m q) ∷ []) []

-- what each call shows, in their order, and what a poll gives after them
pub record Side : Type 0 where
  pub shown : List Seen
  pub room : Told

abbrev pub before : List Seen → Side → Side
before vs t = record { shown = vs ++ t.shown; room = t.room }

-- all calls being made, the side of n
abbrev pub side : Device → ℕ → Memory → List Call → Side
side d n m [] = record { shown = []; room = d.tells m (polling n) }
side d n m (x ∷ xs) = before (shows d n m x) (side d n (next d m x) xs)

-- ---- from a formatting of two on

-- what it is given, and the lent bytes
pub record Start : Type 0 where
  pub first : Half
  pub second : Half
  pub lent : Memory

-- a farm as it leaves it, and both
abbrev pub blank : Half → Namespace
blank h = fresh h.index h.id h.size

abbrev pub farms : Start → List Namespace
farms a = blanks (a.first ∷ a.second ∷ [])

abbrev pub begun : Device → Start → Outcome
begun d a = d.does a.lent (formatting (two a.first a.second))

abbrev pub ready : Device → Start → Memory
ready d a = (begun d a).after.memory

abbrev pub sees : Device → ℕ → Start → List Call → Side
sees d n a xs = side d n (ready d a) xs

-- none of the calls is a formatting that succeeds
abbrev pub unformatted : Device → Memory → List Call → Bool
unformatted d m [] = true
unformatted d m (x ∷ xs) = not (formats x (d.does m x)) && unformatted d (next d m x) xs

-- a formatting that succeeds and has a half for n, and calls behind it that end nothing
pub record Follows (d : Device) (n : ℕ) (a : Start) (xs : List Call) : Type 0 where
  pub formatted : (begun d a).number ≡ 0
  pub held : held n (farms a) ≡ true
  pub unformatted : unformatted d (ready d a) xs ≡ true

-- request [7]: whatever the other half, the lent bytes and the other calls are, n sees the same where its half and its own calls are the same
abbrev pub Isolates : Device → Type 0
Isolates d =
    (n : ℕ) (a b : Start) (xs ys : List Call) → Follows d n a xs → Follows d n b ys → at n (farms a) ≡ at n (farms b) → own n xs ≡ own n ys
    → sees d n a xs ≡ sees d n b ys
