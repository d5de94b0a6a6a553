-- What a call is lent, what a refusal must leave, and which part of memory a call goes by. Assumes nothing.
use Rattle.std.specs.Prelude.{◌≡◌, List, [], ℕ}
use Rattle.store.specs.Namespace.{Namespace}
use Rattle.memory.specs.Memory.{Memory, namespaces_of}
use Rattle.formatting.specs.Formatting.{blanks}
use Rattle.commands.specs.Command.{Lent, Outcome}
use Rattle.module.specs.History.{halves, Question, polling, identifying, knowing, Call, formatting, commanding, asking, lend, status}
use Rattle.promises.specs.Histories.{SameNeeded}

-- the slice that a question is lent for its answer
abbrev pub page_for : Question → List ℕ
page_for (polling n) = []
page_for (identifying p n) = p
page_for (knowing k n) = []

-- all that a call is lent; where it has no completion or no data buffer these are empty
abbrev pub lent_to : Memory → Call → Lent
lent_to m (formatting l) = lend [] [] m
lent_to m (commanding p e c b) = lend c b m
lent_to m (asking q) = lend [] (page_for q) m

-- o is the outcome of a call that was lent l: a number other than 0 leaves all of it, a status other than 00h all but the completion
pub record Spares (l : Lent) (o : Outcome) : Type 0 where
  pub numbered : ¬ (o.number ≡ 0) → o.after ≡ l
  pub refused : ¬ (status o ≡ 0) → (o.after.buffer ≡ l.buffer) × (o.after.memory ≡ l.memory)

-- ---- the needed part

-- a formatting goes by what it is given, a command and a question by what stands in memory
abbrev pub spaces_for : Memory → Call → List Namespace
spaces_for m (formatting l) = blanks (halves l)
spaces_for m (commanding p e c b) = namespaces_of m
spaces_for m (asking q) = namespaces_of m

-- two outcomes that differ at most in bytes past the needed part
pub record SameOutcome (ss : List Namespace) (x y : Outcome) : Type 0 where
  pub number : x.number ≡ y.number
  pub completion : x.after.completion ≡ y.after.completion
  pub buffer : x.after.buffer ≡ y.after.buffer
  pub memory : SameNeeded ss x.after.memory y.after.memory
