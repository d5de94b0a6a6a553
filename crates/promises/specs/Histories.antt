-- A formatting of any lent bytes, for one namespace or two, and calls after it: what they leave in the two slices and what they leave stored.
-- Assumes nothing.
use Rattle.std.specs.Prelude.{◌≡◌, Bool, true, false, not, ◌&&◌, ◌||◌, List, [], ◌∷◌, ℕ, ◌+◌, eqb, take, drop}
use Rattle.octets.specs.Octets.{part, number, same}
use Rattle.keys.specs.Keys.{Key}
use Rattle.wire.specs.Entry.{read_command, key_of, is_store, is_delete}
use Rattle.store.specs.Maps.{lookup, used}
use Rattle.store.specs.Namespace.{Namespace}
use Rattle.memory.specs.Namespaces.{at, all_within}
use Rattle.memory.specs.Memory.{needed, needed_values, directory_of, values_of, Memory}
use Rattle.formatting.specs.Formatting.{blanks, Formatted}
use Rattle.commands.specs.Command.{Outcome}
use Rattle.module.specs.History.{Layout, halves, begin, Call, formatting, commanding, asking, run, leaves, succeeded, stored}

-- lent bytes, and what their formatting is given
pub record Start : Type 0 where
  pub layout : Layout
  pub lent : Memory

abbrev pub begun : Start → Formatted
begun a = begin a.layout a.lent

abbrev pub memory_after : Start → List Call → Memory
memory_after a xs = leaves (begun a).after xs

abbrev pub stored_after : Start → List Call → List Namespace
stored_after a xs = stored (blanks (halves a.layout)) (begun a).after xs

-- and what of it is in the namespace that n names
abbrev pub stored_in : ℕ → Start → List Call → Namespace
stored_in n a xs = at n (stored_after a xs)

-- a state that calls change: what a call gives there, and where calls lead
pub record System (Q : Type 0) : Type 0 where
  pub does : Q → Call → Outcome
  pub goes : Q → List Call → Q

-- the module's own: its state is the memory that it is lent
abbrev pub own : System Memory
own = record { does = run; goes = leaves }

-- ---- what memory shows

-- ss are within the limits, and the needed part of the memory is their image
pub record Shows (ss : List Namespace) (m : Memory) : Type 0 where
  pub within : all_within ss ≡ true
  pub directory : take (needed ss) m.directory ≡ directory_of ss
  pub values : take (needed_values ss) m.values ≡ values_of ss

-- bytes 16 to 19 of each half, from the one at `half` on, say the used room of each
abbrev pub Sums : ℕ → List Namespace → List ℕ → Type 0
Sums half [] d = Unit {0}
Sums half (s ∷ ss) d = (number (part (half + 16) 4 d) ≡ used s.pairs) × Sums (half + 32) ss d

-- the bytes past the needed part of a formatting
pub record SamePast (ss : List Namespace) (m n : Memory) : Type 0 where
  pub directory : drop (needed ss) m.directory ≡ drop (needed ss) n.directory
  pub values : drop (needed_values ss) m.values ≡ drop (needed_values ss) n.values

-- the needed part itself
pub record SameNeeded (ss : List Namespace) (m n : Memory) : Type 0 where
  pub directory : take (needed ss) m.directory ≡ take (needed ss) n.directory
  pub values : take (needed_values ss) m.values ≡ take (needed_values ss) n.values

-- one formatting, and the same under each key
pub record SamePairs (s t : Namespace) : Type 0 where
  pub index : s.index ≡ t.index
  pub id : s.id ≡ t.id
  pub size : s.size ≡ t.size
  pub pairs : (k : Key) → lookup k s.pairs ≡ lookup k t.pairs

-- of each namespace
abbrev pub AllPairs : List Namespace → List Namespace → Type 0
AllPairs [] [] = Unit {0}
AllPairs [] (t ∷ ts) = ⊥
AllPairs (s ∷ ss) [] = ⊥
AllPairs (s ∷ ss) (t ∷ ts) = SamePairs s t × AllPairs ss ts

-- ---- what calls do not do

-- f says no of each call and its outcome
abbrev pub never_on : {Q : Type 0} → System Q → (Call → Outcome → Bool) → Q → List Call → Bool
never_on w f q [] = true
never_on w f q (x ∷ xs) = not (f x (w.does q x)) && never_on w f (w.goes q (x ∷ [])) xs

abbrev pub never : (Call → Outcome → Bool) → Memory → List Call → Bool
never = never_on own

-- Store and Delete change what is stored; Retrieve, List and Exist only answer
abbrev pub writes : ℕ → Bool
writes op = is_store op || is_delete op

-- it formats with success, or stores or deletes with success in the namespace n
abbrev pub changes : ℕ → Call → Outcome → Bool
changes n (formatting l) o = eqb o.number 0
changes n (commanding p e c b) o = succeeded o && writes (read_command e).opcode && eqb (read_command e).nsid n
changes n (asking q) o = false

-- it formats with success, or changes what n holds under k
abbrev pub touches : ℕ → Key → Call → Outcome → Bool
touches n k (formatting l) o = eqb o.number 0
touches n k (commanding p e c b) o = changes n (commanding p e c b) o && same (key_of (read_command e)) k
touches n k (asking q) o = false
