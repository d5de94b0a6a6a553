-- A command on the map: the status, Dword 0, the data buffer and the pairs afterwards. Assumes nothing.
use Rattle.std.specs.Prelude.{Bool, cond, List, ℕ, length, take, eqb}
use Rattle.octets.specs.Octets.{put}
use Rattle.wire.specs.declared.entries.Command.{Command}
use Rattle.wire.specs.Entry.{key_of, is_store, is_retrieve, is_list, is_delete}
use Rattle.sheets.specs.Page.{page, shown}
use Rattle.store.specs.Maps.{Pair, keys, value_of, insert, erase}
use Rattle.store.specs.Namespace.{Namespace}
use Rattle.rules.specs.Steps.{status_of}

pub record Answer : Type 0 where
  pub status : ℕ
  pub dword0 : ℕ
  pub buffer : List ℕ
  pub pairs : List Pair

-- ---- what a command does that no step refuses

-- of a Retrieve, how long the stored value is, however much of it is moved
abbrev pub dword_after : Command → List Pair → ℕ
dword_after c m = cond (is_retrieve c.opcode) (length (value_of (key_of c) m)) 0

-- what a Retrieve moves is cut to the host buffer; a List leaves its page
abbrev pub buffer_after : Command → List ℕ → List Pair → List ℕ
buffer_after c b m =
    cond (is_retrieve c.opcode) (put 0 (take c.amount (value_of (key_of c) m)) b)
    (cond (is_list c.opcode) (put 0 (page (shown c.amount (key_of c) (keys m))) b) b)

-- a Store puts the front of the data buffer under the key; a Delete takes the pair out
abbrev pub pairs_after : Command → List ℕ → List Pair → List Pair
pairs_after c b m =
    cond (is_store c.opcode) (insert (key_of c) (take c.amount b) m)
    (cond (is_delete c.opcode) (erase (key_of c) m) m)

-- a refusal changes nothing
abbrev pub answer_at : ℕ → Command → List ℕ → List Pair → Answer
answer_at st c b m =
    cond (eqb st 0) (record { status = 0; dword0 = dword_after c m; buffer = buffer_after c b m; pairs = pairs_after c b m })
    (record { status = st; dword0 = 0; buffer = b; pairs = m })

unfoldable pub answer : Bool → Namespace → Command → List ℕ → Answer
answer legal s c b = answer_at (status_of legal s c (length b)) c b s.pairs
