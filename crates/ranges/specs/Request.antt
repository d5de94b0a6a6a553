-- What an entry says to a memory command, and the table of refusals, one for the three commands (request [8]). Memory is here the slice that
-- was lent for the memory namespace; the store has no part in it. Assumes nothing.
use Rattle.std.specs.Prelude.{Bool, not, ◌&&◌, ◌||◌, List, [], ◌∷◌, ℕ, ◌+◌, ◌%◌, eqb, ltb, length}
use Rattle.octets.specs.Octets.{part, number}
use Rattle.octets.specs.Tests.{Row, row}
use Rattle.wire.specs.Entry.{not_entry}
use Rattle.wire.specs.Completion.{not_completion}
use Rattle.ranges.specs.declared.requests.Request.{Request}

-- the range has len bytes from byte `start` on; no other byte of the entry is read
unfoldable pub read_request : List ℕ → Request
read_request e = record { cid = number (part 2 2 e); nsid = number (part 4 4 e); start = number (part 40 8 e); len = number (part 48 4 e) }

abbrev pub aligned : ℕ → Bool
aligned n = eqb (n % 4) 0

-- house number 20
abbrev pub not_memory : List ℕ → Row
not_memory m = row (ltb 65536 (length m) || not (aligned (length m))) 20

-- of an entry, a completion and a memory
abbrev pub numbers : List ℕ → List ℕ → List ℕ → List Row
numbers e c m = not_entry e ∷ not_completion c ∷ not_memory m ∷ []

-- on a memory of `size` bytes under the id; short: there is a data buffer, and it has fewer bytes than the range
abbrev pub statuses : Request → ℕ → ℕ → Bool → List Row
statuses q id size short =
    row (not (eqb q.nsid id)) 0x0b
    ∷ row (not (aligned q.start && aligned q.len)) 0x02
    ∷ row (ltb size (q.start + q.len)) 0x80
    ∷ row short 0x04
    ∷ []
