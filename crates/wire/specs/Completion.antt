-- The completion, 16 bytes. Assumes nothing.
use Rattle.std.specs.Prelude.{not, List, ◌++◌, ℕ, ◌+◌, ◌*◌, ◌/◌, ◌%◌, eqb, length}
use Rattle.octets.specs.Octets.{part, number, bytes, zeros}
use Rattle.octets.specs.Tests.{Row, row}
use Rattle.wire.specs.declared.completions.Completion.{Completion}
use Rattle.wire.specs.declared.completions.Post as posts

-- the last two bytes: phase 0, status 8:1, type 11:9
abbrev pub word : Completion → ℕ
word c = c.phase % 2 + 2 * c.status + 512 * c.kind

abbrev pub phase_in : ℕ → ℕ
phase_in w = w % 2

abbrev pub status_in : ℕ → ℕ
status_in w = w / 2 % 256

abbrev pub kind_in : ℕ → ℕ
kind_in w = w / 512 % 8

unfoldable pub write_completion : Completion → List ℕ
write_completion c = bytes 4 c.dword0 ++ zeros 4 ++ bytes 2 c.head ++ bytes 2 c.queue ++ bytes 2 c.cid ++ bytes 2 (word c)

unfoldable pub read_completion : List ℕ → Completion
read_completion s =
    let w = number (part 14 2 s) in
    record {
      dword0 = number (part 0 4 s);
      head = number (part 8 2 s);
      queue = number (part 10 2 s);
      cid = number (part 12 2 s);
      phase = phase_in w;
      status = status_in w;
      kind = kind_in w;
    }

-- house number 2
abbrev pub not_completion : List ℕ → Row
not_completion s = row (not (eqb (length s) 16)) 2

-- the code's struct: what the caller gives for a completion
abbrev pub Post : Type 0
Post = posts.Post

abbrev pub post : ℕ → ℕ → ℕ → Post
post head queue phase = record { head = head; queue = queue; phase = phase }

-- the completion of the command that has this identifier, with type 0; of phase only the lowest bit counts
abbrev pub completed : Post → ℕ → ℕ → ℕ → Completion
completed p cid status dword0 =
    record { dword0 = dword0; head = p.head; queue = p.queue; cid = cid; phase = p.phase % 2; status = status; kind = 0 }

abbrev pub posted : Post → ℕ → ℕ → ℕ → List ℕ
posted p cid status dword0 = write_completion (completed p cid status dword0)
