-- Memory Read, Memory Write and Memory Fill between bytes: the numbers, the entry read, the statuses, the effect, the completion written
-- (request [8]). Assumes nothing.
use Rattle.std.specs.Prelude.{Bool, false, cond, List, [], ◌++◌, ℕ, zero, suc, ◌/◌, eqb, ltb, length, take}
use Rattle.octets.specs.Octets.{part, put, bytes}
use Rattle.octets.specs.Tests.{first_of}
use Rattle.wire.specs.Completion.{Post, posted}
use Rattle.ranges.specs.declared.requests.Request.{Request}
use Rattle.ranges.specs.Request.{read_request, numbers, statuses}

-- the command, which the caller chooses; Fill has its word where the others have a data buffer
pub data Task : Type 0 where
  reading : Task
  writing : Task
  filling : ℕ → Task

-- whether the data buffer b is too short for a range of len bytes
abbrev pub lacks : Task → List ℕ → ℕ → Bool
lacks reading b len = ltb (length b) len
lacks writing b len = ltb (length b) len
lacks (filling w) b len = false

-- bs, n times
abbrev pub over : ℕ → List ℕ → List ℕ
over zero bs = []
over (suc n) bs = bs ++ over n bs

pub record Tried : Type 0 where
  pub status : ℕ
  pub buffer : List ℕ
  pub memory : List ℕ

abbrev pub tried : ℕ → List ℕ → List ℕ → Tried
tried status b m = record { status = status; buffer = b; memory = m }

-- what is done where no row refuses
abbrev pub effect : Task → Request → List ℕ → List ℕ → Tried
effect reading q b m = tried 0 (put 0 (part q.start q.len m) b) m
effect writing q b m = tried 0 b (put q.start (take q.len b) m)
effect (filling w) q b m = tried 0 b (put q.start (over (q.len / 4) (bytes 4 w)) m)

unfoldable pub attempt : Task → ℕ → Request → List ℕ → List ℕ → Tried
attempt t id q b m =
    let status = first_of (statuses q id (length m) (lacks t b q.len)) in
    cond (eqb status 0) (effect t q b m) (tried status b m)

-- the lent slices; Fill has no data buffer, and [] stands for it
pub record Slices : Type 0 where
  pub completion : List ℕ
  pub buffer : List ℕ
  pub memory : List ℕ

abbrev pub slices : List ℕ → List ℕ → List ℕ → Slices
slices c b m = record { completion = c; buffer = b; memory = m }

pub record Ended : Type 0 where
  pub number : ℕ
  pub after : Slices

abbrev pub ended : ℕ → Slices → Ended
ended n s = record { number = n; after = s }

abbrev pub answered : Post → ℕ → Tried → Slices
answered p cid r = slices (posted p cid r.status 0) r.buffer r.memory

-- a number other than 0 writes nothing at all
unfoldable pub memory_call : Task → Post → ℕ → List ℕ → Slices → Ended
memory_call t p id e s =
    let k = first_of (numbers e s.completion s.memory) in
    let q = read_request e in
    ended k (cond (eqb k 0) (answered p q.cid (attempt t id q s.buffer s.memory)) s)
