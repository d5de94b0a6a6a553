-- What a scale is promised of its working memory (request [8]), said of any device. Assumes nothing.
use Rattle.std.specs.Prelude.{◌≡◌, true, false, List, ℕ, ◌+◌, ◌<◌, length, drop, get_or}
use Rattle.octets.specs.Octets.{part}
use Rattle.octets.specs.Tests.{first_of}
use Rattle.wire.specs.Completion.{posted}
use Rattle.ranges.specs.Request.{numbers, statuses}
use Rattle.scratch.specs.Calls.{reading, lacks, slices, Ended}
use Rattle.scales.specs.Histories.{Call, asked, Device, memory_after, told, log, done, covers, last_put}

-- how a call ends behind the calls cs
abbrev pub ends : Device → List ℕ → List Call → Call → Ended
ends d m cs c = d c (memory_after d m cs)

-- a Read that was done: each byte of its range as it was last put, or as lent; and the rest of the data buffer as it was
pub record Reads (d : Device) (m : List ℕ) (cs : List Call) (c : Call) : Type 0 where
  pub size : length (ends d m cs c).after.buffer ≡ length c.buffer
  pub bytes : (k : ℕ) → k < (asked c).len
      → get_or (ends d m cs c).after.buffer k 0 ≡ last_put ((asked c).start + k) (get_or m ((asked c).start + k) 0) (log d m cs)
  pub rest : drop (asked c).len (ends d m cs c).after.buffer ≡ drop (asked c).len c.buffer

abbrev pub ReadsBack : Device → Type 0
ReadsBack d = (m : List ℕ) (cs : List Call) (c : Call) → c.task ≡ reading → done (told c (ends d m cs c)) ≡ true → Reads d m cs c

-- number and completion by the table, whatever was called before
pub record Judges (d : Device) (m : List ℕ) (cs : List Call) (c : Call) : Type 0 where
  pub number : (ends d m cs c).number ≡ first_of (numbers c.entry c.completion m)
  pub status : (ends d m cs c).number ≡ 0
      → (ends d m cs c).after.completion
      ≡ posted c.post (asked c).cid (first_of (statuses (asked c) c.id (length m) (lacks c.task c.buffer (asked c).len))) 0

abbrev pub ByTable : Device → Type 0
ByTable d = (m : List ℕ) (cs : List Call) (c : Call) → Judges d m cs c

-- what one call leaves as it was: all that lies outside its range, and the data buffer of all but a Read
pub record Keeps (c : Call) (m : List ℕ) (o : Ended) : Type 0 where
  pub size : length o.after.memory ≡ length m
  pub outside : (i : ℕ) → covers i c ≡ false → get_or o.after.memory i 0 ≡ get_or m i 0
  pub buffer : ¬ (c.task ≡ reading) → o.after.buffer ≡ c.buffer
  -- a refusal: by its number all of it, by its status all but the completion
  pub numbered : ¬ (o.number ≡ 0) → o.after ≡ slices c.completion c.buffer m
  pub refused : done (told c o) ≡ false → (o.after.buffer ≡ c.buffer) × (o.after.memory ≡ m)

abbrev pub OnlyRange : Device → Type 0
OnlyRange d = (c : Call) (m : List ℕ) → Keeps c m (d c m)

-- two entries that say the same: bytes 2 to 7 and 40 to 51 count, and the length
pub record Alike (e f : List ℕ) : Type 0 where
  pub size : length e ≡ length f
  pub front : part 2 6 e ≡ part 2 6 f
  pub range : part 40 12 e ≡ part 40 12 f

abbrev pub saying : Call → List ℕ → Call
saying c e = record { task = c.task; post = c.post; id = c.id; entry = e; completion = c.completion; buffer = c.buffer }

abbrev pub Unread : Device → Type 0
Unread d = (c : Call) (f m : List ℕ) → Alike c.entry f → d c m ≡ d (saying c f) m
