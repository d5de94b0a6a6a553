-- A completion that was written is read back. Assumes nothing.
use mathlib.Core.Path.{◌≡◌, refl}
use Prim.Native.Nat.{ℕ, ◌^◌, ◌<◌}
use native.Mathlib.Omega.{arith}
use lib.ListN.{length}
use Rattle.octets.specs.Octets.{part, number}
use Rattle.octets.proofs.NumberLaws.{number_bytes}
use Rattle.wire.specs.declared.completions.Completion.{Completion}
use Rattle.wire.specs.Completion.{word, phase_in, status_in, kind_in, read_completion, write_completion, Post, posted}

pub length_completion : (c : Completion) → length (write_completion c) ≡ 16
unfolding write_completion
length_completion c = refl

-- each field within its bits
pub record Whole (c : Completion) : Type 0 where
  pub dword0_in : c.dword0 < 256 ^ 4
  pub head_in : c.head < 256 ^ 2
  pub queue_in : c.queue < 256 ^ 2
  pub cid_in : c.cid < 256 ^ 2
  pub phase_in_law : c.phase < 2
  pub status_in_law : c.status < 256
  pub kind_in_law : c.kind < 8

pub completion_back : (c : Completion) → Whole c → read_completion (write_completion c) ≡ c
unfolding read_completion write_completion part
completion_back c w =
    let u : (phase_in (word c) ≡ c.phase) × (status_in (word c) ≡ c.status) × (kind_in (word c) ≡ c.kind) = omega arith in
    rw (number_bytes 4 c.dword0 w.dword0_in, number_bytes 2 c.head w.head_in, number_bytes 2 c.queue w.queue_in)
    (rw (number_bytes 2 c.cid w.cid_in, number_bytes 2 (word c) (omega arith), u.0, u.1, u.2))

-- what is said in a completion with any status
pub posted_status : (p : Post) (cid st n : ℕ) → st < 256 → (read_completion (posted p cid st n)).status ≡ st
unfolding read_completion write_completion part number
posted_status p cid st n h = omega arith
