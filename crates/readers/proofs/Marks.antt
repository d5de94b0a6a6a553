-- The device that marks the key that it changed last, and that in which one farm's full store makes the other's Store 81h, are told from
-- the module by the two sentences of request [14]. Assumes nothing.
use mathlib.Core.Path.{◌≡◌, refl, sym, ap, ◌∙◌}
use mathlib.Core.Bool.{true}
use mathlib.Core.List.{[], ◌∷◌}
use Prim.Native.Nat.{ℕ}
use native.Mathlib.Omega.{arith}
use Rattle.octets.specs.Octets.{part, number}
use Rattle.memory.specs.Memory.{Memory, legal}
use Rattle.module.specs.History.{Call}
use Rattle.farms.specs.Sides.{real, next, ready}
use Rattle.farms.specs.Shared.{shared}
use Rattle.farms.proofs.Examples.{start as start_two, call as call_to}
use Rattle.promises.specs.Histories.{memory_after}
use Rattle.promises.specs.Requests.{Request, call}
use Rattle.promises.proofs.Examples.{on_map, on_memory, start, start_begun, A, B, store}
use Rattle.readers.specs.Orders.{given, named, Succeed, Swaps, Commutes}
use Rattle.readers.specs.Marks.{marks}
use Rattle.readers.proofs.Answers.{status_in}
use Rattle.readers.proofs.Commuting.{legal_after, commutes}
use Rattle.readers.proofs.Swapping.{swaps, delete, kept, changes}

-- ---- the mark

-- B is stored and A deleted, where A is held
abbrev holding : Memory
holding = memory_after (start 7) kept

abbrev stores : Request
stores = store B (9 ∷ [])

met : Succeed marks holding (call stores) (call delete) × Succeed marks holding (call delete) (call stores)
unfolding on_memory
met = (record { first = refl; second = refl }, record { first = refl; second = refl })

-- the byte behind the needed part
abbrev mark : Memory → ℕ
mark m = number (part 576 1 m.directory)

marked : (mark (next marks (next marks holding (call stores)) (call delete)) ≡ 0x41)
    × (mark (next marks (next marks holding (call delete)) (call stores)) ≡ 0x42)
unfolding on_memory
marked = (refl, refl)

pub marks_apart : Swaps real × ¬ Swaps marks
marks_apart = (
  swaps,
  λ s.
      let e = ap mark (s holding stores delete (legal_after (start 7) kept (start_begun 7)) changes met.0 met.1).left in
      let z : ◌≡◌ {A = ℕ} 0x41 0x42 = sym marked.0 ∙ e ∙ marked.1 in
      omega arith,
)

-- ---- the other's full store

-- a formatting of 64 bytes and of 2; the one farm's Store, and one that fills the other's two bytes
abbrev pair : Memory
pair = ready real (start_two 64 2)

abbrev one : Call
one = call_to 0x01 1 A (5 ∷ [])

abbrev other : Call
other = call_to 0x01 2 A (9 ∷ [])

statuses : (legal pair ≡ true) × (status_in (given shared (next shared pair other) one) ≡ 0x81) × (status_in (given shared pair one) ≡ 0x00)
unfolding on_memory
statuses = (refl, refl, refl)

ids : (named 1 one ≡ true) × (named 2 other ≡ true)
unfolding on_map
ids = (refl, refl)

pub shared_apart : Commutes real × ¬ Commutes shared
shared_apart = (
  commutes,
  λ s.
      let e = ap status_in (s pair 1 2 one other statuses.0 (λ e. omega arith) ids.0 ids.1).first in
      let z : ◌≡◌ {A = ℕ} 0x81 0x00 = sym statuses.1 ∙ e ∙ statuses.2 in
      omega arith,
)
