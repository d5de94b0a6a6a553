-- Looks by computation, instances of the promises, and the devices that they tell from the module (request [4]). Assumes nothing.
use mathlib.Core.Path.{◌≡◌, refl}
use mathlib.Core.List.{List, [], ◌∷◌, ◌++◌}
use Prim.Native.Nat.{ℕ, zero, suc, ◌/◌, ◌%◌}
use native.Mathlib.Omega.{arith}
use lib.ListN.{length, replicate}
use Rattle.octets.specs.Octets.{part, number, bytes, zeros, filled}
use Rattle.keys.specs.Keys.{Key}
use Rattle.memory.specs.Memory.{Memory, memory, label_in}
use Rattle.quick.specs.declared.looks.Look.{Look}
use Rattle.quick.specs.Search.{search_keys}
use Rattle.quick.specs.Heads.{run_by, run_of}
use Rattle.quick.specs.Known.{record_at, compare, run_for, search_for, known, no_look}
use Rattle.module.specs.History.{Call}
use Rattle.promises.specs.Histories.{begun, memory_after}
use Rattle.promises.specs.Requests.{call}
use Rattle.promises.proofs.Examples.{on_memory, start_two, two_begun, A, B, store, store_two}
use Rattle.gates.specs.Looks.{SaysHistory, GoesBy, always, elsewhere, late, checking}
use Rattle.gates.proofs.Looks.{says_legal, says_history, goes_by, unheld}

-- to unfold it is to unfold all that a look computes with
unfoldable on_look : Unit {0}
unfolding known run_for run_by run_of record_at compare label_in part number
on_look = tt

abbrev look : ℕ → ℕ → Look
look known looked = record { number = 0; known = known; looked = looked }

-- ---- bytes of any kind

-- a half, a record, and memory of them with value bytes
abbrev half : ℕ → ℕ → ℕ → ℕ → List ℕ
half id index size count = bytes 4 id ++ bytes 4 index ++ bytes 4 size ++ bytes 4 count ++ replicate 16 0x77

abbrev tag : List ℕ → ℕ → List ℕ
tag k n = filled 16 k ++ bytes 4 n ++ replicate 12 0x77

abbrev J : Key
J = 0x4a ∷ []

-- format 15 has 16 slots
abbrev one : List ℕ → ℕ → Memory
one rs n = memory (half 1 15 9 n ++ zeros 32 ++ rs ++ replicate 512 0x55) (replicate 9 0x33)

none_kept : known A 1 (one [] 0) ≡ look 0 0
unfolding on_look
none_kept = refl

one_kept : (known A 1 (one (tag A 1) 1) ≡ look 1 1) × (known B 1 (one (tag A 1) 1) ≡ look 0 1)
unfolding on_look
one_kept = (refl, refl)

-- the key's bytes with another length beside them are another key
length_counts : known A 1 (one (tag A 2) 1) ≡ look 0 1
unfolding on_look
length_counts = refl

-- out of order: J, B, A. The look begins in the middle, and A stands where it does not come to
abbrev damaged : Memory
damaged = one (tag J 1 ++ tag B 1 ++ tag A 1) 3

damaged_says : (known B 1 damaged ≡ look 1 1) × (known A 1 damaged ≡ look 0 2) × (known J 1 damaged ≡ look 0 2)
unfolding on_look
damaged_says = (refl, refl, refl)

damaged_slots : (search_for A 1 damaged).slots ≡ 1 ∷ 0 ∷ []
unfolding on_look
damaged_slots = refl

-- 1024 records that stand above every key: eleven looks, each to the left
abbrev thousand : Memory
thousand = memory (half 1 3 9 1024 ++ zeros 32 ++ replicate 32768 0xff) (replicate 9 0)

eleven_slots : (search_for A 1 thousand).slots ≡ 512 ∷ 256 ∷ 128 ∷ 64 ∷ 32 ∷ 16 ∷ 8 ∷ 4 ∷ 2 ∷ 1 ∷ 0 ∷ []
unfolding on_look
eleven_slots = refl

-- and among 1024 keys that rise
abbrev numbered : ℕ → List Key → List Key
numbered zero ks = ks
numbered (suc n) ks = numbered n ((n / 256 ∷ n % 256 ∷ []) ∷ ks)

eleven_looks : length (search_keys [] (numbered 1024 [])).slots ≡ 11
eleven_looks = refl

-- ---- refusals, in their order

abbrev both : ℕ → ℕ → ℕ → ℕ → ℕ → ℕ → ℕ → ℕ → Memory
both i f m n j g o p = memory (half i f m n ++ half j g o p ++ replicate 1024 0) (replicate 20 0)

refusals : (known [] 9 (memory [] []) ≡ no_look 15)
    × (known (replicate 17 1) 9 (memory [] []) ≡ no_look 15)
    × (known A 0 (memory (replicate 63 0) []) ≡ no_look 6)
    × (known A 9 (both 1 16 9 0 2 15 9 0) ≡ no_look 6)
    × (known A 9 (both 1 15 0 0 2 15 9 0) ≡ no_look 6)
    × (known A 9 (both 1 15 9 17 2 15 9 0) ≡ no_look 6)
    × (known A 9 (both 1 15 9 0 2 16 9 0) ≡ no_look 6)
    × (known A 9 (both 1 15 9 0 2 15 65537 0) ≡ no_look 6)
    × (known A 9 (both 1 15 9 0 2 15 9 17) ≡ no_look 6)
    × (known A 9 (both 1 15 9 0 2 11 9 0) ≡ no_look 6)
    × (known A 9 (both 1 15 9 0 2 15 12 0) ≡ no_look 6)
    × (known A 9 (both 1 15 9 0 2 15 11 0) ≡ no_look 23)
    × (known A 0 (both 0 16 0 17 2 15 20 0) ≡ no_look 23)
unfolding on_look
refusals = (refl, refl, refl, refl, refl, refl, refl, refl, refl, refl, refl, refl, refl)

-- ---- which run: of two with one id the first; of a second whose first is empty, that from the start

abbrev runs : ℕ → ℕ → Memory
runs i j = memory (half i 15 9 1 ++ half j 15 9 1 ++ tag A 1 ++ replicate 480 0 ++ tag B 1 ++ replicate 480 0) (replicate 18 0)

chosen : (known A 1 (runs 1 2) ≡ look 1 1) × (known B 2 (runs 1 2) ≡ look 1 1) × (known A 1 (runs 1 1) ≡ look 1 1) × (known A 2 (runs 0 2) ≡ look 1 1)
unfolding on_look
chosen = (refl, refl, refl, refl)

-- ---- instances: A stored in the first of two, and B in the second

abbrev calls : List Call
calls = call (store A (5 ∷ [])) ∷ call (store_two B (6 ∷ [])) ∷ []

legal_said : (known A 1 (begun (start_two 7)).after).known ≡ 0
unfolding on_memory
legal_said = (says_legal A 1 (begun (start_two 7)).after refl refl refl).known

first_said : ((known A 1 (memory_after (start_two 7) calls)).known ≡ 1) × ((known B 1 (memory_after (start_two 7) calls)).known ≡ 0)
unfolding on_memory
first_said =
    ((says_history (start_two 7) calls A 1 (two_begun 7) refl refl).known, (says_history (start_two 7) calls B 1 (two_begun 7) refl refl).known)

second_said : (known B 2 (memory_after (start_two 7) calls)).known ≡ 1
unfolding on_memory
second_said = (says_history (start_two 7) calls B 2 (two_begun 7) refl refl).known

third_unheld : known A 3 (memory_after (start_two 7) calls) ≡ no_look 23
unfolding on_memory
third_unheld = unheld (start_two 7) calls A 3 (two_begun 7) refl refl

-- other bytes in the slot that the look does not come to, in those behind it and in the values
abbrev other : Memory
other = memory (half 1 15 9 3 ++ zeros 32 ++ (tag J 1 ++ tag B 1 ++ replicate 32 0xee) ++ replicate 512 0xaa) (replicate 9 0x44)

unseen : known A 1 damaged ≡ known A 1 other
unfolding on_look
unseen = goes_by.same A 1 damaged other (record { directory = refl; values = refl; head = refl; records = (refl, (refl, tt)) })

-- ---- the devices that are not the module

always_rejected : SaysHistory always → ⊥
unfolding on_memory
always_rejected f = omega (arith, (f (start_two 7) calls B 1 (two_begun 7) refl refl).known)

elsewhere_rejected : SaysHistory (elsewhere 1) → ⊥
unfolding on_memory on_look
elsewhere_rejected f = omega (arith, (f (start_two 7) calls B 2 (two_begun 7) refl refl).known)

late_rejected : SaysHistory late → ⊥
unfolding on_memory on_look
late_rejected f = omega (arith, (f (start_two 7) calls A 1 (two_begun 7) refl refl).looked 1 (omega arith))

-- the damaged memory is not legal, and yet two slots are to be looked at
checking_rejected : GoesBy checking → ⊥
unfolding on_memory on_look
checking_rejected f = omega (arith, f.counts A 1 damaged)
