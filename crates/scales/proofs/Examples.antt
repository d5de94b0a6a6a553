-- Instances of the promises, and the devices that they tell from the module (request [8]). Assumes nothing.
use mathlib.Core.Path.{◌≡◌, refl, ap}
use mathlib.Core.List.{List, [], ◌∷◌, ◌++◌}
use Prim.Native.Nat.{ℕ, ◌-◌, ◌^◌}
use native.Mathlib.Omega.{arith}
use lib.ListN.{get_or, replicate}
use Rattle.octets.specs.Octets.{bytes, zeros}
use Rattle.wire.specs.Completion.{read_completion, post}
use Rattle.scratch.specs.Calls.{Task, reading, writing, filling, Ended}
use Rattle.scales.specs.Histories.{Call, ours, log, last_put}
use Rattle.scales.specs.Readings.{ends, ReadsBack, ByTable, OnlyRange, Unread}
use Rattle.scales.specs.StandIns.{wrapping, room_first, clearing, high_first, lazy, spilling, strict}
use Rattle.scales.proofs.Readings.{reads_back, by_table, only_range, unread}
use Rattle.scales.proofs.Cases.{on_calls, entry}

unfoldable on_answers : Unit {0}
unfolding on_calls read_completion
on_answers = tt

abbrev call : Task → ℕ → ℕ → List ℕ → Call
call t start len b = record { task = t; post = post 0 0 0; id = 9; entry = entry 9 start len; completion = zeros 16; buffer = b }

-- a Fill of eight bytes, a Write over the second four, and one that is refused
abbrev before : List Call
before = call (filling 0x11223344) 0 8 [] ∷ call writing 4 4 (1 ∷ 2 ∷ 3 ∷ 4 ∷ []) ∷ call writing 0 4 (5 ∷ 6 ∷ 7 ∷ []) ∷ []

-- all of it read, and a byte of the buffer behind it
abbrev look : Call
look = call reading 0 12 (replicate 13 0xee)

abbrev lent : List ℕ
lent = replicate 12 0x77

-- filled, written, as lent
last_put_law :
    (last_put 0 0x77 (log ours lent before) ≡ 0x44) × (last_put 7 0x77 (log ours lent before) ≡ 4) × (last_put 8 0x77 (log ours lent before) ≡ 0x77)
unfolding on_answers
last_put_law = (refl, refl, refl)

read_is :
    get_or (ends ours lent before look).after.buffer 7 0 ≡ 4
unfolding on_answers
read_is = (reads_back lent before look refl refl).bytes 7 (omega arith)

judged : (ends ours lent before (call reading 12 4 (zeros 4))).number ≡ 0
unfolding on_answers
judged = (by_table lent before (call reading 12 4 (zeros 4))).number

kept : get_or (ours (call writing 4 4 (zeros 4)) lent).after.memory 3 0 ≡ 0x77
unfolding on_answers
kept = (only_range (call writing 4 4 (zeros 4)) lent).outside 3 refl

-- other bytes wherever nothing is read
abbrev other : List ℕ
other = replicate 2 0x02 ++ bytes 2 7 ++ bytes 4 9 ++ replicate 32 0x22 ++ bytes 8 0 ++ bytes 4 12 ++ replicate 12 0x33

said_alike : ours look lent ≡ ours (record { task = reading; post = post 0 0 0; id = 9; entry = other; completion = zeros 16; buffer = replicate 13 0xee }) lent
unfolding on_answers
said_alike = unread look other lent (record { size = refl; front = refl; range = refl })

-- ---- the devices that are not the module

wrapping_rejected : ByTable wrapping → ⊥
unfolding on_answers
wrapping_rejected f = omega (arith, ap (λ (s : List ℕ). get_or s 15 0) ((f lent [] (call writing (2 ^ 64 - 4) 4 (zeros 4))).status refl))

room_first_rejected : ByTable room_first → ⊥
unfolding on_answers
room_first_rejected f = omega (arith, ap (λ (s : List ℕ). get_or s 14 0) ((f lent [] (call reading 8 8 (zeros 4))).status refl))

clearing_rejected : ReadsBack clearing → ⊥
unfolding on_answers
clearing_rejected f = omega (arith, ap (λ (s : List ℕ). get_or s 0 0) (f lent before look refl refl).rest)

high_first_rejected : ReadsBack high_first → ⊥
unfolding on_answers
high_first_rejected f = omega (arith, (f lent before look refl refl).bytes 0 (omega arith))

lazy_rejected : ReadsBack lazy → ⊥
unfolding on_answers
lazy_rejected f = omega (arith, (f lent before look refl refl).bytes 0 (omega arith))

spilling_rejected : OnlyRange spilling → ⊥
unfolding on_answers
spilling_rejected f = omega (arith, (f (call writing 4 4 (zeros 4)) lent).outside 0 refl)

strict_rejected : Unread strict → ⊥
unfolding on_answers
strict_rejected f =
    omega (arith, ap (λ (o : Ended). get_or o.after.completion 14 0) (f look other lent (record { size = refl; front = refl; range = refl })))
