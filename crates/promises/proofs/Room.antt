-- How full a namespace is (requests [3] and [7]). After a formatting of any bytes and any calls, the poll gives the used room and the number of
-- keys of what numbers and statuses tell to be stored under its id, and 23 where none has that id. On any memory, legal memory has that sum in
-- its head, and the poll answers 18 where every command is answered 06h. Assumes nothing.
use mathlib.Core.Path.{◌≡◌, refl, sym, ap, ◌∙◌}
use mathlib.Core.Bool.{Bool, true, false, cond}
use mathlib.Core.List.{List, [], ◌∷◌, ◌++◌}
use Prim.Native.Nat.{ℕ, ◌+◌, ◌*◌}
use native.Mathlib.Omega.{arith}
use lib.ListN.{length}
use Rattle.octets.specs.Octets.{part, put, number}
use Rattle.octets.proofs.PartLaws.{part_inside}
use Rattle.store.specs.declared.namespaces.Label.{Label}
use Rattle.store.specs.Maps.{pair, used}
use Rattle.store.specs.Namespace.{Namespace}
use Rattle.memory.specs.Namespaces.{held, at}
use Rattle.memory.specs.Memory.{Memory, memory, label_in, namespaces_of, legal}
use Rattle.memory.proofs.ImageLaws.{Holds, legal_holds}
use Rattle.memory.proofs.PlaceLaws.{label_held}
use Rattle.maps.specs.Describe.{described, undescribed, describe}
use Rattle.wire.specs.Completion.{Post}
use Rattle.rules.proofs.StepLaws.{illegal, never_06h}
use Rattle.room.specs.declared.polls.Room.{Room}
use Rattle.room.specs.Room.{filled_by, no_room, room}
use Rattle.room.proofs.PollLaws.{room_held}
use Rattle.module.specs.History.{polling, Call, commanding, asking, run, status}
use Rattle.promises.specs.Histories.{Start, begun, memory_after, stored_after, stored_in, Sums}
use Rattle.promises.specs.Requests.{call, sends}
use Rattle.promises.proofs.AnyMemory.{any_status}
use Rattle.promises.proofs.RequestLaws.{holds_after}
use Rattle.promises.proofs.Examples.{on_memory, start, start_begun, start_two, two_begun, request, A, B, key, store, store_two, exist, vain}

-- ---- the promises

pub room_told : (a : Start) (xs : List Call) (n : ℕ) → (begun a).number ≡ 0
    → room n (memory_after a xs) ≡ cond (held n (stored_after a xs)) (filled_by (stored_in n a xs).pairs) (no_room 23)
room_told a xs n ok = room_held n (holds_after a xs ok)

sum_held : (a b : List Namespace) (s : Namespace) {d v : List ℕ} → Holds (a ++ s ∷ b) (memory d v) → number (part (32 * length a + 16) 4 d) ≡ used s.pairs
unfolding label_in
sum_held a b s {d} h =
    ap number (sym (part_inside (32 * length a) 32 16 4 d (omega arith))) ∙ ap (λ (l : Label). l.used) (label_held a b s h)

pub legal_sum : (m : Memory) → legal m ≡ true → Sums 0 (namespaces_of m) m.directory
legal_sum m e = go (namespaces_of m) (legal_holds m e)
  where
    go : (ss : List Namespace) → Holds ss m → Sums 0 ss m.directory
    go [] h = tt
    go (s ∷ []) h = (sum_held [] [] s h, tt)
    go (s ∷ t ∷ []) h = (sum_held [] (t ∷ []) s h, (sum_held (s ∷ []) [] t h, tt))
    go (s ∷ t ∷ u ∷ ss) h = absurd (omega (arith, h.within.two))

-- of a command that numbers 1 and 2 let pass
pub refused_alike : (i : ℕ) (m : Memory) (p : Post) (e c b : List ℕ) → (run m (commanding p e c b)).number ≡ 0
    → ((room i m).number ≡ 18 → status (run m (commanding p e c b)) ≡ 0x06) × (status (run m (commanding p e c b)) ≡ 0x06 → (room i m).number ≡ 18)
unfolding room describe
refused_alike i m p e c b n = go (legal m) refl
  where
    -- held or not, 18 is not the number
    other : (y : Bool) → (cond y (described (at i (namespaces_of m))) (undescribed 23)).number ≡ 18 → ⊥
    other true q = omega (arith, q)
    other false q = omega (arith, q)

    go : (x : Bool) → legal m ≡ x
        → ((room i m).number ≡ 18 → status (run m (commanding p e c b)) ≡ 0x06) × (status (run m (commanding p e c b)) ≡ 0x06 → (room i m).number ≡ 18)
    go true f =
        (λ q. absurd (other (held i (namespaces_of m)) (rw f at q)), λ q. absurd (never_06h _ _ _ (sym (rw f at (any_status m p e c b n)) ∙ q)))
    go false f = (λ q. any_status m p e c b n ∙ rw f (illegal _ _ _), λ q. rw f)

-- ---- an instance: a value stored and another one in its place, a key stored and deleted, a key of sixteen bytes stored without a value,
-- calls that are refused, and a poll among them

abbrev calls : List Call
calls =
    call (store A (5 ∷ 6 ∷ 7 ∷ [])) ∷ call (store B (9 ∷ [])) ∷ call (store A (8 ∷ 8 ∷ [])) ∷ asking (polling 1) ∷ call (request 0x10 B 0 [])
    ∷ call (store (key 1) []) ∷ vain

-- A with two bytes, and the key of sixteen
nineteen : cond (held 1 (stored_after (start 7) calls)) (filled_by (stored_in 1 (start 7) calls).pairs) (no_room 23)
    ≡ record { number = 0; used = 3 + 16; keys = 2 }
unfolding on_memory
nineteen = refl

told : room 1 (memory_after (start 7) calls) ≡ record { number = 0; used = 19; keys = 2 }
told = room_told (start 7) calls 1 (start_begun 7) ∙ nineteen

-- of two namespaces with the same key in both, and of an id that none has

abbrev farms : List Call
farms = call (store A (5 ∷ [])) ∷ call (store_two A (6 ∷ 7 ∷ [])) ∷ []

abbrev of_each : ℕ → Room
of_each n = cond (held n (stored_after (start_two 7) farms)) (filled_by (stored_in n (start_two 7) farms).pairs) (no_room 23)

two_and_three : (of_each 1 ≡ filled_by (pair A (5 ∷ []) ∷ [])) × (of_each 2 ≡ filled_by (pair A (6 ∷ 7 ∷ []) ∷ [])) × (of_each 0 ≡ no_room 23)
unfolding on_memory
two_and_three = (refl, refl, refl)

three : room 2 (memory_after (start_two 7) farms) ≡ record { number = 0; used = 3; keys = 1 }
three = room_told (start_two 7) farms 2 (two_begun 7) ∙ two_and_three.1

-- ---- an instance: the empty store, and the same with 1 in the place of that sum

abbrev empty : Memory
empty = (begun (start 7)).after

abbrev damaged : Memory
damaged = memory (put 16 (1 ∷ []) empty.directory) empty.values

met : (legal empty ≡ true) × ((room 1 damaged).number ≡ 18) × ((sends damaged (exist A)).number ≡ 0)
unfolding on_memory room describe
met = (refl, refl, refl)

summed : Sums 0 (namespaces_of empty) empty.directory
summed = legal_sum empty met.0

refused : status (sends damaged (exist A)) ≡ 0x06
refused = let x = exist A in (refused_alike 1 damaged x.post x.entry x.completion x.buffer met.2).0 met.1
