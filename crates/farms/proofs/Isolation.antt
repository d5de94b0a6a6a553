-- Two farms in one memory (request [7]): what one of them sees after a formatting of two is what its own calls show on its own map; so it is
-- the same whatever the other half, the lent bytes and the other calls are. Assumes nothing.
use mathlib.Core.Path.{◌≡◌, refl, sym, ap, ap₂, ◌∙◌}
use mathlib.Core.Bool.{true, false, not}
use mathlib.Core.List.{List, [], ◌∷◌, ◌++◌}
use Prim.Native.Nat.{ℕ}
use lib.ListN.{length, replicate}
use lib.Dec.{eqb}
use borrow.Author.Tests.{eqb-false, eq-eqb, ne_eqb, not-true}
use Rattle.octets.specs.Octets.{zeros}
use Rattle.octets.proofs.TestLaws.{both}
use Rattle.store.specs.Namespace.{Namespace}
use Rattle.memory.specs.Namespaces.{held, at}
use Rattle.memory.specs.Memory.{Memory, memory}
use Rattle.memory.proofs.LimitLaws.{apart_two}
use Rattle.memory.proofs.ImageLaws.{Holds}
use Rattle.rules.proofs.StepLaws.{never_06h as no-06h}
use Rattle.formatting.specs.Formatting.{half, format, format_steps}
use Rattle.wire.specs.Completion.{Post, post}
use Rattle.module.specs.History.{one, two, polling, filled, Call, formatting, commanding, asking, run, leaves, status, formats}
use Rattle.module.proofs.HistoryLaws.{begin_holds, call_status, told_calls}
use Rattle.farms.specs.Sides.{real, next, Ask, sends, asks, own, answered, learnt, before, side}
use Rattle.farms.specs.Sides.{Start, blank, farms, begun, ready, sees, unformatted, Follows, Isolates}
use Rattle.farms.specs.Alone.{meets, after, alone}
use Rattle.farms.specs.Hosts.{call_of}
use Rattle.farms.proofs.Examples.{on_map, start, start_begun, A, entry, ask, call}
use Rattle.farms.proofs.Stands.{Stands, left, stands_next, room_alone, shows_alone}

-- ---- from memory in which the farm stands

alone_behind : (s : Namespace) (xs ys : List Ask) → alone s (xs ++ ys) ≡ before (alone s xs).shown (alone (left s xs) ys)
alone_behind s [] ys = refl
alone_behind s (x ∷ xs) ys = ap (before (meets s x ∷ [])) (alone_behind (after s x) xs ys)

side_alone : (n : ℕ) (s : Namespace) (m : Memory) (xs : List Call) → Stands n s m → unformatted real m xs ≡ true → side real n m xs ≡ alone s (own n xs)
side_alone n s m [] t u = ap (λ r. record { shown = []; room = r }) (room_alone n s m t)
side_alone n s m (x ∷ xs) t u =
    let q = both (not (formats x (run m x))) (unformatted real (next real m x) xs) u in
    let r = side_alone n (left s (asks n x)) (next real m x) xs (stands_next n s m t x q.0) q.1 in
    ap₂ before (shows_alone n s m t x) r ∙ sym (alone_behind s (asks n x) (own n xs))

-- ---- from a formatting on

ready_holds : (a : Start) → (begun real a).number ≡ 0 → Holds (farms a) (ready real a)
ready_holds a ok = begin_holds (two a.first a.second) a.lent ok

pub ready_stands : (n : ℕ) (a : Start) → (begun real a).number ≡ 0 → held n (farms a) ≡ true → Stands n (at n (farms a)) (ready real a)
ready_stands n a ok q = record { all = farms a; image = ready_holds a ok; there = q; is = refl }

pub isolated : (n : ℕ) (a : Start) (xs : List Call) → Follows real n a xs → sees real n a xs ≡ alone (at n (farms a)) (own n xs)
isolated n a xs f = side_alone n (at n (farms a)) (ready real a) xs (ready_stands n a f.formatted f.held) f.unformatted

-- ids that differ name each its own half
pub each_isolated : (a : Start) (xs : List Call) → (begun real a).number ≡ 0 → unformatted real (ready real a) xs ≡ true
    → (sees real a.first.id a xs ≡ alone (blank a.first) (own a.first.id xs))
    × (sees real a.second.id a xs ≡ alone (blank a.second) (own a.second.id xs))
each_isolated a xs ok u =
    let i = a.first.id in
    let j = a.second.id in
    let d = eqb-false i j (not-true _ (sym (apart_two (blank a.first) (blank a.second)) ∙ (ready_holds a ok).within.apart)) in
    let e = eq-eqb i i refl in
    let f : eqb j i ≡ false = ne_eqb j i (λ k. d (sym k)) in
    let g = eq-eqb j j refl in (
      isolated i a xs (record { formatted = ok; held = rw e; unformatted = u }) ∙ ap (λ s. alone s (own i xs)) (rw e),
      isolated j a xs (record { formatted = ok; held = rw (f, g); unformatted = u }) ∙ ap (λ s. alone s (own j xs)) (rw (f, g)),
    )

-- document 02's sentence
pub two_histories : Isolates real
two_histories n a b xs ys f g e o = isolated n a xs f ∙ ap₂ alone e o ∙ sym (isolated n b ys g)

-- memory stays legal, whatever is called, so that no command is answered 06h
pub never_06h : (a : Start) (xs : List Call) (p : Post) (e c b : List ℕ) → (begun real a).number ≡ 0 → length e ≡ 64 → length c ≡ 16
    → status (run (leaves (ready real a) xs) (commanding p e c b)) ≡ 0x06 → ⊥
never_06h a xs p e c b ok e64 c16 q =
    let h = told_calls (farms a) (ready real a) xs (ready_holds a ok) in
    no-06h _ _ _ (sym (call_status _ _ p e c b h e64 c16) ∙ q)

-- ---- an instance: the same key stored by both, calls that are refused, and a Delete without a completion

abbrev vain : Ask
vain = sends (entry 0x10 1 A 0) [] []

abbrev calls : List Call
calls =
    formatting (one (half 16 1 64)) ∷ call 0x01 1 A (5 ∷ 6 ∷ []) ∷ call 0x01 2 A (9 ∷ []) ∷ call_of (post 0 0 0) vain
    ∷ call 0x02 1 A (1 ∷ 2 ∷ 3 ∷ []) ∷ call 0x01 9 A (4 ∷ []) ∷ asking (polling 1) ∷ call 0x10 2 A [] ∷ call 0x06 1 [] (replicate 9 0xff) ∷ asking (polling 2)
    ∷ call 0x02 2 A (1 ∷ []) ∷ call 0x01 1 A (replicate 64 0) ∷ []

refused : unformatted real (ready real (start 64 64)) calls ≡ true
unfolding format format_steps
refused = refl

first : sees real 1 (start 64 64) calls
    ≡ record {
      shown =
          answered 0 0x00 0 (5 ∷ 6 ∷ []) ∷ answered 2 0 0 [] ∷ answered 0 0x00 2 (5 ∷ 6 ∷ 3 ∷ [])
          ∷ learnt (filled (record { number = 0; used = 3; keys = 1 })) ∷ answered 0 0x00 0 (1 ∷ 0 ∷ 0 ∷ 0 ∷ 1 ∷ 0 ∷ 0x41 ∷ 0 ∷ 0xff ∷ [])
          ∷ answered 0 0x81 0 (replicate 64 0) ∷ [];
      room = filled (record { number = 0; used = 3; keys = 1 });
    }
unfolding on_map
first = (each_isolated (start 64 64) calls start_begun refused).0

second : sees real 2 (start 64 64) calls
    ≡ record {
      shown = answered 0 0x00 0 (9 ∷ []) ∷ answered 0 0x00 0 [] ∷ learnt (filled (record { number = 0; used = 0; keys = 0 })) ∷ answered 0 0x87 0 (1 ∷ []) ∷ [];
      room = filled (record { number = 0; used = 0; keys = 0 });
    }
unfolding on_map
second = (each_isolated (start 64 64) calls start_begun refused).1

-- a Store of an id that names neither, after all of them
still_legal : status (run (leaves (ready real (start 64 64)) calls) (commanding (post 0 0 0) (entry 0x01 9 A 1) (zeros 16) (4 ∷ []))) ≡ 0x06 → ⊥
unfolding on_map
still_legal = never_06h (start 64 64) calls (post 0 0 0) (entry 0x01 9 A 1) (zeros 16) (4 ∷ []) start_begun refl refl

-- ---- an instance: under another queue head, with another farm in front, on other bytes

abbrev moved : Start
moved = record { first = half 12 3 32; second = half 15 1 64; lent = memory (replicate 1100 8) (replicate 96 8) }

abbrev others : List Call
others =
    call 0x01 3 A [] ∷ later (ask 0x01 1 A (5 ∷ 6 ∷ [])) ∷ later vain ∷ later (ask 0x02 1 A (1 ∷ 2 ∷ 3 ∷ [])) ∷ asking (polling 1) ∷ asking (polling 3)
    ∷ later (ask 0x06 1 [] (replicate 9 0xff)) ∷ call 0x14 3 A [] ∷ later (ask 0x01 1 A (replicate 64 0)) ∷ []
  where
    later : Ask → Call
    later = call_of (post 7 0 1)

moved_follows : Follows real 1 moved others
unfolding format format_steps
moved_follows = record { formatted = refl; held = refl; unformatted = refl }

same_asked : own 1 calls ≡ own 1 others
unfolding on_map
same_asked = refl

same_side : sees real 1 (start 64 64) calls ≡ sees real 1 moved others
same_side =
    two_histories 1 (start 64 64) moved calls others (record { formatted = start_begun; held = refl; unformatted = refused }) moved_follows refl same_asked
