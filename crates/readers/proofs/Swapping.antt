-- Two Stores or Deletes on different keys of one namespace that succeed in either order, or are not refused for room, hand back and leave
-- the same in either order (request [14]). Assumes nothing.
use mathlib.Core.Path.{◌≡◌, refl, sym, ap, ◌∙◌}
use mathlib.Core.Bool.{Bool, true, false, cond}
use mathlib.Core.List.{List, [], ◌∷◌, ◌++◌}
use Prim.Native.Nat.{ℕ}
use native.Mathlib.Omega.{arith}
use Rattle.octets.specs.Octets.{zeros}
use lib.ListN.{replicate}
use lib.Dec.{eqb}
use borrow.Author.Tests.{eqb-true, eq-eqb}
use Rattle.keys.specs.Keys.{Key}
use Rattle.octets.proofs.TestLaws.{both}
use Rattle.keys.proofs.OrderLaws.{Rising}
use Rattle.wire.specs.Entry.{key_of}
use Rattle.store.specs.Maps.{keys}
use Rattle.store.specs.Namespace.{Namespace}
use Rattle.memory.specs.Namespaces.{at}
use Rattle.memory.specs.Memory.{Memory, memory, namespaces_of}
use Rattle.memory.proofs.ImageLaws.{legal_holds}
use Rattle.commands.specs.Command.{Outcome}
use Rattle.formatting.specs.Formatting.{half}
use Rattle.module.specs.History.{one, Call, run, leaves, succeeded, changed, told, status}
use Rattle.farms.specs.Sides.{Device, real, next}
use Rattle.promises.specs.Histories.{Start, begun, memory_after}
use Rattle.promises.specs.Requests.{Request, call, asked}
use Rattle.promises.proofs.RequestLaws.{at_rising}
use Rattle.promises.proofs.Examples.{on_map, on_memory, start, start_begun, request, A, B, store, vain}
use Rattle.readers.specs.Orders.{returned, given, EitherOrder, Changes, Apart, Succeed, HaveRoom, Swaps, RoomTells, named}
use Rattle.readers.proofs.Pairs.{changed_either}
use Rattle.readers.proofs.Unseen.{unseen}
use Rattle.readers.proofs.Answers.{told_given}
use Rattle.readers.proofs.Left.{same_left}
use Rattle.readers.proofs.Commuting.{legal_after}

-- ---- the theorems

-- what is told, in either order
told_apart : (x y : Request) (a : Apart x y) (ss : List Namespace) (o q : Outcome) → Rising (keys (at a.nsid ss).pairs)
    → told (told ss (call x) o) (call y) q ≡ told (told ss (call y) q) (call x) o
told_apart x y a ss o q r = go (succeeded o) (succeeded q)
  where
    one : List Namespace → List Namespace
    one = changed (asked x) x.buffer

    other : List Namespace → List Namespace
    other = changed (asked y) y.buffer

    differ : ¬ (key_of (asked x) ≡ key_of (asked y))
    differ e = a.differ (sym a.one.key ∙ e ∙ a.two.key)

    go : (w z : Bool) → cond z (other (cond w (one ss) ss)) (cond w (one ss) ss) ≡ cond w (one (cond z (other ss) ss)) (cond z (other ss) ss)
    go false z = refl
    go true false = refl
    go true true = changed_either a.nsid ss (asked x) (asked y) x.buffer y.buffer r a.one.nsid a.two.nsid differ

named_by : (n : ℕ) (k : Key) (x : Request) → Changes n k x → named n (call x) ≡ true
named_by n k x c = eq-eqb n (asked x).nsid (sym c.nsid)

pub room_tells : RoomTells real
room_tells m x y ok a f g =
    let n = a.nsid in
    let ss = namespaces_of m in
    let h = legal_holds m ok in
    let one = unseen n a.key a.other x y ss m h a.differ a.one a.two f.first g.second in
    let other = unseen n a.other a.key y x ss m h (λ e. a.differ (sym e)) a.two a.one g.first f.second in
    let same = told_given n (told ss (call x) (run m (call x))) (next real m (call x)) m (call y) (named_by n a.other y a.two) other
    ∙ told_apart x y a ss (run m (call x)) (run m (call y)) (at_rising n ss h)
    ∙ sym (told_given n (told ss (call y) (run m (call y))) (next real m (call y)) m (call x) (named_by n a.key x a.one) one) in
    record {
      first = one;
      second = other;
      left = same_left ss m (call x ∷ call y ∷ []) (call y ∷ call x ∷ []) h refl refl same;
    }

-- a success is no 81h
not_81h : (o : Outcome) → succeeded o ≡ true → ¬ (status o ≡ 0x81)
not_81h o e f =
    let z = eqb-true (status o) 0 (both (eqb o.number 0) (eqb (status o) 0) e).1 in
    omega arith

any_swaps : (d : Device) → RoomTells d → Swaps d
any_swaps d t m x y ok a f g = t m x y ok a (room (call x) (call y) f) (room (call y) (call x) g)
  where
    room : (u v : Call) → Succeed d m u v → HaveRoom d m u v
    room u v s = record { first = not_81h (d.does m u) s.first; second = not_81h (d.does (next d m u) v) s.second }

pub swaps : Swaps real
swaps = any_swaps real room_tells

leaves_more : (m : Memory) (xs ys : List Call) → leaves m (xs ++ ys) ≡ leaves (leaves m xs) ys
leaves_more m [] ys = refl
leaves_more m (x ∷ xs) ys = leaves_more (run m x).after.memory xs ys

-- over any history, and with any calls behind them
pub swapped_after : (a : Start) (xs ys : List Call) (x y : Request) → (begun a).number ≡ 0 → Apart x y
    → Succeed real (memory_after a xs) (call x) (call y) → Succeed real (memory_after a xs) (call y) (call x)
    → EitherOrder real (memory_after a xs) (call x) (call y)
    × (memory_after a (xs ++ call x ∷ call y ∷ ys) ≡ memory_after a (xs ++ call y ∷ call x ∷ ys))
swapped_after a xs ys x y ok p f g =
    let e = swaps (memory_after a xs) x y (legal_after a xs ok) p f g in
    (e, leaves_more (begun a).after xs (call x ∷ call y ∷ ys) ∙ ap (λ n. leaves n ys) e.left ∙ sym (leaves_more (begun a).after xs (call y ∷ call x ∷ ys)))

-- ---- an instance: B stored and A deleted, where A is held

abbrev pub delete : Request
delete = request 0x10 A 0 []

abbrev pub kept : List Call
kept = call (store A (5 ∷ 6 ∷ [])) ∷ []

pub changes : Apart (store B (9 ∷ [])) delete
unfolding on_map
changes =
    record {
      nsid = 1;
      key = B;
      other = A;
      differ = λ e. let z : ◌≡◌ {A = ℕ} 0x42 0x41 = cc in omega arith;
      one = record { nsid = refl; key = refl; writes = refl };
      two = record { nsid = refl; key = refl; writes = refl };
    }

met : (let m = memory_after (start 7) kept in
    Succeed real m (call (store B (9 ∷ []))) (call delete) × Succeed real m (call delete) (call (store B (9 ∷ []))))
unfolding on_memory
met = (record { first = refl; second = refl }, record { first = refl; second = refl })

swapped : memory_after (start 7) (kept ++ call (store B (9 ∷ [])) ∷ call delete ∷ vain)
    ≡ memory_after (start 7) (kept ++ call delete ∷ call (store B (9 ∷ [])) ∷ vain)
swapped = (swapped_after (start 7) kept vain (store B (9 ∷ [])) delete (start_begun 7) changes met.0 met.1).1

-- ---- an instance with a refusal: A is not held, whether B is stored before its Delete or behind it

vain_delete : (let m = (begun (start 7)).after in let x = call (store B (9 ∷ [])) in given real (next real m x) (call delete))
    ≡ returned 0 (zeros 14 ++ 0x0e ∷ 0x01 ∷ []) []
unfolding on_memory
vain_delete =
    let done : ¬ (◌≡◌ {A = ℕ} 0x00 0x81) = λ e. omega arith in
    let missing : ¬ (◌≡◌ {A = ℕ} 0x87 0x81) = λ e. omega arith in
    (room_tells (begun (start 7)).after (store B (9 ∷ [])) delete (legal_after (start 7) [] (start_begun 7)) changes
    (record { first = done; second = missing }) (record { first = missing; second = done })).second

-- ---- all four successes are needed

-- room for two bytes: of two Stores the later is refused, so that each order leaves another store
abbrev tight : Start
tight = record { layout = one (half 15 1 2); lent = memory (replicate 577 7) (replicate 3 7) }

abbrev two : List Call
two = call (store A (5 ∷ [])) ∷ call (store B (6 ∷ [])) ∷ []

abbrev turned : List Call
turned = call (store B (6 ∷ [])) ∷ call (store A (5 ∷ [])) ∷ []

room_for_one : ((memory_after tight two).values ≡ 5 ∷ 0 ∷ 7 ∷ []) × ((memory_after tight turned).values ≡ 6 ∷ 0 ∷ 7 ∷ [])
unfolding on_memory
room_for_one = (refl, refl)

-- three are not enough: where B is stored before A is deleted it is refused
abbrev freed : Memory
freed = memory_after tight (call (store A (5 ∷ [])) ∷ [])

three : Succeed real freed (call delete) (call (store B (6 ∷ []))) × (succeeded (run freed (call (store B (6 ∷ [])))) ≡ false)
    × ((leaves freed (call delete ∷ call (store B (6 ∷ [])) ∷ [])).values ≡ 6 ∷ 0 ∷ 7 ∷ [])
    × ((leaves freed (call (store B (6 ∷ [])) ∷ call delete ∷ [])).values ≡ 0 ∷ 0 ∷ 7 ∷ [])
unfolding on_memory
three = (record { first = refl; second = refl }, refl, refl, refl)
