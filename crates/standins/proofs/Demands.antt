-- What the contracts name has each of the demands. Assumes nothing.
use mathlib.Core.Path.{◌≡◌, refl, sym, ap, ◌∙◌}
use mathlib.Core.Bool.{Bool, true, not, ◌&&◌}
use mathlib.Core.List.{List, [], ◌∷◌, ◌++◌}
use Prim.Native.Nat.{ℕ}
use lib.ListN.{length}
use borrow.Author.Tests.{eqb-true}
use Rattle.octets.proofs.TestLaws.{both}
use Rattle.sheets.specs.Page.{Reading}
use Rattle.store.specs.Namespace.{Namespace}
use Rattle.memory.specs.Namespaces.{at as named}
use Rattle.memory.proofs.ImageLaws.{Holds, holds_back, holds_legal}
use Rattle.rules.specs.Steps.{status_of}
use Rattle.commands.specs.Answer.{answer}
use Rattle.commands.specs.Command.{Outcome}
use Rattle.module.specs.History.{Call, lend, run, leaves, stored}
use Rattle.commands.proofs.AnswerLaws.{answer_status}
use Rattle.commands.proofs.CommandLaws.{serve_is}
use Rattle.promises.specs.Histories.{Start, begun, memory_after, stored_after, never_on, never, touches, changes}
use Rattle.promises.specs.Requests.{call, sends, asked}
use Rattle.promises.specs.Retrieves.{Since}
use Rattle.walks.specs.Walks.{page_read, new_on, last_of, OnwardOn, ended, paused, next, Onward, Walk}
use Rattle.standins.specs.Devices.{real, Point, moved, goes, on, opened, reached}
use Rattle.standins.specs.Demands.{Opens, Accepts, Retrieves, Misses, Images, Pages, Walks}
use Rattle.promises.proofs.RequestLaws.{holds_after}
use Rattle.promises.proofs.AnyMemory.{any_served, any_status}
use Rattle.promises.proofs.Answers.{held_answers}
use Rattle.promises.proofs.NeverStored.{absent_87h}
use Rattle.promises.proofs.History.{history}
use Rattle.promises.proofs.Retrieve.{retrieve_after_store}
use Rattle.walks.proofs.Walk.{walk_finds_all}

-- ---- where its histories stand

goes_memory : (q : Point) (xs : List Call) → (goes real q xs).memory ≡ leaves q.memory xs
goes_memory q [] = refl
goes_memory q (x ∷ xs) = goes_memory (moved real q x) xs

goes_stored : (q : Point) (xs : List Call) → (goes real q xs).stored ≡ stored q.stored q.memory xs
goes_stored q [] = refl
goes_stored q (x ∷ xs) = goes_stored (moved real q x) xs

never_is : (f : Call → Outcome → Bool) (q : Point) (xs : List Call) → never_on (on real) f q xs ≡ never f q.memory xs
never_is f q [] = refl
never_is f q (x ∷ xs) = ap (λ (b : Bool). not (f x (run q.memory x)) && b) (never_is f (moved real q x) xs)

module _ (a : Start) (xs : List Call) where
  memory_is : (reached real a xs).memory ≡ memory_after a xs
  memory_is = goes_memory (opened real a) xs

  stored_is : (reached real a xs).stored ≡ stored_after a xs
  stored_is = goes_stored (opened real a) xs

  holds_reached : (begun a).number ≡ 0 → Holds (reached real a xs).stored (reached real a xs).memory
  holds_reached ok = rw (memory_is, stored_is) (holds_after a xs ok)

-- ---- the demands

pub real_opens : Opens real
real_opens a ok = ok

pub real_accepts : (xs : List Call) → Accepts xs real
real_accepts xs a x ok e64 c16 st =
    let ss = (reached real a xs).stored in
    let g = held_answers ss (reached real a xs).memory x.post x.entry x.completion x.buffer (holds_reached a xs ok) e64 c16 in
    rw (g.number, g.status ∙ answer_status true (named (asked x).nsid ss) (asked x) x.buffer ∙ st)

pub real_retrieves : Retrieves real
real_retrieves a xs x ys n k r since p =
    let spared : never (touches n k) (sends (reached real a xs).memory x).after.memory ys ≡ true =
    sym (never_is (touches n k) (moved real (reached real a xs) (call x)) ys) ∙ since.spared in
    let q : Since a xs x ys 0x01 n k =
    record {
      formatted = since.formatted;
      nsid = since.nsid;
      opcode = since.opcode;
      key = since.key;
      done = rw (memory_is a xs) at since.done;
      spared = rw (memory_is a xs) at spared;
    } in
    rw (memory_is a (xs ++ call x ∷ ys)) (retrieve_after_store a xs x ys n k r q (rw (stored_is a (xs ++ call x ∷ ys)) at p))

pub real_misses : Misses real
real_misses a xs op n k r ok e o p =
    rw (memory_is a xs) (absent_87h a xs op n k r ok (rw (stored_is a xs) at e) o (rw (stored_is a xs) at p))

pub real_images : Images real
real_images a xs ok = rw (stored_is a xs, memory_is a xs) (history a xs ok)

pub real_pages : Pages real
unfolding answer
real_pages a xs r ok o done =
    let ss = (reached real a xs).stored in
    let s = named (asked r).nsid ss in
    let m = (reached real a xs).memory in
    let h = holds_reached a xs ok in
    let q = both _ _ done in
    let n = eqb-true (run m (call r)).number 0 q.0 in
    let st : status_of true s (asked r) (length r.buffer) ≡ 0 =
    rw (holds_legal h, holds_back h) at (sym (any_status m r.post r.entry r.completion r.buffer n) ∙ eqb-true _ 0 q.1) in
    ap (λ (o : Outcome). o.after.buffer) (any_served m r.post r.entry r.completion r.buffer n)
    ∙ rw (serve_is r.post (asked r) (lend r.completion r.buffer m) ss h, st, eqb-true (asked r).opcode 0x06 o)

-- ---- the walk

onward_real : {n : ℕ} {s : Namespace} {f : Bool} {q : Point} {r : Reading} {pages : List Reading} → OnwardOn (on real) n s f q r pages
    → Onward n s f q.memory r pages
onward_real ended = ended
onward_real paused = paused
onward_real {n = n} {s = s} (next {f = f} {m = q} {k = k} {ks = ks} {pages = pages} xs x calm l walk) =
    let tail : Onward n s f (run (goes real q xs).memory (call x)).after.memory (new_on (last_of k ks) (page_read (goes real q xs).memory x)) pages =
    onward_real walk in
    next xs x (sym (never_is (changes n) q xs) ∙ calm) l (rw (goes_memory q xs) at tail)

pub real_walks : Walks real
real_walks a xs n f pages ok w =
    let s = named n (reached real a xs).stored in
    let m = (reached real a xs).memory in
    let walk : Walk n s m f pages = record { first = w.first; lists = w.lists; onward = onward_real w.onward } in
    rw (stored_is a xs) (walk_finds_all a xs n ok (rw (stored_is a xs, memory_is a xs) at walk)).0
