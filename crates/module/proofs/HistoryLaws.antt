-- A call on memory that is the image of namespaces leaves the image of what its answer tells, and nothing past the needed part changes
-- unless it formats; so do any calls. Assumes nothing.
use mathlib.Core.Path.{◌≡◌, refl, sym, ap, ◌∙◌}
use mathlib.Core.Bool.{Bool, true, false, cond}
use mathlib.Core.List.{List, [], ◌∷◌}
use Prim.Native.Nat.{ℕ, ◌^◌, ◌<◌}
use native.Mathlib.Omega.{arith}
use lib.ListN.{length}
use lib.Dec.{eqb}
use borrow.Author.Tests.{eqb-true, eq-eqb}
use Rattle.octets.specs.Octets.{part}
use Rattle.octets.proofs.TestLaws.{known, holds, fails}
use Rattle.octets.proofs.NumberLaws.{number_bytes}
use Rattle.wire.specs.declared.entries.Command.{Command}
use Rattle.wire.specs.Entry.{read_command}
use Rattle.wire.proofs.CompletionLaws.{posted_status}
use Rattle.wire.specs.Completion.{read_completion, write_completion, Post}
use Rattle.store.specs.Namespace.{Namespace}
use Rattle.memory.specs.Namespaces.{at, with}
use Rattle.memory.specs.Memory.{Memory}
use Rattle.memory.proofs.NameLaws.{with_same}
use Rattle.memory.proofs.ImageLaws.{Holds}
use Rattle.rules.specs.Steps.{status_of}
use Rattle.rules.proofs.StepLaws.{status_byte}
use Rattle.maps.specs.Describe.{Described}
use Rattle.maps.proofs.DescribeLaws.{describe_as}
use Rattle.formatting.specs.Formatting.{blanks, Formatted, format}
use Rattle.formatting.proofs.FormatLaws.{Few, blanks_within, format_holds, format_refused}
use Rattle.commands.specs.Answer.{Answer, answer, pairs_after}
use Rattle.commands.specs.Command.{Outcome, completion_of, serve}
use Rattle.commands.proofs.AnswerLaws.{answer_status}
use Rattle.commands.proofs.CommandLaws.{entry_key, serve_is, serve_holds, command_0, command_1, command_2, Kept, over_kept, serve_kept}
use Rattle.room.specs.Room.{room_of, room}
use Rattle.identify.specs.Identify.{identify_of, identify}
use Rattle.identify.proofs.IdentifyLaws.{create_is, create_refused}
use Rattle.quick.proofs.KnownLaws.{known_held}
use Rattle.module.specs.History.{Layout, one, two, fields, halves, begin, Question, polling, identifying, knowing, filled, paged, seen, id_of, ask, tell}
use Rattle.module.specs.History.{Call, formatting, commanding, asking, lend, run, leaves, told, stored}

-- ---- a command that numbers 1 and 2 let pass

pub status_back : (p : Post) (c : Command) (st n : ℕ) → st < 256 → (read_completion (completion_of p c st n)).status ≡ st
status_back p c st n h = posted_status p c.cid st n h

dword_back : (p : Post) (c : Command) (st n : ℕ) → n < 256 ^ 4 → (read_completion (completion_of p c st n)).dword0 ≡ n
unfolding read_completion write_completion part
dword_back p c st n h = number_bytes 4 n h

answer_pairs : (s : Namespace) (c : Command) (b : List ℕ)
    → (answer true s c b).pairs ≡ cond (eqb (status_of true s c (length b)) 0) (pairs_after c b s.pairs) s.pairs
unfolding answer
answer_pairs s c b = elim (known (eqb (status_of true s c (length b)) 0)) [ holds e ↦ rw e | fails e ↦ rw e ]

module _ (ss : List Namespace) (m : Memory) (p : Post) (e c b : List ℕ) (h : Holds ss m) (e64 : length e ≡ 64) (c16 : length c ≡ 16) where
  -- the namespace that the command names
  abbrev s : Namespace
  s = at (read_command e).nsid ss

  abbrev given : Answer
  given = answer true s (read_command e) b

  served : run m (commanding p e c b) ≡ record { number = 0; after = serve p (read_command e) (lend c b m) }
  served = command_0 p e (lend c b m) (eq-eqb (length e) 64 e64) (eq-eqb (length c) 16 c16)

  -- number, status, Dword 0 and data buffer are those of the answer on the map
  pub call_number : (run m (commanding p e c b)).number ≡ 0
  call_number = ap (λ (o : Outcome). o.number) served

  pub call_status : (read_completion (run m (commanding p e c b)).after.completion).status ≡ status_of true s (read_command e) (length b)
  call_status =
      rw (served, serve_is p (read_command e) (lend c b m) ss h, answer_status true s (read_command e) b)
      (status_back p (read_command e) (status_of true s (read_command e) (length b)) given.dword0 (status_byte true s (read_command e) (length b)))

  pub call_dword0 : given.dword0 < 256 ^ 4 → (read_completion (run m (commanding p e c b)).after.completion).dword0 ≡ given.dword0
  call_dword0 small =
      rw (served, serve_is p (read_command e) (lend c b m) ss h) (dword_back p (read_command e) given.status given.dword0 small)

  pub call_buffer : (run m (commanding p e c b)).after.buffer ≡ given.buffer
  call_buffer = rw (served, serve_is p (read_command e) (lend c b m) ss h)

  call_told : told ss (commanding p e c b) (run m (commanding p e c b)) ≡ with (read_command e).nsid given.pairs ss
  call_told = rw (call_number, call_status, answer_pairs s (read_command e) b) (go (eqb (status_of true s (read_command e) (length b)) 0))
    where
      go : (z : Bool) → cond z (with (read_command e).nsid (pairs_after (read_command e) b s.pairs) ss) ss
          ≡ with (read_command e).nsid (cond z (pairs_after (read_command e) b s.pairs) s.pairs) ss
      go true = refl
      go false = sym (with_same (read_command e).nsid ss)

  call_holds : Holds (told ss (commanding p e c b) (run m (commanding p e c b))) (run m (commanding p e c b)).after.memory
  call_holds = rw (call_told, served) (serve_holds p (read_command e) (lend c b m) ss h (entry_key e e64))

  call_kept : Kept ss m (run m (commanding p e c b)).after.memory
  call_kept = rw served (serve_kept p (read_command e) (lend c b m) ss h (entry_key e e64))

-- ---- formatting

few : (l : Layout) → Few (halves l)
few (one h) = record { one = omega arith; two = omega arith }
few (two h k) = record { one = omega arith; two = omega arith }
few (fields s id) = record { one = omega arith; two = omega arith }

-- where it succeeds it is a formatting with the numbers that it is given
pub begin_is : (l : Layout) (m : Memory) → (begin l m).number ≡ 0 → begin l m ≡ format (halves l) m
begin_is (one h) m e = refl
begin_is (two h k) m e = refl
begin_is (fields s id) m e = create_is s id m e

-- else memory stays
pub begin_refused : (l : Layout) (m : Memory) → eqb (begin l m).number 0 ≡ false → (begin l m).after ≡ m
unfolding format
begin_refused (one h) m e = format_refused (h ∷ []) m e
begin_refused (two h k) m e = format_refused (h ∷ k ∷ []) m e
begin_refused (fields s id) m e = create_refused s id m e

module _ (l : Layout) (m : Memory) where
  pub begin_holds : (begin l m).number ≡ 0 → Holds (blanks (halves l)) (begin l m).after
  begin_holds e =
      let f = begin_is l m e in
      rw f (format_holds (halves l) m (few l) (ap (λ (x : Formatted). x.number) (sym f) ∙ e))

  begin_told : (ss : List Namespace) → Holds ss m → Holds (cond (eqb (begin l m).number 0) (blanks (halves l)) ss) (begin l m).after
  begin_told ss h = go (eqb (begin l m).number 0) refl
    where
      go : (z : Bool) → eqb (begin l m).number 0 ≡ z → Holds (cond z (blanks (halves l)) ss) (begin l m).after
      go true e = begin_holds (eqb-true _ _ e)
      go false e = rw (begin_refused l m e) h

  pub begin_kept : (begin l m).number ≡ 0 → Kept (blanks (halves l)) m (begin l m).after
  unfolding format
  begin_kept e =
      let f = begin_is l m e in
      let n = ap (λ (x : Formatted). x.number) (sym f) ∙ e in
      rw (f, n) (over_kept (blanks (halves l)) m (blanks_within (halves l) (length m.directory) (length m.values) (few l) n))

-- ---- a question

-- on an image it goes by the namespace that it names, and by nothing else of memory
pub ask_is : {ss : List Namespace} {m : Memory} (q : Question) → Holds ss m → ask m q ≡ tell (at (id_of q) ss) q
unfolding room identify
ask_is (polling n) h = ap (λ (d : Described). filled (room_of d)) (describe_as n h)
ask_is (identifying p n) h = ap (λ (d : Described). paged (identify_of d p)) (describe_as n h)
ask_is (knowing k n) h = ap seen (known_held k n h)

-- ---- any call

-- the memory after a command holds what is told of it, and its bytes past the needed part are kept
told_command : (ss : List Namespace) (m : Memory) (p : Post) (e c b : List ℕ) → Holds ss m
    → Holds (told ss (commanding p e c b) (run m (commanding p e c b))) (run m (commanding p e c b)).after.memory
    × Kept ss m (run m (commanding p e c b)).after.memory
told_command ss m p e c b h =
    let l = lend c b m in
    let kept : Kept ss m m = record { directory = refl; values = refl } in
    elim (known (eqb (length e) 64)) [
      | fails f ↦ rw (command_1 p e l f) (h, kept)
      | holds f ↦
          elim (known (eqb (length c) 16)) [
            | fails g ↦ rw (command_2 p e l f g) (h, kept)
            | holds g ↦
                let e64 = eqb-true (length e) 64 f in
                let c16 = eqb-true (length c) 16 g in
                (call_holds ss m p e c b h e64 c16, call_kept ss m p e c b h e64 c16)
          ]
    ]

pub command_kept : (ss : List Namespace) (m : Memory) (p : Post) (e c b : List ℕ) → Holds ss m
    → Kept ss m (run m (commanding p e c b)).after.memory
command_kept ss m p e c b h = (told_command ss m p e c b h).1

pub told_call : (ss : List Namespace) (m : Memory) (x : Call) → Holds ss m → Holds (told ss x (run m x)) (run m x).after.memory
told_call ss m (commanding p e c b) h = (told_command ss m p e c b h).0
told_call ss m (formatting l) h = begin_told l m ss h
told_call ss m (asking q) h = h

pub told_calls : (ss : List Namespace) (m : Memory) (xs : List Call) → Holds ss m → Holds (stored ss m xs) (leaves m xs)
told_calls ss m [] h = h
told_calls ss m (x ∷ xs) h = told_calls (told ss x (run m x)) (run m x).after.memory xs (told_call ss m x h)
