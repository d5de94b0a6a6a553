-- Bytes past the needed part change no outcome: on memories that differ in them alone each call gives the same number, completion and
-- data buffer, a poll the same used room, and memories that differ in them alone. Assumes nothing.
use mathlib.Core.Path.{◌≡◌, refl, sym, ap, ◌∙◌}
use mathlib.Core.Bool.{Bool, true, false}
use mathlib.Core.List.{List, [], ◌∷◌}
use Prim.Native.Nat.{ℕ}
use lib.Dec.{eqb}
use lib.ListN.{length}
use borrow.Author.Tests.{eqb-true}
use Rattle.octets.proofs.TestLaws.{known as split, holds, fails, contrary}
use Rattle.wire.specs.declared.entries.Command.{Command}
use Rattle.wire.specs.Entry.{read_command}
use Rattle.store.specs.Maps.{Pair}
use Rattle.store.specs.Namespace.{Namespace}
use Rattle.memory.specs.Namespaces.{slots_of, size_of, with}
use Rattle.memory.proofs.NameLaws.{with_total}
use Rattle.memory.specs.Memory.{Memory, needed, needed_values, namespaces_of, legal}
use Rattle.memory.proofs.ImageLaws.{Holds, legal_holds}
use Rattle.rules.specs.Steps.{steps, status_of}
use Rattle.formatting.specs.declared.measures.Half.{Half}
use Rattle.formatting.specs.Formatting.{blanks, format_steps, format}
use Rattle.commands.specs.Answer.{answer}
use Rattle.wire.specs.Completion.{Post}
use Rattle.commands.specs.Command.{completion_of, Lent, respond, serve, outcome}
use Rattle.commands.proofs.CommandLaws.{entry_key, serve_is, serve_holds, command_0, command_1, command_2}
use Rattle.maps.specs.Describe.{Described, describe}
use Rattle.maps.proofs.DescribeLaws.{describe_held}
use Rattle.room.specs.Room.{room_of, room}
use Rattle.identify.specs.Identify.{identify_of, identify, asked, create}
use Rattle.module.specs.History.{Layout, one, two, fields, halves, begin, Question, polling, identifying, knowing, filled, paged, seen, ask, number_in, page_in}
use Rattle.module.specs.History.{Call, formatting, commanding, asking, lend, run}
use Rattle.module.proofs.HistoryLaws.{begin_refused, begin_holds}
use Rattle.promises.specs.Histories.{SameNeeded, begun}
use Rattle.promises.specs.Requests.{call}
use Rattle.lending.specs.Calls.{spaces_for, SameOutcome}
use Rattle.lending.proofs.AlikeLaws.{Alike, alike_holds, alike_turned, alike_legal, short_same}
use Rattle.lending.proofs.PastLooks.{past_known}
use Rattle.promises.proofs.Examples.{on_memory, start, A, store}

-- what two memories hold, with other pairs in one namespace, is needed as before
kept_needed : (i : ℕ) (ps : List Pair) (ss : List Namespace) {x y : Memory} → Holds (with i ps ss) x → Holds (with i ps ss) y → SameNeeded ss x y
kept_needed i ps ss h g =
    let d = with_total slots_of i ps (λ s. refl) ss in
    let v = with_total size_of i ps (λ s. refl) ss in
    record { directory = rw d at (h.directory ∙ sym g.directory); values = rw v at (h.values ∙ sym g.values) }

-- ---- a command

-- on memory that is not legal, which stays
illegal_served : (p : Post) (k : Command) (c b : List ℕ) (m : Memory) → legal m ≡ false
    → serve p k (lend c b m) ≡ lend (completion_of p k 0x06 0) b m
unfolding serve respond answer status_of steps
illegal_served p k c b m e = rw e

module _ (m n : Memory) (a : Alike m n) (p : Post) (e c b : List ℕ) where
  abbrev Same : Lent → Lent → Type 0
  Same k l = SameOutcome (namespaces_of m) (outcome 0 k) (outcome 0 l)

  abbrev k : Command
  k = read_command e

  served : length e ≡ 64 → Same (serve p k (lend c b m)) (serve p k (lend c b n))
  served e64 = go (legal m) refl (legal n) refl
    where
      ss : List Namespace
      ss = namespaces_of m

      held : Holds ss m → Holds ss n → Same (serve p k (lend c b m)) (serve p k (lend c b n))
      held h g =
          let f = serve_is p k (lend c b m) ss h in
          let d = serve_is p k (lend c b n) ss g in
          let u = serve_holds p k (lend c b m) ss h (entry_key e e64) in
          let v = serve_holds p k (lend c b n) ss g (entry_key e e64) in
          record {
            number = refl;
            completion = ap (λ (l : Lent). l.completion) f ∙ sym (ap (λ (l : Lent). l.completion) d);
            buffer = ap (λ (l : Lent). l.buffer) f ∙ sym (ap (λ (l : Lent). l.buffer) d);
            memory = kept_needed k.nsid _ ss u v;
          }

      go : (x : Bool) → legal m ≡ x → (y : Bool) → legal n ≡ y → Same (serve p k (lend c b m)) (serve p k (lend c b n))
      go true f y g = let h = legal_holds m f in held h (alike_holds h a)
      go false f true g = absurd (contrary (sym f ∙ alike_legal (alike_turned a) g))
      go false f false g =
          rw (illegal_served p k c b m f, illegal_served p k c b n g) (record { number = refl; completion = refl; buffer = refl; memory = a })

  past_command : SameOutcome (namespaces_of m) (run m (commanding p e c b)) (run n (commanding p e c b))
  past_command = go (eqb (length e) 64) refl (eqb (length c) 16) refl
    where
      go : (x : Bool) → eqb (length e) 64 ≡ x → (y : Bool) → eqb (length c) 16 ≡ y
          → SameOutcome (namespaces_of m) (run m (commanding p e c b)) (run n (commanding p e c b))
      go false f y g =
          rw (command_1 p e (lend c b m) f, command_1 p e (lend c b n) f) (record { number = refl; completion = refl; buffer = refl; memory = a })
      go true f false g =
          rw (command_2 p e (lend c b m) f g, command_2 p e (lend c b n) f g)
          (record { number = refl; completion = refl; buffer = refl; memory = a })
      go true f true g = rw (command_0 p e (lend c b m) f g, command_0 p e (lend c b n) f g) (served (eqb-true (length e) 64 f))

-- ---- a formatting

format_number : (hs : List Half) (m n : Memory) → SameNeeded (blanks hs) m n → (format hs m).number ≡ (format hs n).number
unfolding format format_steps
format_number hs m n a =
    rw (
      short_same (needed (blanks hs)) m.directory n.directory a.directory,
      short_same (needed_values (blanks hs)) m.values n.values a.values,
    )

module _ (l : Layout) (m n : Memory) (a : SameNeeded (blanks (halves l)) m n) where
  same_number : (begin l m).number ≡ (begin l n).number
  unfolding create
  same_number = go l a
    where
      go : (l : Layout) → SameNeeded (blanks (halves l)) m n → (begin l m).number ≡ (begin l n).number
      go (one h) b = format_number (h ∷ []) m n b
      go (two h k) b = format_number (h ∷ k ∷ []) m n b
      go (fields s id) b =
          elim (split (eqb (length s) 512)) [ holds q ↦ rw q (format_number (asked s id ∷ []) m n b) | fails q ↦ rw q ]

  same_formatted : SameNeeded (blanks (halves l)) (begin l m).after (begin l n).after
  same_formatted = go (eqb (begin l m).number 0) refl
    where
      go : (z : Bool) → eqb (begin l m).number 0 ≡ z → SameNeeded (blanks (halves l)) (begin l m).after (begin l n).after
      go true e =
          let ok = eqb-true (begin l m).number 0 e in
          let h = begin_holds l m ok in
          let g = begin_holds l n (sym same_number ∙ ok) in
          record { directory = h.directory ∙ sym g.directory; values = h.values ∙ sym g.values }
      go false e = rw (begin_refused l m e, begin_refused l n (rw same_number at e)) a

-- ---- a question

past_described : (i : ℕ) (m n : Memory) → SameNeeded (namespaces_of m) m n → describe i m ≡ describe i n
unfolding describe
past_described i m n a = go (legal m) refl (legal n) refl
  where
    go : (x : Bool) → legal m ≡ x → (y : Bool) → legal n ≡ y → describe i m ≡ describe i n
    go true f y g = let h = legal_holds m f in describe_held i h ∙ sym (describe_held i (alike_holds h a))
    go false f true g = absurd (contrary (sym f ∙ alike_legal (alike_turned a) g))
    go false f false g = rw (f, g)

pub past_told : (m n : Memory) (q : Question) → SameNeeded (namespaces_of m) m n → ask m q ≡ ask n q
unfolding room identify
past_told m n (polling i) a = ap (λ (d : Described). filled (room_of d)) (past_described i m n a)
past_told m n (identifying p i) a = ap (λ (d : Described). paged (identify_of d p)) (past_described i m n a)
past_told m n (knowing k i) a = ap seen (past_known a k i)

-- ---- the promise

pub past : (m n : Memory) (x : Call) → SameNeeded (spaces_for m x) m n → SameOutcome (spaces_for m x) (run m x) (run n x)
past m n (formatting l) a = record { number = same_number l m n a; completion = refl; buffer = refl; memory = same_formatted l m n a }
past m n (commanding p e c b) a = past_command m n a p e c b
past m n (asking q) a = let t = past_told m n q a in record { number = ap number_in t; completion = refl; buffer = ap page_in t; memory = a }

-- ---- an instance: a Store of A on two memories that end in 7 and in 9

alike : (needed_values (namespaces_of (begun (start 7)).after) ≡ 64) × Alike (begun (start 7)).after (begun (start 9)).after
unfolding on_memory
alike = (refl, record { directory = refl; values = refl })

same_store : SameOutcome (namespaces_of (begun (start 7)).after) (run (begun (start 7)).after (call (store A (5 ∷ []))))
    (run (begun (start 9)).after (call (store A (5 ∷ []))))
same_store = past (begun (start 7)).after (begun (start 9)).after (call (store A (5 ∷ []))) alike.1
