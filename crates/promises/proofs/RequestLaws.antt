-- Memory after a formatting and calls holds what is stored; of a request that nothing before step i refuses, the later rows decide the
-- status. Assumes nothing.
use mathlib.Core.Path.{◌≡◌, sym, ap, ◌∙◌}
use mathlib.Core.Bool.{true}
use mathlib.Core.List.{List, ◌∷◌}
use Prim.Native.Nat.{ℕ, ◌^◌, ◌<◌}
use lib.ListN.{length}
use borrow.Author.Tests.{eqb-true, eq-eqb, not-false}
use Rattle.octets.specs.Tests.{first_of}
use Rattle.octets.proofs.TestLaws.{None, none_holds, none_first, known, holds, fails}
use Rattle.keys.proofs.OrderLaws.{Rising}
use Rattle.wire.specs.Entry.{not_entry}
use Rattle.wire.specs.Completion.{not_completion}
use Rattle.store.specs.Maps.{keys}
use Rattle.store.specs.Namespace.{Namespace}
use Rattle.store.proofs.NamespaceLaws.{Within as One}
use Rattle.memory.specs.Namespaces.{held, at}
use Rattle.rules.specs.Steps.{steps, steps_to_h, steps_from_i, status_of}
use Rattle.commands.specs.Answer.{Answer, answer}
use Rattle.memory.specs.Memory.{Memory}
use Rattle.rules.proofs.StepLaws.{PassedToH, passed_to_h}
use Rattle.commands.proofs.AnswerLaws.{answer_status}
use Rattle.memory.proofs.NameLaws.{at_id, at_within, at_none}
use Rattle.memory.proofs.ImageLaws.{Holds}
use Rattle.formatting.specs.Formatting.{blanks}
use Rattle.module.proofs.HistoryLaws.{begin_holds, told_calls, call_number, call_status, call_dword0, call_buffer}
use Rattle.module.specs.History.{halves, Call}
use Rattle.promises.specs.Histories.{Start, begun, memory_after, stored_after}
use Rattle.promises.specs.Requests.{Request, sends, asked, view_at, stock_at, refusal, Gives}

pub holds_after : (a : Start) (xs : List Call) → (begun a).number ≡ 0 → Holds (stored_after a xs) (memory_after a xs)
holds_after a xs ok =
    told_calls (blanks (halves a.layout)) (begun a).after xs (begin_holds a.layout a.lent ok)

-- ---- the namespace that n names

-- its keys rise, whether it is there or not
pub at_rising : (n : ℕ) (ss : List Namespace) {m : Memory} → Holds ss m → Rising (keys (at n ss).pairs)
at_rising n ss h =
    elim (known (held n ss)) [
      | holds q ↦ (at_within n ss h.within.each q).rising
      | fails q ↦ rw (at_none n ss q) tt
    ]

-- ---- a request that nothing before step i refuses

module _ (s : Namespace) (x : Request) (e : refusal s x ≡ 0) where
  none : None (not_entry x.entry ∷ not_completion x.completion ∷ steps_to_h (view_at s x) (asked x))
  unfolding refusal
  none = none_holds (not_entry x.entry ∷ not_completion x.completion ∷ steps_to_h (view_at s x) (asked x)) tt e

  pub entry_64 : length x.entry ≡ 64
  entry_64 = eqb-true (length x.entry) 64 (not-false _ none.0)

  pub completion_16 : length x.completion ≡ 16
  completion_16 = eqb-true (length x.completion) 16 (not-false _ none.1.0)

  pub early : PassedToH (view_at s x) (asked x)
  early = passed_to_h (view_at s x) (asked x) none.1.1

  pub later_steps : status_of true s (asked x) (length x.buffer) ≡ first_of (steps_from_i (stock_at s x) (asked x))
  unfolding status_of steps
  later_steps = none_first (steps_to_h (view_at s x) (asked x)) (steps_from_i (stock_at s x) (asked x)) none.1.1

-- ---- what it is answered on memory that holds ss, where it names n

module _ (n : ℕ) (ss : List Namespace) (m : Memory) (x : Request) (h : Holds ss m) (i : (asked x).nsid ≡ n) (e : refusal (at n ss) x ≡ 0) where
  abbrev s : Namespace
  s = at n ss

  -- then there is such a namespace
  pub named_one : One s
  named_one =
      let q : held n ss ≡ true = sym (at_id n ss) ∙ eq-eqb n s.id (sym i ∙ (early s x e).same) in
      at_within n ss h.within.each q

  pub gives : (a : Answer) → answer true s (asked x) x.buffer ≡ a → a.dword0 < 256 ^ 4 → Gives a.status a.dword0 a.buffer (sends m x)
  gives a is small =
      let same : at (asked x).nsid ss ≡ s = ap (λ (j : ℕ). at j ss) i in
      let given : answer true (at (asked x).nsid ss) (asked x) x.buffer ≡ a = rw same is in
      let e64 = entry_64 s x e in
      let c16 = completion_16 s x e in
      let st = sym (answer_status true (at (asked x).nsid ss) (asked x) x.buffer) ∙ ap (λ (a : Answer). a.status) given in
      record {
        number = call_number ss m x.post x.entry x.completion x.buffer h e64 c16;
        status = call_status ss m x.post x.entry x.completion x.buffer h e64 c16 ∙ st;
        dword0 = rw given at (call_dword0 ss m x.post x.entry x.completion x.buffer h e64 c16) small;
        buffer = rw given at (call_buffer ss m x.post x.entry x.completion x.buffer h e64 c16);
      }
