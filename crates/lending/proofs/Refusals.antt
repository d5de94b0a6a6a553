-- A refusal leaves what it was lent: by its number all of it, by its status all but the completion; over every call, on any memory.
-- Assumes nothing.
use mathlib.Core.Path.{◌≡◌, refl, sym, ap, ◌∙◌}
use mathlib.Core.Bool.{Bool, true, false}
use mathlib.Core.List.{List, []}
use Prim.Native.Nat.{ℕ}
use native.Mathlib.Omega.{arith}
use lib.ListN.{length, replicate}
use lib.Dec.{eqb}
use borrow.Author.Tests.{eqb-true}
use Rattle.octets.specs.Octets.{part, number}
use Rattle.octets.proofs.TestLaws.{contrary, refuted}
use Rattle.wire.specs.Entry.{read_command}
use Rattle.wire.specs.Completion.{read_completion, Post}
use Rattle.memory.specs.Memory.{Memory}
use Rattle.maps.specs.Describe.{describe}
use Rattle.formatting.specs.Formatting.{half}
use Rattle.identify.specs.Identify.{identify}
use Rattle.commands.specs.Command.{Lent, Outcome}
use Rattle.module.specs.History.{Question, polling, identifying, knowing, ask, number_in, page_in}
use Rattle.module.specs.History.{one, begin, Call, formatting, commanding, asking, lend, run, status}
use Rattle.commands.proofs.CommandLaws.{command_0, command_1, command_2, serve_refused}
use Rattle.module.proofs.HistoryLaws.{begin_refused}
use Rattle.host.specs.Build as Build
use Rattle.promises.specs.Agreement.{Ask, builds}
use Rattle.promises.specs.Histories.{begun}
use Rattle.promises.specs.Requests.{Request, call, sends}
use Rattle.lending.specs.Calls.{page_for, lent_to, Spares}
use Rattle.promises.proofs.AnyMemory.{any_served, any_status}
use Rattle.promises.proofs.Examples.{on_memory, start, B, store}

-- a question that is refused leaves the slice that it is lent
asked_left : (m : Memory) (q : Question) → ¬ (number_in (ask m q) ≡ 0) → page_in (ask m q) ≡ page_for q
unfolding identify
asked_left m (polling n) h = refl
asked_left m (knowing k n) h = refl
asked_left m (identifying p n) h = go (eqb (length p) 4096) refl (eqb (describe n m).number 0) refl
  where
    go : (x : Bool) → eqb (length p) 4096 ≡ x → (y : Bool) → eqb (describe n m).number 0 ≡ y → (identify n p m).page ≡ p
    go false f y g = rw f
    go true f false g = rw (f, g)
    go true f true g = absurd (h (rw f (eqb-true (describe n m).number 0 g)))

numbered_left : (m : Memory) (x : Call) → ¬ ((run m x).number ≡ 0) → (run m x).after ≡ lent_to m x
numbered_left m (formatting l) h = ap (lend [] []) (begin_refused l m (refuted (eqb (begin l m).number 0) (λ e. h (eqb-true _ 0 e))))
numbered_left m (commanding p e c b) h = go (eqb (length e) 64) refl (eqb (length c) 16) refl
  where
    go : (x : Bool) → eqb (length e) 64 ≡ x → (y : Bool) → eqb (length c) 16 ≡ y → (run m (commanding p e c b)).after ≡ lend c b m
    go false f y g = ap (λ (o : Outcome). o.after) (command_1 p e (lend c b m) f)
    go true f false g = ap (λ (o : Outcome). o.after) (command_2 p e (lend c b m) f g)
    go true f true g = absurd (h (ap (λ (o : Outcome). o.number) (command_0 p e (lend c b m) f g)))
numbered_left m (asking q) h = ap (λ p. lend [] p m) (asked_left m q h)

refused_left : (m : Memory) (p : Post) (e c b : List ℕ) → ¬ (status (run m (commanding p e c b)) ≡ 0)
    → ((run m (commanding p e c b)).after.buffer ≡ b) × ((run m (commanding p e c b)).after.memory ≡ m)
refused_left m p e c b h = go (eqb (run m (commanding p e c b)).number 0) refl
  where
    o : Outcome
    o = run m (commanding p e c b)

    go : (z : Bool) → eqb o.number 0 ≡ z → (o.after.buffer ≡ b) × (o.after.memory ≡ m)
    go true f =
        let ok = eqb-true o.number 0 f in
        let r = serve_refused p (read_command e) (lend c b m) (refuted _ (λ g. h (any_status m p e c b ok ∙ eqb-true _ 0 g))) in
        let s = any_served m p e c b ok in
        (ap (λ (k : Outcome). k.after.buffer) s ∙ r.0, ap (λ (k : Outcome). k.after.memory) s ∙ r.1)
    go false f =
        let l = numbered_left m (commanding p e c b) (λ n. contrary (sym f ∙ rw n)) in
        (ap (λ (k : Lent). k.buffer) l, ap (λ (k : Lent). k.memory) l)

-- ---- the promise

pub refusals : (m : Memory) (x : Call) → Spares (lent_to m x) (run m x)
unfolding read_completion part number
refusals m (formatting l) = record { numbered = numbered_left m (formatting l); refused = λ h. absurd (h refl) }
refusals m (commanding p e c b) = record { numbered = numbered_left m (commanding p e c b); refused = refused_left m p e c b }
refusals m (asking q) = record { numbered = numbered_left m (asking q); refused = λ h. absurd (h refl) }

-- the host's builder leaves the entry that it refuses to build
pub builder_refusals : (e : List ℕ) (a : Ask) → ¬ ((builds e a).number ≡ 0) → (builds e a).entry ≡ e
unfolding Build.build
builder_refusals e a h = rw (refuted (eqb (builds e a).number 0) (λ f. h (eqb-true _ 0 f)))

-- ---- instances: a Store that step j refuses, a formatting that number 3 refuses, and an opcode that the builder refuses

abbrev full : Request
full = store B (replicate 64 0)

says : (status (sends (begun (start 7)).after full) ≡ 0x81) × ((run (start 7).lent (formatting (one (half 16 1 64)))).number ≡ 3)
unfolding on_memory
says = (refl, refl)

left : ((sends (begun (start 7)).after full).after.buffer ≡ replicate 64 0) × ((sends (begun (start 7)).after full).after.memory ≡ (begun (start 7)).after)
left = (refusals (begun (start 7)).after (call full)).refused (λ e. let z = sym says.0 ∙ e in omega arith)

unformatted : (run (start 7).lent (formatting (one (half 16 1 64)))).after ≡ lend [] [] (start 7).lent
unformatted = (refusals (start 7).lent (formatting (one (half 16 1 64)))).numbered (λ e. let z = sym says.1 ∙ e in omega arith)

unbuilt : (builds (replicate 64 9) (record { opcode = 0x07; cid = 0; nsid = 1; key = B; dword10 = 0; options = 0 })).entry ≡ replicate 64 9
unfolding Build.build
unbuilt = builder_refusals (replicate 64 9) (record { opcode = 0x07; cid = 0; nsid = 1; key = B; dword10 = 0; options = 0 }) (λ e. omega arith)
