-- Only Store and Delete change memory, whatever the memory. Assumes nothing.
use mathlib.Core.Path.{◌≡◌, refl, sym, ap, ◌∙◌}
use mathlib.Core.Bool.{Bool, true, false, cond}
use mathlib.Core.List.{List, [], ◌∷◌}
use Prim.Native.Nat.{ℕ}
use lib.Dec.{eqb}
use lib.ListN.{length}
use borrow.Author.Tests.{eqb-true}
use Rattle.octets.proofs.TestLaws.{neither, contrary}
use Rattle.wire.specs.declared.entries.Command.{Command}
use Rattle.wire.specs.Entry.{read_command, write_command, is_store, is_delete}
use Rattle.store.specs.Namespace.{Namespace}
use Rattle.memory.specs.Namespaces.{at}
use Rattle.memory.specs.Memory.{Memory, image_over, namespaces_of, legal}
use Rattle.memory.proofs.NameLaws.{with_same}
use Rattle.memory.proofs.ImageLaws.{Holds, legal_holds, holds_over}
use Rattle.rules.specs.Steps.{status_of}
use Rattle.commands.specs.Answer.{answer, answer_at}
use Rattle.wire.specs.Completion.{Post}
use Rattle.commands.specs.Command.{Lent, serve}
use Rattle.module.specs.History.{commanding, lend, run}
use Rattle.rules.proofs.StepLaws.{illegal}
use Rattle.commands.proofs.CommandLaws.{serve_is, serve_refused}
use Rattle.promises.specs.Histories.{memory_after, writes}
use Rattle.promises.specs.Requests.{call, sends}
use Rattle.promises.proofs.AnyMemory.{any_served}
use Rattle.lending.proofs.Refusals.{refusals}
use Rattle.promises.proofs.Examples.{start, A, store, exist}

-- a command that is neither keeps the pairs
keeps_pairs : (s : Namespace) (c : Command) (b : List ℕ) → is_store c.opcode ≡ false → is_delete c.opcode ≡ false → (answer true s c b).pairs ≡ s.pairs
unfolding answer
keeps_pairs s c b f g = go (eqb (status_of true s c (length b)) 0) refl
  where
    go : (z : Bool) → eqb (status_of true s c (length b)) 0 ≡ z → (answer_at (status_of true s c (length b)) c b s.pairs).pairs ≡ s.pairs
    go true e = rw (e, f, g)
    go false e = rw e

-- and writes the image that is there already
keeps_memory : (p : Post) (c : Command) (l : Lent) → writes c.opcode ≡ false → (serve p c l).memory ≡ l.memory
keeps_memory p c l o = go (legal l.memory) refl
  where
    m : Memory
    m = l.memory

    ss : List Namespace
    ss = namespaces_of m

    s : Namespace
    s = at c.nsid ss

    kept : Holds ss m → (z : Bool) → cond z (image_over ss m) m ≡ m
    kept h true = holds_over h
    kept h false = refl

    go : (x : Bool) → legal m ≡ x → (serve p c l).memory ≡ m
    go true e =
        let h = legal_holds m e in
        let n = neither _ _ o in
        rw (serve_is p c l ss h, keeps_pairs s c l.buffer n.0 n.1, with_same c.nsid ss) (kept h (eqb (answer true s c l.buffer).status 0))
    go false e = (serve_refused p c l (rw (e, illegal s c (length l.buffer)))).1

-- ---- the promise

pub only_answers : (m : Memory) (p : Post) (e c b : List ℕ) → writes (read_command e).opcode ≡ false
    → (run m (commanding p e c b)).after.memory ≡ m
only_answers m p e c b o = go (eqb (run m (commanding p e c b)).number 0) refl
  where
    go : (z : Bool) → eqb (run m (commanding p e c b)).number 0 ≡ z → (run m (commanding p e c b)).after.memory ≡ m
    go true f = rw (any_served m p e c b (eqb-true _ 0 f)) (keeps_memory p (read_command e) (lend c b m) o)
    go false f = ap (λ (l : Lent). l.memory) ((refusals m (commanding p e c b)).numbered (λ n. contrary (sym f ∙ rw n)))

-- ---- an instance: Exist where A is stored

same_memory : (sends (memory_after (start 7) (call (store A (5 ∷ [])) ∷ [])) (exist A)).after.memory ≡ memory_after (start 7) (call (store A (5 ∷ [])) ∷ [])
unfolding read_command write_command
same_memory = only_answers (memory_after (start 7) (call (store A (5 ∷ [])) ∷ [])) (exist A).post (exist A).entry (exist A).completion [] refl
