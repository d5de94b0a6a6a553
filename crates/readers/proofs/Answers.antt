-- On memory that is the image of namespaces, what a call hands back goes by the one that it names; what it changes, by its own answer.
-- Assumes nothing.
use mathlib.Core.Path.{◌≡◌, refl, sym, ap, ◌∙◌}
use mathlib.Core.Bool.{Bool, true, false, cond, ◌&&◌}
use mathlib.Core.List.{List, []}
use Prim.Native.Nat.{ℕ}
use lib.ListN.{length}
use lib.Dec.{eqb}
use borrow.Author.Tests.{eqb-true}
use Rattle.octets.proofs.TestLaws.{known, holds, fails, contrary}
use Rattle.wire.specs.Entry.{read_command}
use Rattle.wire.specs.Completion.{read_completion, Post}
use Rattle.store.specs.Namespace.{Namespace}
use Rattle.memory.specs.Namespaces.{at, with}
use Rattle.memory.specs.Memory.{Memory}
use Rattle.memory.proofs.NameLaws.{at_other, with_other}
use Rattle.memory.proofs.ImageLaws.{Holds}
use Rattle.commands.specs.Answer.{answer, pairs_after}
use Rattle.commands.specs.Command.{completion_of, Outcome}
use Rattle.commands.proofs.CommandLaws.{serve_is, command_0, command_1, command_2}
use Rattle.module.specs.History.{id_of, tell, Call, formatting, commanding, asking, lend, run, succeeded, changed, told}
use Rattle.module.proofs.HistoryLaws.{ask_is}
use Rattle.farms.specs.Sides.{real}
use Rattle.farms.specs.Alone.{refusal}
use Rattle.readers.specs.Orders.{Given, returned, learnt, given, named}

-- ---- what a call hands back

-- a command on the namespace s
abbrev pub replied : Post → List ℕ → List ℕ → List ℕ → Namespace → Given
replied p e c b s =
    let a = answer true s (read_command e) b in
    cond (eqb (refusal e c) 0) (returned 0 (completion_of p (read_command e) a.status a.dword0) a.buffer) (returned (refusal e c) c b)

-- any call of a farm
abbrev alone : Call → Namespace → Given
alone (formatting l) s = returned 0 [] []
alone (commanding p e c b) s = replied p e c b s
alone (asking q) s = learnt (tell s q)

module _ (ss : List Namespace) (m : Memory) (h : Holds ss m) where
  pub replied_is : (p : Post) (e c b : List ℕ) → given real m (commanding p e c b) ≡ replied p e c b (at (read_command e).nsid ss)
  replied_is p e c b =
      let l = lend c b m in
      elim (known (eqb (length e) 64)) [
        | fails f ↦ rw (command_1 p e l f, f)
        | holds f ↦
            elim (known (eqb (length c) 16)) [
              | fails g ↦ rw (command_2 p e l f g, f, g)
              | holds g ↦ rw (command_0 p e l f g, serve_is p (read_command e) l ss h, f, g)
            ]
      ]

  pub given_is : (n : ℕ) (x : Call) → named n x ≡ true → given real m x ≡ alone x (at n ss)
  given_is n (formatting l) e = absurd (contrary e)
  given_is n (commanding p e c b) f =
      replied_is p e c b ∙ ap (λ (j : ℕ). replied p e c b (at j ss)) (sym (eqb-true n (read_command e).nsid f))
  given_is n (asking q) f =
      ap learnt (ask_is q h) ∙ ap (λ (j : ℕ). alone (asking q) (at j ss)) (sym (eqb-true n (id_of q) f))

-- so it is the same wherever n names the same
pub given_same : (n : ℕ) (ss ts : List Namespace) (m k : Memory) (x : Call) → Holds ss m → Holds ts k → at n ss ≡ at n ts → named n x ≡ true
    → given real m x ≡ given real k x
given_same n ss ts m k x h g e f = given_is ss m h n x f ∙ ap (alone x) e ∙ sym (given_is ts k g n x f)

-- the status in its completion
abbrev pub status_in : Given → ℕ
status_in (returned n c b) = (read_completion c).status
status_in (learnt r) = 0

-- ---- what it tells of what is stored

abbrev done : Given → Bool
done (returned n c b) = eqb n 0 && eqb (read_completion c).status 0
done (learnt r) = false

-- what is told goes by what is handed back
pub told_given : (n : ℕ) (ss : List Namespace) (m k : Memory) (x : Call) → named n x ≡ true → given real m x ≡ given real k x
    → told ss x (run m x) ≡ told ss x (run k x)
told_given n ss m k (formatting l) f e = absurd (contrary f)
told_given n ss m k (commanding p e c b) f g = ap (λ (v : Given). cond (done v) (changed (read_command e) b ss) ss) g
told_given n ss m k (asking q) f e = refl

-- another's call leaves what i names
pub told_other : (i j : ℕ) (ss : List Namespace) (x : Call) (o : Outcome) → ¬ (i ≡ j) → named j x ≡ true → at i (told ss x o) ≡ at i ss
told_other i j ss (formatting l) o d f = absurd (contrary f)
told_other i j ss (asking k) o d f = refl
told_other i j ss (commanding p e c b) o d f = go (succeeded o)
  where
    go : (z : Bool) → at i (cond z (changed (read_command e) b ss) ss) ≡ at i ss
    go true = at_other i (read_command e).nsid _ ss (λ q. d (q ∙ sym (eqb-true j (read_command e).nsid f)))
    go false = refl

-- and calls of two tell the same in either order
pub told_either : (i j : ℕ) (ss : List Namespace) (x y : Call) (o q : Outcome) → ¬ (i ≡ j) → named i x ≡ true → named j y ≡ true
    → told (told ss x o) y q ≡ told (told ss y q) x o
told_either i j ss (formatting l) y o q d f g = absurd (contrary f)
told_either i j ss (asking n) y o q d f g = refl
told_either i j ss (commanding p e c b) (formatting l) o q d f g = absurd (contrary g)
told_either i j ss (commanding p e c b) (asking n) o q d f g = refl
told_either i j ss (commanding p e c b) (commanding r s t u) o q d f g = go (succeeded o) (succeeded q)
  where
    n : ℕ
    n = (read_command e).nsid

    k : ℕ
    k = (read_command s).nsid

    apart : ¬ (n ≡ k)
    apart z = d (eqb-true i n f ∙ z ∙ sym (eqb-true j k g))

    one : List Namespace → List Namespace
    one = changed (read_command e) b

    other : List Namespace → List Namespace
    other = changed (read_command s) u

    go : (y z : Bool) → cond z (other (cond y (one ss) ss)) (cond y (one ss) ss) ≡ cond y (one (cond z (other ss) ss)) (cond z (other ss) ss)
    go false z = refl
    go true false = refl
    go true true =
        let v = ap (λ (t : Namespace). pairs_after (read_command s) u t.pairs) (at_other k n _ ss (λ z. apart (sym z))) in
        let w = ap (λ (t : Namespace). pairs_after (read_command e) b t.pairs) (at_other n k _ ss apart) in
        ap (λ m. with k m (one ss)) v ∙ with_other k n _ _ ss (λ z. apart (sym z)) ∙ sym (ap (λ m. with n m (other ss)) w)
