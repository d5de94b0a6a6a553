-- What the check finds is what is told of a namespace; and memory that holds namespaces tells each. Assumes nothing.
use mathlib.Core.Path.{◌≡◌, sym, ap, ◌∙◌}
use mathlib.Core.Bool.{true, cond}
use mathlib.Core.List.{List}
use Rattle.std.specs.Prelude.{Option, Some, None, Ok, Err}
use Rattle.std.specs.Option.{ok_or}
use Rattle.refusals.specs.declared.numbers.Refusal.{Refusal}
use Rattle.refusals.specs.declared.numbers.Refusal.TheVariants.{Illegal}
use Rattle.refusals.specs.Refusals.{number_of}
use Prim.Native.Nat.{ℕ}
use borrow.Author.Tests.{eq-eqb}
use Rattle.store.specs.declared.namespaces.Label.{Label}
use Rattle.store.specs.Namespace.{Namespace}
use Rattle.checking.specs.declared.checks.Checked.{Checked}
use Rattle.memory.specs.Namespaces.{held, at}
use Rattle.memory.specs.Memory.{Memory, memory, namespaces_of}
use Rattle.checking.specs.Checks.{checked}
use Rattle.memory.proofs.NameLaws.{at_id}
use Rattle.memory.proofs.ImageLaws.{Holds, holds_back, holds_legal}
use Rattle.maps.specs.Describe.{Described, described, undescribed, described_as, describe}
use Rattle.maps.proofs.LegalLaws.{illegal_checked, legal_checked, unnamed, label_is}

-- the numbers of a label
abbrev of_label : Label → Described
of_label h = record { number = 0; index = h.index; size = h.size; used = h.used; keys = h.count }

module _ (id : ℕ) (d v : List ℕ) {o : Option Checked} (eo : o ≡ checked id (memory d v)) where
  pub illegal_told : {r : Refusal} → Err r ≡ ok_or o Illegal → undescribed (number_of r) ≡ describe id (memory d v)
  unfolding describe
  illegal_told {r} e = go o eo e
    where
      go : (x : Option Checked) → x ≡ checked id (memory d v) → Err r ≡ ok_or x Illegal → undescribed (number_of r) ≡ describe id (memory d v)
      go None f q =
          let i : r ≡ Illegal = cc q in
          rw (i, illegal_checked id (memory d v) f)
      go (Some k) f q = absurd (cc q)

  module _ {k : Checked} (e : Ok k ≡ ok_or o Illegal) where
    is : Some k ≡ checked id (memory d v)
    is = go o eo e
      where
        go : (x : Option Checked) → x ≡ checked id (memory d v) → Ok k ≡ ok_or x Illegal → Some k ≡ checked id (memory d v)
        go None f q = absurd (cc q)
        go (Some j) f q =
            let i : k ≡ j = cc q in
            rw i f

    pub unnamed_told : ¬ (k.label.id ≡ id) → undescribed 23 ≡ describe id (memory d v)
    unfolding describe
    unnamed_told n = rw ((legal_checked id d v is).legal, unnamed id (memory d v) is (λ f. n (sym f)))

    pub legal_told : k.label.id ≡ id → of_label k.label ≡ describe id (memory d v)
    unfolding describe
    legal_told n =
        let g = legal_checked id d v is in
        let ss = namespaces_of (memory d v) in
        let i = ap (λ (h : Label). h.id) (label_is g) in
        let there : held k.label.id ss ≡ true = sym (at_id k.label.id ss) ∙ eq-eqb k.label.id (at k.label.id ss).id i in
        rw (g.legal, ← n, there) (ap of_label (label_is g))

pub ruleset told_laws = (illegal_told, unnamed_told, legal_told)

pub describe_held : {ss : List Namespace} {m : Memory} (id : ℕ) → Holds ss m → describe id m ≡ cond (held id ss) (described (at id ss)) (undescribed 23)
unfolding describe
describe_held id h = rw (holds_legal h) (ap (λ (ts : List Namespace). cond (held id ts) (described (at id ts)) (undescribed 23)) (holds_back h))

-- by the namespace that the id names alone
pub describe_as : {ss : List Namespace} {m : Memory} (id : ℕ) → Holds ss m → describe id m ≡ described_as id (at id ss)
describe_as {ss} id h = describe_held id h ∙ rw (at_id id ss)
