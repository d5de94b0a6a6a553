-- Where memory is the image of namespaces, a call shows the one that n names, and makes of it, what it does on that farm's own map.
-- Assumes nothing.
use mathlib.Core.Path.{◌≡◌, refl, sym, ap, ◌∙◌}
use mathlib.Core.Bool.{true, false, cond, not}
use mathlib.Core.List.{List, [], ◌∷◌}
use Prim.Native.Nat.{ℕ}
use native.Mathlib.Omega.{arith}
use lib.ListN.{length}
use lib.Dec.{eqb}
use borrow.Author.Tests.{eqb-true, eqb-false, not-true}
use Rattle.octets.proofs.TestLaws.{known, holds, fails}
use Rattle.wire.specs.Entry.{read_command}
use Rattle.store.specs.Namespace.{Namespace}
use Rattle.memory.specs.Namespaces.{held, at, with}
use Rattle.memory.specs.Memory.{Memory}
use Rattle.memory.proofs.NameLaws.{at_id, at_same, at_other, at_within}
use Rattle.memory.proofs.ImageLaws.{Holds}
use Rattle.commands.specs.Answer.{answer}
use Rattle.wire.specs.Completion.{Post}
use Rattle.commands.proofs.AnswerLaws.{answer_status, dword0_small}
use Rattle.commands.proofs.CommandLaws.{entry_key, serve_holds, command_0, command_1, command_2}
use Rattle.room.specs.Room.{filled_by}
use Rattle.module.specs.History.{Layout, begin, Question, polling, id_of, filled, ask, tell, Call, formatting, commanding, asking, lend, run, formats}
use Rattle.module.proofs.HistoryLaws.{begin_refused, ask_is, call_number, call_status, call_dword0, call_buffer}
use Rattle.farms.specs.Sides.{real, Ask, sends, asks, answered, learnt, seen_of, shows}
use Rattle.farms.specs.Alone.{refusal, meets, after, alone}

-- ---- a command, on the namespace that it names

-- the namespaces after it
abbrev changed : List Namespace → List ℕ → List ℕ → List ℕ → List Namespace
changed ss e c b =
    let k = (read_command e).nsid in
    cond (eqb (refusal e c) 0) (with k (answer true (at k ss) (read_command e) b).pairs ss) ss

module _ (ss : List Namespace) (m : Memory) (p : Post) (e c b : List ℕ) (h : Holds ss m) where
  abbrev farm : Namespace
  farm = at (read_command e).nsid ss

  served : length e ≡ 64 → length c ≡ 16 → held (read_command e).nsid ss ≡ true
      → seen_of (run m (commanding p e c b))
      ≡ answered 0 (answer true farm (read_command e) b).status (answer true farm (read_command e) b).dword0 (answer true farm (read_command e) b).buffer
  served e64 c16 q =
      let small = dword0_small farm (read_command e) b (at_within (read_command e).nsid ss h.within.each q) in
      let status = call_status ss m p e c b h e64 c16 ∙ sym (answer_status true farm (read_command e) b) in
      let dword0 = call_dword0 ss m p e c b h e64 c16 (omega arith) in
      λ i. answered (call_number ss m p e c b h e64 c16 i) (status i) (dword0 i) (call_buffer ss m p e c b h e64 c16 i)

  -- what it leaves, and what it shows; a number that refuses leaves all as it was
  command_done : Holds (changed ss e c b) (run m (commanding p e c b)).after.memory
      × (held (read_command e).nsid ss ≡ true → seen_of (run m (commanding p e c b)) ≡ meets farm (sends e c b))
  command_done =
      let l = lend c b m in
      elim (known (eqb (length e) 64)) [
        | fails f ↦ rw (command_1 p e l f, f) (h, λ q. refl)
        | holds f ↦
            elim (known (eqb (length c) 16)) [
              | fails g ↦ rw (command_2 p e l f g, f, g) (h, λ q. refl)
              | holds g ↦
                  let e64 = eqb-true (length e) 64 f in
                  let done = serve_holds p (read_command e) l ss h (entry_key e e64) in
                  rw (f, g) (rw (command_0 p e l f g) done, served e64 (eqb-true (length c) 16 g))
            ]
      ]

-- ---- any call

-- m is the image of namespaces, of which n names s
pub record Stands (n : ℕ) (s : Namespace) (m : Memory) : Type 0 where
  pub all : List Namespace
  pub image : Holds all m
  pub there : held n all ≡ true
  pub is : at n all ≡ s

-- a command changes the namespace that it names as it does alone
own_changed : (ss : List Namespace) (e c b : List ℕ) → held (read_command e).nsid ss ≡ true
    → at (read_command e).nsid (changed ss e c b) ≡ after (at (read_command e).nsid ss) (sends e c b)
own_changed ss e c b q = elim (known (eqb (refusal e c) 0)) [ holds z ↦ rw z (at_same (read_command e).nsid _ ss q) | fails z ↦ rw z ]

-- and no other
other_changed : (n : ℕ) (ss : List Namespace) (e c b : List ℕ) → ¬ (n ≡ (read_command e).nsid) → at n (changed ss e c b) ≡ at n ss
other_changed n ss e c b d = elim (known (eqb (refusal e c) 0)) [ holds z ↦ rw z (at_other n (read_command e).nsid _ ss d) | fails z ↦ rw z ]

after_id : (s : Namespace) (e c b : List ℕ) → (after s (sends e c b)).id ≡ s.id
after_id s e c b = elim (known (eqb (refusal e c) 0)) [ holds z ↦ rw z | fails z ↦ rw z ]

-- what calls leave of a farm
abbrev pub left : Namespace → List Ask → Namespace
left s [] = s
left s (x ∷ xs) = left (after s x) xs

-- the image of other namespaces, in which n names r, with the id that it had
renewed : (n : ℕ) (s r : Namespace) (m k : Memory) (t : Stands n s m) (ts : List Namespace) → Holds ts k → at n ts ≡ r → r.id ≡ s.id → Stands n r k
renewed n s r m k t ts h e f =
    let same : (at n ts).id ≡ (at n t.all).id = ap (λ (x : Namespace). x.id) e ∙ f ∙ sym (ap (λ (x : Namespace). x.id) t.is) in
    record { all = ts; image = h; there = sym (at_id n ts) ∙ ap (eqb n) same ∙ at_id n t.all ∙ t.there; is = e }

module _ (n : ℕ) (s : Namespace) (m : Memory) (t : Stands n s m) where
  abbrev ss : List Namespace
  ss = t.all

  refused_next : (l : Layout) → eqb (begin l m).number 0 ≡ false → Stands n s (begin l m).after
  refused_next l f = rw (begin_refused l m f) t

  -- an entry that names n
  module _ (e : List ℕ) (f : eqb n (read_command e).nsid ≡ true) where
    named : n ≡ (read_command e).nsid
    named = eqb-true n (read_command e).nsid f

    named_held : held (read_command e).nsid ss ≡ true
    named_held = ap (λ j. held j ss) (sym named) ∙ t.there

    named_is : at (read_command e).nsid ss ≡ s
    named_is = ap (λ j. at j ss) (sym named) ∙ t.is

  -- the farm after a call
  pub stands_next : (x : Call) → not (formats x (run m x)) ≡ true → Stands n (left s (asks n x)) (run m x).after.memory
  stands_next (formatting l) q = refused_next l (not-true _ q)
  stands_next (commanding p e c b) q =
      let h = (command_done ss m p e c b t.image).0 in
      elim (known (eqb n (read_command e).nsid)) [
        | fails f ↦ rw f (renewed n s s m _ t (changed ss e c b) h (other_changed n ss e c b (eqb-false n (read_command e).nsid f) ∙ t.is) refl)
        | holds f ↦
            let o = own_changed ss e c b (named_held e f) ∙ ap (λ r. after r (sends e c b)) (named_is e f) in
            rw f (renewed n s _ m _ t (changed ss e c b) h (ap (λ j. at j (changed ss e c b)) (named e f) ∙ o) (after_id s e c b))
      ]
  stands_next (asking k) q = elim (known (eqb n (id_of k))) [ holds f ↦ rw f t | fails f ↦ rw f t ]

  -- what a question gives
  pub told_alone : (q : Question) → n ≡ id_of q → ask m q ≡ tell s q
  told_alone q e = ask_is q t.image ∙ ap (λ (x : Namespace). tell x q) (ap (λ (j : ℕ). at j ss) (sym e) ∙ t.is)

  -- its used room
  pub room_alone : ask m (polling n) ≡ filled (filled_by s.pairs)
  room_alone =
      let own : eqb n s.id ≡ true = ap (λ (x : Namespace). eqb n x.id) (sym t.is) ∙ at_id n ss ∙ t.there in
      told_alone (polling n) refl ∙ rw own

  -- what a call shows
  pub shows_alone : (x : Call) → shows real n m x ≡ (alone s (asks n x)).shown
  shows_alone (formatting l) = refl
  shows_alone (commanding p e c b) =
      elim (known (eqb n (read_command e).nsid)) [
        | fails f ↦ rw f
        | holds f ↦
            let v = (command_done ss m p e c b t.image).1 (named_held e f) in
            rw f (ap (λ v. v ∷ []) (v ∙ ap (λ r. meets r (sends e c b)) (named_is e f)))
      ]
  shows_alone (asking q) =
      elim (known (eqb n (id_of q))) [
        | fails f ↦ rw f
        | holds f ↦ rw f (ap (λ v. learnt v ∷ []) (told_alone q (eqb-true n (id_of q) f)))
      ]
