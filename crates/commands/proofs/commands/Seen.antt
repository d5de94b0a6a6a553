-- What the steps see of checked memory, and of a key looked up in it, is what they are defined to look at. Assumes nothing.
use mathlib.Core.Path.{◌≡◌, refl, sym, ap, ap₂, ◌∙◌}
use mathlib.Core.Bool.{true, false}
use mathlib.Core.List.{List}
use Rattle.std.specs.Prelude.{Some, None, Result}
use Rattle.std.specs.Result.{IsErrAnd, result_unwrap_or}
use Rattle.std.proofs.lemmas.Result.{err_from_is_err_and}
use Rattle.refusals.specs.declared.statuses.Status.{Status}
use Rattle.refusals.specs.Refusals.{code_of, code_in}
use Rattle.refusals.proofs.Counted.{code_counts}
use Prim.Native.Nat.{ℕ}
use lib.Dec.{eqb}
use lib.ListN.{length}
use borrow.Author.Tests.{eqb-true, eqb-false}
use Rattle.octets.specs.Tests.{first_of}
use Rattle.octets.proofs.TestLaws.{none_holds, none_first, some_first, known, holds, fails}
use Rattle.wire.specs.declared.entries.Command.{Command}
use Rattle.wire.specs.Entry.{key_of}
use Rattle.store.specs.declared.namespaces.Label.{Label}
use Rattle.table.specs.declared.formats.Format.{Format}
use Rattle.store.specs.declared.finds.Found.{Found}
use Rattle.store.specs.Maps.{keys, present, held_room}
use Rattle.store.specs.Namespace.{Namespace}
use Rattle.store.specs.Finds.{found, found_key}
use Rattle.store.proofs.RankLaws.{has_present}
use Rattle.checking.specs.declared.checks.Checked.{Checked}
use Rattle.memory.specs.Namespaces.{at}
use Rattle.memory.specs.Memory.{memory, namespaces_of, legal}
use Rattle.checking.specs.Checks.{checked}
use Rattle.memory.proofs.NameLaws.{at_id}
use Rattle.maps.specs.Asks.{keys_at, room_at, Looked, CanWeigh, Legal}
use Rattle.maps.proofs.LegalLaws.{illegal_checked, legal_checked, unnamed, label_is, format_is}
use Rattle.maps.proofs.RoomLaws.{looked_in, room_is, can_weigh}
use Rattle.rules.specs.declared.steps.View.{View}
use Rattle.rules.specs.declared.steps.Stock.{Stock}
use Rattle.rules.specs.Steps.{view_of, stock_of, steps_to_h, steps_from_i, steps, status_of}
use Rattle.rules.proofs.StepLaws.{PassedToH, passed_to_h}
use Rattle.commands.specs.Command.{response, respond}
use Rattle.commands.specs.Ruled.{Admitted, Ruled}
use Rattle.commands.proofs.AnswerLaws.{refused}

-- what the code asks with
abbrev pub view : Checked → ℕ → View
view k n = record { legal = true; format = k.format; id = k.label.id; room = n }

abbrev pub stock : Checked → Found → ℕ → Stock
stock k f old =
    record { held = f.held; old = old; used = k.label.used; count = k.label.count; maxkeys = k.format.maxkeys; size = k.label.size }

-- the view of legal memory
view_is : {k : Checked} {d v : List ℕ} (g : Legal k d v) (c : Command) (n : ℕ)
    → first_of (steps_to_h (record { legal = true; format = k.format; id = k.label.id; room = n }) c)
    ≡ first_of (steps_to_h (view_of true (at k.label.id (namespaces_of (memory d v))) n) c)
view_is {k} {d} {v} g c n =
    ap₂ (λ (f : Format) (h : Label). first_of (steps_to_h (record { legal = true; format = f; id = h.id; room = n }) c)) (format_is g) (label_is g)

-- and what is kept of it, for a key that was looked up
stock_is : {k : Checked} {d v : List ℕ} (g : Legal k d v) (c : Command) (f : Found) (old : ℕ)
    → (let s = at k.label.id (namespaces_of (memory d v)) in
    f.held ≡ present (key_of c) s.pairs → old ≡ held_room (key_of c) s.pairs
    → first_of (steps_from_i (stock k f old) c) ≡ first_of (steps_from_i (stock_of s (key_of c)) c))
stock_is {k} {d} {v} g c f old h o =
    let e = label_is g in
    let m = format_is g in
    let same : stock k f old ≡ stock_of (at k.label.id (namespaces_of (memory d v))) (key_of c) =
    λ i. record { held = h i; old = o i; used = (e i).used; count = (e i).count; maxkeys = (m i).maxkeys; size = (e i).size } in
    ap (λ (u : Stock). first_of (steps_from_i u c)) same

-- where neither is the command's, one namespace is as good as another
other_view : (v w : View) (c : Command) → v.legal ≡ w.legal → eqb c.nsid v.id ≡ false → eqb c.nsid w.id ≡ false
    → first_of (steps_to_h v c) ≡ first_of (steps_to_h w c)
other_view v w c l e f = rw (l, e, f)

module _ (c : Command) (b d v : List ℕ) where
  abbrev s : Namespace
  s = at c.nsid (namespaces_of (memory d v))

  -- a status that is not 00h is all that is answered
  refusing : {st : ℕ} → status_of (legal (memory d v)) s c (length b) ≡ st → eqb st 0 ≡ false → response st 0 b d v ≡ respond c b (memory d v)
  unfolding respond
  refusing {st} e q =
      let z : eqb (status_of (legal (memory d v)) s c (length b)) 0 ≡ false = rw e q in
      rw (refused (legal (memory d v)) s c b z, z, e)

  -- and so is one that comes in a result
  refused_in : (t : Status) (r : Result ℕ Status) → IsErrAnd r (λ x. x ≡ t) → response (code_of t) 0 b d v ≡ respond c b (memory d v)
      → response (code_in r) (result_unwrap_or r 0) b d v ≡ respond c b (memory d v)
  refused_in t r h e =
      let p = err_from_is_err_and r h in
      rw (p.1, p.2) e

  -- ---- steps a to h

  pub refused_illegal : None ≡ checked c.nsid (memory d v) → response 6 0 b d v ≡ respond c b (memory d v)
  unfolding status_of steps
  refused_illegal e = refusing (rw (illegal_checked c.nsid (memory d v) e)) refl

  module _ {k : Checked} (ek : Some k ≡ checked c.nsid (memory d v)) where
    g : Legal k d v
    g = legal_checked c.nsid d v ek

    early_is : {st : ℕ} → st ≡ first_of (steps_to_h (view k (length b)) c) → st ≡ first_of (steps_to_h (view_of (legal (memory d v)) s (length b)) c)
    early_is e =
        elim (known (eqb c.nsid k.label.id)) [
          | holds i ↦
              let same = ap (λ (n : ℕ). at n (namespaces_of (memory d v))) (eqb-true c.nsid k.label.id i) in
              e ∙ rw (g.legal, same) (view_is g c (length b))
          | fails i ↦
              let none = unnamed c.nsid (memory d v) ek (eqb-false _ _ i) in
              let other = at_id c.nsid (namespaces_of (memory d v)) ∙ none in
              e ∙ other_view (view k (length b)) (view_of (legal (memory d v)) s (length b)) c (sym g.legal) i other
        ]

    pub refused_early : (t : Status) → code_of t ≡ first_of (steps_to_h (view k (length b)) c) → (r : Result ℕ Status) → IsErrAnd r (λ x. x ≡ t)
        → response (code_in r) (result_unwrap_or r 0) b d v ≡ respond c b (memory d v)
    unfolding status_of steps
    refused_early t e r h =
        let x = view_of (legal (memory d v)) s (length b) in
        let q = code_counts t in
        refused_in t r h
        (refusing (some_first (steps_to_h x c) (steps_from_i (stock_of s (key_of c)) c) (rw (early_is e) at (eqb-false (code_of t) 0 q)) ∙ sym (early_is e)) q)

    pub admitted : 0 ≡ first_of (steps_to_h (view k (length b)) c) → Admitted c k (length b) d v
    admitted e =
        let p = passed_to_h (view k (length b)) c (none_holds (steps_to_h (view k (length b)) c) tt (sym e)) in
        record {
          legal = g;
          named = p.same;
          early = rw (← ap (λ (n : ℕ). at n (namespaces_of (memory d v))) p.same) (rw g.legal at (sym (early_is e)));
        }

  -- ---- steps i and j

  module _ {k : Checked} (a : Admitted c k (length b) d v) where
    abbrev its : Namespace
    its = at k.label.id (namespaces_of (memory d v))

    early : PassedToH (view_of true its (length b)) c
    early = passed_to_h _ c (none_holds (steps_to_h (view_of true its (length b)) c) tt a.early)

    module _ {f : Found} (l : length c.key ≡ 16) (ef : f ≡ found c.key c.len (keys_at k d)) where
      key_is : found_key f ≡ key_of c
      key_is = rw ef

      looked : Looked f (keys its.pairs)
      looked = looked_in a.legal c.key c.len l early.sixteen ef

      pub weighs : CanWeigh k f d
      weighs = can_weigh a.legal looked

      module _ {old : ℕ} (eo : old ≡ room_at k f d) where
        status_is : {st : ℕ} → st ≡ first_of (steps_from_i (stock k f old) c) → status_of true its c (length b) ≡ st
        unfolding status_of steps
        status_is e =
            let held : f.held ≡ present (key_of c) its.pairs = looked.held ∙ rw key_is (has_present (key_of c) its.pairs) in
            let room : old ≡ held_room (key_of c) its.pairs = eo ∙ room_is a.legal looked ∙ rw key_is in
            let x = view_of true its (length b) in
            none_first (steps_to_h x c) (steps_from_i (stock_of its (key_of c)) c) (none_holds (steps_to_h x c) tt a.early)
            ∙ sym (e ∙ stock_is a.legal c f old held room)

        pub refused_late : (t : Status) → code_of t ≡ first_of (steps_from_i (stock k f old) c) → (r : Result ℕ Status) → IsErrAnd r (λ x. x ≡ t)
            → response (code_in r) (result_unwrap_or r 0) b d v ≡ respond c b (memory d v)
        refused_late t e r h =
            let same = ap (λ (n : ℕ). at n (namespaces_of (memory d v))) a.named in
            refused_in t r h (refusing (rw (a.legal.legal, same) (status_is e)) (code_counts t))

        pub ruled : 0 ≡ first_of (steps_from_i (stock k f old) c) → Ruled c k f (length b) d v
        ruled e = record { legal = a.legal; named = a.named; looked = looked; key = key_is; given = l; status = status_is e }
