-- One command on memory that is the image of namespaces leaves the image of what the command makes of the one that it names; what lies past the
-- needed part is not written. Assumes nothing.
use mathlib.Core.Path.{◌≡◌, refl, sym, ap, ◌∙◌}
use mathlib.Core.Bool.{true, false, cond}
use mathlib.Core.List.{List}
use Prim.Native.Nat.{ℕ}
use native.Mathlib.Nat.{zero-add}
use native.Mathlib.Omega.{arith}
use lib.ListN.{length, drop, length-append, length-take, length-drop}
use lib.Seq.{drop_at}
use lib.Dec.{eqb}
use borrow.Author.Tests.{eqb-true, eq-eqb}
use Rattle.octets.specs.Octets.{part, put}
use Rattle.octets.proofs.TestLaws.{known, holds, fails}
use Rattle.wire.specs.declared.entries.Command.{Command}
use Rattle.wire.specs.Entry.{read_command}
use Rattle.store.specs.Maps.{Pair}
use Rattle.store.specs.Namespace.{Namespace}
use Rattle.memory.specs.Namespaces.{slots_of, size_of, held, at, with}
use Rattle.memory.specs.Memory.{Memory, needed, needed_values, directory_of, values_of, image_over, namespaces_of, legal}
use Rattle.memory.proofs.LimitLaws.{Within}
use Rattle.memory.proofs.NameLaws.{at_id, at_within, with_same, with_within, with_total}
use Rattle.memory.proofs.ImageLaws.{length_directory, length_values, Holds, holds_back, holds_legal, legal_holds, over_holds}
use Rattle.rules.specs.Steps.{status_of}
use Rattle.commands.specs.Answer.{Answer, answer}
use Rattle.wire.specs.Completion.{Post}
use Rattle.commands.specs.Command.{completion_of, Lent, respond, serve, command}
use Rattle.commands.proofs.AnswerLaws.{answer_status, answer_within, refused, unrefused}

-- ---- a read command

pub entry_key : (e : List ℕ) → length e ≡ 64 → length (read_command e).key ≡ 16
unfolding read_command part
entry_key e h = simp (length-append, length-take, length-drop) (omega arith)

module _ (p : Post) (c : Command) (l : Lent) (ss : List Namespace) (h : Holds ss l.memory) where
  abbrev named : Namespace
  named = at c.nsid ss

  abbrev given : Answer
  given = answer true named c l.buffer

  -- the answer on the map is what is seen of it
  pub serve_is : serve p c l ≡ record {
    completion = completion_of p c given.status given.dword0;
    buffer = given.buffer;
    memory = cond (eqb given.status 0) (image_over (with c.nsid given.pairs ss) l.memory) l.memory;
  }
  unfolding serve respond
  serve_is =
      rw (holds_legal h, holds_back h)

  -- a command that succeeds has named one of them
  done_within : length c.key ≡ 16 → eqb given.status 0 ≡ true → Within (with c.nsid given.pairs ss)
  done_within sixteen e =
      let z = sym (answer_status true named c l.buffer) ∙ eqb-true _ _ e in
      let same = (unrefused true named c (length l.buffer) z).early.same in
      let q : held c.nsid ss ≡ true = sym (at_id c.nsid ss) ∙ eq-eqb c.nsid named.id same in
      with_within c.nsid given.pairs ss h.within q
      (answer_within named c l.buffer (at_within c.nsid ss h.within.each q) sixteen)

  -- and one that is refused keeps all
  refused_same : eqb given.status 0 ≡ false → with c.nsid given.pairs ss ≡ ss
  refused_same e =
      let same = ap (λ a. a.pairs) (refused true named c l.buffer (rw (answer_status true named c l.buffer) at e)) in
      rw same (with_same c.nsid ss)

  -- the memory afterwards is the image of what it makes of the map
  pub serve_holds : length c.key ≡ 16 → Holds (with c.nsid given.pairs ss) (serve p c l).memory
  serve_holds sixteen =
      elim (known (eqb given.status 0)) [
        | holds e ↦ rw (serve_is, e) (over_holds (with c.nsid given.pairs ss) l.memory (done_within sixteen e))
        | fails e ↦ rw (serve_is, e) (rw (refused_same e) h)
      ]

-- a refusal leaves store and data buffer as they were, whatever the memory
pub serve_refused : (p : Post) (c : Command) (l : Lent)
    → eqb (status_of (legal l.memory) (at c.nsid (namespaces_of l.memory)) c (length l.buffer)) 0 ≡ false
    → ((serve p c l).buffer ≡ l.buffer) × ((serve p c l).memory ≡ l.memory)
unfolding serve respond
serve_refused p c l e =
    let ok = legal l.memory in
    let s = at c.nsid (namespaces_of l.memory) in
    let r = refused ok s c l.buffer e in
    (ap (λ a. a.buffer) r, rw (answer_status ok s c l.buffer, e))

-- ---- a command from its bytes

module _ (p : Post) (e : List ℕ) (l : Lent) where
  pub command_1 : eqb (length e) 64 ≡ false → command p e l ≡ record { number = 1; after = l }
  unfolding command
  command_1 f = rw f

  pub command_2 : eqb (length e) 64 ≡ true → eqb (length l.completion) 16 ≡ false → command p e l ≡ record { number = 2; after = l }
  unfolding command
  command_2 f g = rw (f, g)

  pub command_0 : eqb (length e) 64 ≡ true → eqb (length l.completion) 16 ≡ true
      → command p e l ≡ record { number = 0; after = serve p (read_command e) l }
  unfolding command
  command_0 f g = rw (f, g)

-- each call on legal memory leaves legal memory
pub command_legal : (p : Post) (e : List ℕ) (l : Lent) → legal l.memory ≡ true → legal (command p e l).after.memory ≡ true
command_legal p e l ok =
    elim (known (eqb (length e) 64)) [
      | fails f ↦ rw (command_1 p e l f) ok
      | holds f ↦
          elim (known (eqb (length l.completion) 16)) [
            | fails g ↦ rw (command_2 p e l f g) ok
            | holds g ↦
                let k = entry_key e (eqb-true (length e) 64 f) in
                rw (command_0 p e l f g) (holds_legal (serve_holds p (read_command e) l (namespaces_of l.memory) (legal_holds l.memory ok) k))
          ]
    ]

-- ---- bytes past the needed part are not written

pub past_put : (n : ℕ) (xs old : List ℕ) → length xs ≡ n → drop n (put 0 xs old) ≡ drop n old
unfolding put
past_put n xs old e = rw (zero-add, e) (drop_at xs (drop n old) n e)

-- n is as m past the needed part of ss
pub record Kept (ss : List Namespace) (m n : Memory) : Type 0 where
  pub directory : drop (needed ss) n.directory ≡ drop (needed ss) m.directory
  pub values : drop (needed_values ss) n.values ≡ drop (needed_values ss) m.values

pub over_kept : (ss : List Namespace) (m : Memory) → Within ss → Kept ss m (image_over ss m)
over_kept ss m w =
    record {
      directory = past_put (needed ss) (directory_of ss) m.directory (length_directory ss w);
      values = past_put (needed_values ss) (values_of ss) m.values (length_values ss w.each);
    }

-- other pairs need the same bytes
pub kept_same : (n : ℕ) (ps : List Pair) (ss : List Namespace) (x y : Memory) → Kept (with n ps ss) x y → Kept ss x y
kept_same n ps ss x y k =
    let d = with_total slots_of n ps (λ s. refl) ss in
    let v = with_total size_of n ps (λ s. refl) ss in
    record { directory = rw d at k.directory; values = rw v at k.values }

pub serve_kept : (p : Post) (c : Command) (l : Lent) (ss : List Namespace) → Holds ss l.memory → length c.key ≡ 16
    → Kept ss l.memory (serve p c l).memory
serve_kept p c l ss h sixteen =
    let next = with c.nsid (given p c l ss h).pairs ss in
    elim (known (eqb (given p c l ss h).status 0)) [
      | holds e ↦
          rw (serve_is p c l ss h, e)
          (kept_same c.nsid (given p c l ss h).pairs ss _ _ (over_kept next l.memory (done_within p c l ss h sixteen e)))
      | fails e ↦ rw (serve_is p c l ss h, e) (record { directory = refl; values = refl })
    ]
