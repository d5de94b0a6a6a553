-- What a ruled command may ask of the memory, and that what it does is what is defined. Assumes nothing.
use mathlib.Core.Path.{◌≡◌, refl, sym, ap, ◌∙◌}
use mathlib.Core.Bool.{true}
use mathlib.Core.List.{List}
use Prim.Native.Nat.{ℕ, ◌≤◌}
use lib.ListN.{length, take}
use Rattle.std.specs.Prelude.{Result, Ok, Err, IsOk}
use Rattle.octets.specs.Octets.{put}
use Rattle.octets.proofs.TestLaws.{contrary}
use Rattle.wire.specs.declared.entries.Command.{Command}
use Rattle.wire.specs.declared.entries.Opcode.{Opcode}
use Rattle.wire.specs.declared.entries.UnknownOpcode.{UnknownOpcode}
use Rattle.wire.specs.Entry.{Names, byte_of, key_of}
use Rattle.sheets.specs.Page.{page, shown}
use Rattle.store.specs.declared.finds.Found.{Found}
use Rattle.store.specs.Maps.{Pair, value_of, insert, erase}
use Rattle.store.specs.Namespace.{Namespace}
use Rattle.store.specs.Finds.{found_key}
use Rattle.store.proofs.NamespaceLaws.{true_within}
use Rattle.store.proofs.RankLaws.{has_present}
use Rattle.checking.specs.declared.checks.Checked.{Checked}
use Rattle.memory.specs.Namespaces.{at, with}
use Rattle.memory.specs.Memory.{Memory, memory, image_over, image_with, namespaces_of, pairs_at}
use Rattle.memory.proofs.NameLaws.{with_same}
use Rattle.memory.proofs.ImageLaws.{holds_over, legal_holds}
use Rattle.maps.specs.Asks.{keys_at, CanPut, CanErase, CanHand, CanList}
use Rattle.maps.proofs.LegalLaws.{at_one, keys_are}
use Rattle.rules.specs.Steps.{view_of, stock_of}
use Rattle.rules.proofs.StepLaws.{Passed}
use Rattle.commands.specs.Answer.{answer, dword_after, buffer_after, pairs_after}
use Rattle.commands.specs.Command.{Response, response, respond}
use Rattle.commands.specs.Ruled.{Ruled}
use Rattle.commands.proofs.AnswerLaws.{unrefused, store_within}

module _ {c : Command} {k : Checked} {f : Found} (b : List ℕ) {d v : List ℕ} (r : Ruled c k f (length b) d v) where
  abbrev s : Namespace
  s = at k.label.id (namespaces_of (memory d v))

  abbrev m : List Pair
  m = pairs_at k.label.id (memory d v)

  p : Passed (view_of true s (length b)) (stock_of s (key_of c)) c
  p = unrefused true s c (length b) r.status

  -- the memory that is to be left, and what is defined of a command that no step refuses
  abbrev after : Memory
  after = image_over (with k.label.id (pairs_after c b m) (namespaces_of (memory d v))) (memory d v)

  abbrev meant : Response
  meant = respond c b (memory d v)

  done : meant ≡ record { status = 0; dword0 = dword_after c m; buffer = buffer_after c b m; memory = after }
  unfolding respond answer
  done =
      let ss = namespaces_of (memory d v) in
      rw (
        r.legal.legal,
        ap (λ (n : ℕ). at n ss) r.named,
        r.status,
        ap (λ (n : ℕ). with n (pairs_after c b m) ss) r.named,
      )

  made : {n : ℕ} {b' d' v' : List ℕ} → n ≡ dword_after c m → b' ≡ buffer_after c b m → memory d' v' ≡ after → response 0 n b' d' v' ≡ meant
  made x y z = (λ i. record { status = 0; dword0 = x i; buffer = y i; memory = z i }) ∙ sym done

  -- a command that keeps the map keeps the memory
  kept : pairs_after c b m ≡ m → memory d v ≡ after
  kept e =
      let h = holds_over (legal_holds (memory d v) r.legal.legal) in
      sym (rw (e, with_same k.label.id (namespaces_of (memory d v))) h)

  pub is_known : (x : Result Opcode UnknownOpcode) → Names c.opcode x → IsOk x
  is_known (Ok o) n = refl
  is_known (Err e) n = absurd (contrary (sym n ∙ p.early.opcode))

  -- a key that is held can go
  can_find : (stock_of s (key_of c)).held ≡ true → CanErase k f d v
  can_find h = record { legal = r.legal; looked = r.looked; held = r.looked.held ∙ rw r.key (has_present (key_of c) m) ∙ h }

  -- o is the opcode that the command's byte names
  module _ {o : Result Opcode UnknownOpcode} (n : Names c.opcode o) where
    byte : {x : Opcode} → o ≡ Ok x → c.opcode ≡ byte_of x
    byte e = sym (rw e at n)

    -- ---- Store

    module _ (e : o ≡ Ok Opcode.Store) where
      pub value_lent : c.amount ≤ length b
      value_lent = p.early.lent (rw (byte e))

      pub can_put : CanPut k f (take c.amount b) d v
      can_put =
          record {
            legal = r.legal;
            looked = r.looked;
            within = rw r.key (true_within _ (store_within s c b (at_one r.legal) r.given (rw (byte e)) p));
          }

      pub stored_is : {d' v' : List ℕ} → memory d' v' ≡ image_with k.label.id (insert (found_key f) (take c.amount b)) (memory d v)
          → response 0 0 b d' v' ≡ meant
      stored_is q = made (rw (byte e)) (rw (byte e)) (rw (byte e) (rw r.key at q))

    -- ---- Delete

    module _ (e : o ≡ Ok Opcode.Delete) where
      pub can_erase : CanErase k f d v
      can_erase = can_find (p.held (rw (byte e)))

      pub erased_is : {d' v' : List ℕ} → memory d' v' ≡ image_with k.label.id (erase (found_key f)) (memory d v) → response 0 0 b d' v' ≡ meant
      erased_is q = made (rw (byte e)) (rw (byte e)) (rw (byte e) (rw r.key at q))

    -- ---- Retrieve

    module _ (e : o ≡ Ok Opcode.Retrieve) where
      pub can_hand : CanHand k f c.amount d v b
      can_hand = record { erases = can_find (p.held (rw (byte e))); lent = p.early.lent (rw (byte e)) }

      pub handed_is : {n : ℕ} {b' : List ℕ}
          → (n ≡ length (value_of (found_key f) m)) × (b' ≡ put 0 (take c.amount (value_of (found_key f) m)) b) → response 0 n b' d v ≡ meant
      handed_is q =
          let g = rw r.key at q in
          made (rw (byte e) g.0) (rw (byte e) g.1) (kept (rw (byte e)))

    -- ---- List

    module _ (e : o ≡ Ok Opcode.List) where
      pub can_list : CanList k f c.amount d b
      can_list =
          let q = p.early in
          record { look = r.legal.look; looked = rw (keys_are r.legal) r.looked; counted = q.counted (rw (byte e)); lent = q.lent (rw (byte e)) }

      pub listed_is : {b' : List ℕ} → b' ≡ put 0 (page (shown c.amount (found_key f) (keys_at k d))) b → response 0 0 b' d v ≡ meant
      listed_is q = made (rw (byte e)) (rw (byte e) (rw (r.key, keys_are r.legal) at q)) (kept (rw (byte e)))

    -- ---- Exist

    pub unchanged : o ≡ Ok Opcode.Exist → response 0 0 b d v ≡ meant
    unchanged e = made (rw (byte e)) (rw (byte e)) (kept (rw (byte e)))
