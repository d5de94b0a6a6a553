-- Each kind of stand-in is rejected by a demand that it lacks. Assumes nothing.
use mathlib.Core.Path.{◌≡◌, refl, sym, ap, ◌∙◌}
use mathlib.Core.Bool.{Bool, true, false, cond}
use mathlib.Core.List.{List, [], ◌∷◌}
use Prim.Native.Nat.{ℕ}
use native.Mathlib.Omega.{arith}
use lib.ListN.{length, take, get_or}
use borrow.Author.Tests.{eqb-true}
use Rattle.octets.specs.Octets.{part, put, number}
use Rattle.octets.proofs.TestLaws.{both}
use Rattle.wire.specs.Entry.{read_command, write_command, is_list}
use Rattle.sheets.specs.Page.{page_entry, page, keys}
use Rattle.store.specs.Maps.{pair, lookup, keys as keys_of}
use Rattle.store.specs.Namespace.{Namespace, fresh, with_pairs}
use Rattle.memory.specs.Namespaces.{at as named}
use Rattle.memory.specs.Memory.{Memory, half_of, head_of, directory_of}
use Rattle.rules.specs.Steps.{steps, status_of}
use Rattle.commands.specs.Command.{Outcome}
use Rattle.module.specs.History.{Call, succeeded}
use Rattle.promises.specs.Histories.{Start}
use Rattle.promises.specs.Requests.{Request, call, asked, refusal, Proper, Gives}
use Rattle.promises.specs.Retrieves.{SinceOn}
use Rattle.walks.specs.Walks.{page_on, Lists, OnwardOn, ended}
use Rattle.standins.specs.Devices.{Device, at, moved, on, opens, opened, reached}
use Rattle.standins.specs.Demands.{Opens, Accepts, Retrieves, Misses, Images, shown_to, Pages, Walks}
use Rattle.standins.specs.StandIns.{Says, Leaves, Forgets, Idles, Posts, count_of, Counts, Invents, Empties}
use Rattle.promises.proofs.Examples.{start, start_begun, request, A, B, store, exist, list}

-- ---- over any history

-- a List that succeeds has the count of the keys that fit
count_right : (d : Device) → Pages d → (a : Start) (xs : List Call) (r : Request) → (opens d a).number ≡ 0 → is_list (asked r).opcode ≡ true
    → succeeded (at d (reached d a xs) (call r)) ≡ true
    → count_of (at d (reached d a xs) (call r)).after.buffer ≡ count_of (page (shown_to (named (asked r).nsid (reached d a xs).stored) r))
unfolding put page part
count_right d pages a xs r ok o done = ap count_of (pages a xs r ok o done)

-- by the page: a count that is made of anything else
pub invents_rejected : (d : Device) → Pages d → Invents d → ⊥
invents_rejected d pages i = i.wrong (count_right d pages i.start i.calls i.list i.formatted i.opcode i.done)

-- where pages are empty and walks find all, no key is ever stored
empty_walk : (d : Device) → Walks d → Empties d → (a : Start) (xs : List Call) (n : ℕ) (x : Request) → (opens d a).number ≡ 0
    → Lists n (named n (reached d a xs).stored) [] x → succeeded (at d (reached d a xs) (call x)) ≡ true
    → keys_of (named n (reached d a xs).stored).pairs ≡ []
empty_walk d walks empties a xs n x ok l done =
    let q = reached d a xs in
    let page : page_on (on d) q x ≡ keys [] = empties _ _ _ _ _ _ (rw l.proper.opcode) done in
    let onward : OnwardOn (on d) n (named n q.stored) true (moved d q (call x)) (page_on (on d) q x) (keys [] ∷ []) = rw page ended in
    let f = walks a xs n true (keys [] ∷ []) ok (record { first = x; lists = l; onward = onward }) in
    let none : f.found ≡ [] = cc f.read in
    sym (f.ends refl) ∙ none

-- ---- after a formatting and a Store of A with the byte n

abbrev store_a : ℕ → Request
store_a n = store A (n ∷ [])

abbrev retrieve_a : Request
retrieve_a = request 0x02 A 1 (0xff ∷ [])

module _ (d : Device) (formats : Opens d) (obeys : Accepts [] d) where
  is_open : (opens d (start 7)).number ≡ 0
  is_open = formats (start 7) (start_begun 7)

  stored_a : (n : ℕ) → succeeded (at d (opened d (start 7)) (call (store_a n))) ≡ true
  unfolding status_of steps read_command write_command part number
  stored_a n = obeys (start 7) (store_a n) is_open refl refl refl

  holds_a : (n : ℕ) → (reached d (start 7) (call (store_a n) ∷ [])).stored ≡ with_pairs (fresh 15 1 64) (pair A (n ∷ []) ∷ []) ∷ []
  unfolding read_command write_command part number
  holds_a n = rw (stored_a n)

  since_a : (n : ℕ) → SinceOn (on d) (opens d (start 7)).number (opened d (start 7)) (store_a n) [] 0x01 1 A
  unfolding read_command write_command part number
  since_a n = record { formatted = is_open; nsid = refl; opcode = refl; key = refl; done = stored_a n; spared = refl }

  proper_a : (n : ℕ) → Proper 1 (named 1 (reached d (start 7) (call (store_a n) ∷ [])).stored) 0x02 A retrieve_a
  unfolding refusal steps read_command write_command part number
  proper_a n = rw (holds_a n) (record { nsid = refl; opcode = refl; key = refl; passes = refl })

  -- so a Retrieve hands the byte over
  retrieves_a : Retrieves d → (n : ℕ) → Gives 0x00 1 (n ∷ []) (at d (reached d (start 7) (call (store_a n) ∷ [])) (call retrieve_a))
  unfolding read_command write_command part put number
  retrieves_a retrieves n = retrieves (start 7) [] (store_a n) [] 1 A retrieve_a (since_a n) (proper_a n)

  -- always 81h: the Store is one that no step refuses
  pub says_81h_rejected : Says 0x81 d → ⊥
  says_81h_rejected says =
      let q = both _ _ (stored_a 7) in
      let e = sym (says _ _ _ _ _ _ (eqb-true _ 0 q.0)) ∙ eqb-true _ 0 q.1 in
      omega arith

  -- the store left as it is: after Stores of 7 and of 8 it is lent the same memory
  pub leaves_rejected : Retrieves d → Forgets d → Leaves d → ⊥
  leaves_rejected retrieves forgets leaves =
      let now : Outcome = d [] (opened d (start 7)).memory (call retrieve_a) in
      let same : (n : ℕ) → at d (reached d (start 7) (call (store_a n) ∷ [])) (call retrieve_a) ≡ now =
      λ n. forgets _ [] _ _ ∙ ap (λ (m : Memory). d [] m (call retrieve_a)) (leaves _ _ _ _ _ _) in
      let e = sym (retrieves_a retrieves 7).buffer ∙ ap (λ (o : Outcome). o.after.buffer) (same 7 ∙ sym (same 8)) ∙ (retrieves_a retrieves 8).buffer in
      let f = ap (λ (l : List ℕ). get_or l 0 0) e in
      omega arith

  -- the same of a device that goes by the calls before too: its memory is not the image of A with a value
  pub leaves_no_image : Images d → Leaves d → ⊥
  unfolding directory_of head_of half_of
  leaves_no_image images leaves =
      let m = (opened d (start 7)).memory in
      let n = (reached d (start 7) (call (store_a 7) ∷ [])).memory in
      let e : n ≡ m = leaves _ _ _ _ _ _ in
      let f = (images (start 7) [] is_open).directory in
      let g = rw (holds_a 7) at (images (start 7) (call (store_a 7) ∷ []) is_open).directory in
      let h = ap (λ (l : List ℕ). get_or l 12 0) (sym f ∙ ap (λ (k : Memory). take 576 k.directory) (sym e) ∙ g) in
      omega arith

  -- only 00h after the first command: the Retrieve would leave its data buffer
  pub idles_rejected : Retrieves d → Idles d → ⊥
  idles_rejected retrieves idles =
      let g = retrieves_a retrieves 7 in
      let e = sym g.buffer ∙ (idles _ _ _ _ _ _ refl g.number).1 in
      let f = ap (λ (l : List ℕ). get_or l 0 0) e in
      omega arith

-- ---- by the page and the walk

module _ (d : Device) (formats : Opens d) (accepts : (xs : List Call) → Accepts xs d) where
  holds_7 : (reached d (start 7) (call (store_a 7) ∷ [])).stored ≡ with_pairs (fresh 15 1 64) (pair A (7 ∷ []) ∷ []) ∷ []
  holds_7 = holds_a d formats (accepts []) 7

  lists_a : Lists 1 (named 1 (reached d (start 7) (call (store_a 7) ∷ [])).stored) [] (list [])
  unfolding refusal steps read_command write_command part number
  lists_a = rw holds_7 (record { proper = record { nsid = refl; opcode = refl; key = refl; passes = refl }; wide = omega arith })

  -- a List before the Store and one after it
  listed_none : succeeded (at d (opened d (start 7)) (call (list []))) ≡ true
  unfolding status_of steps read_command write_command part number
  listed_none = accepts [] (start 7) (list []) (formats (start 7) (start_begun 7)) refl refl refl

  listed_a : succeeded (at d (reached d (start 7) (call (store_a 7) ∷ [])) (call (list []))) ≡ true
  unfolding status_of steps read_command write_command part number
  listed_a =
      accepts (call (store_a 7) ∷ []) (start 7) (list []) (formats (start 7) (start_begun 7)) refl refl
      (ap (λ (ss : List Namespace). status_of true (named 1 ss) (asked (list [])) (length (list []).buffer)) holds_7)

  -- one count for all pages: these two have 0 keys and 1
  pub counts_rejected : Pages d → (n : ℕ) → Counts n d → ⊥
  unfolding read_command write_command part number page page_entry
  counts_rejected pages n counts =
      let ok = formats (start 7) (start_begun 7) in
      let none = sym (counts _ _ _ _ _ _ refl listed_none) ∙ count_right d pages (start 7) [] (list []) ok refl listed_none in
      let one = sym (counts _ _ _ _ _ _ refl listed_a) ∙ count_right d pages (start 7) (call (store_a 7) ∷ []) (list []) ok refl listed_a in
      let more = ap (λ (ss : List Namespace). count_of (page (shown_to (named 1 ss) (list [])))) holds_7 in
      omega (arith, none, one ∙ more)

  -- empty pages for ever: A would be stored and no walk would find it
  pub empties_rejected : Walks d → Empties d → ⊥
  empties_rejected walks empties =
      let none = empty_walk d walks empties (start 7) (call (store_a 7) ∷ []) 1 (list []) (formats (start 7) (start_begun 7)) lists_a listed_a in
      let e = ap (λ (ss : List Namespace). length (keys_of (named 1 ss).pairs)) (sym holds_7) ∙ ap length none in
      omega arith

-- ---- by 87h for a key that is not stored

-- an Exist leaves the empty store, whatever the device says to it
same_empty : (z : Bool) → cond z (fresh 15 1 64 ∷ []) (fresh 15 1 64 ∷ []) ≡ fresh 15 1 64 ∷ []
same_empty true = refl
same_empty false = refl

module _ (d : Device) (formats : Opens d) where
  still_empty : (reached d (start 7) (call (exist A) ∷ [])).stored ≡ fresh 15 1 64 ∷ []
  unfolding read_command write_command part number
  still_empty = same_empty (succeeded (at d (opened d (start 7)) (call (exist A))))

  proper_b : Proper 1 (named 1 (reached d (start 7) (call (exist A) ∷ [])).stored) 0x14 B (exist B)
  unfolding refusal steps read_command write_command part number
  proper_b = rw still_empty (record { nsid = refl; opcode = refl; key = refl; passes = refl })

  -- only 00h after the first command, whatever else is done
  pub posts_rejected : Misses d → Posts d → ⊥
  posts_rejected misses posts =
      let none = ap (λ (ss : List Namespace). lookup B (named 1 ss).pairs) still_empty in
      let g = misses (start 7) (call (exist A) ∷ []) 0x14 1 B (exist B) (formats (start 7) (start_begun 7)) none refl proper_b in
      let e = sym g.status ∙ posts _ _ _ _ _ _ refl g.number in
      omega arith

  -- 00h to all
  pub says_00h_rejected : Misses d → Says 0x00 d → ⊥
  says_00h_rejected misses says = posts_rejected misses (λ before m p e c b first. says before m p e c b)
