-- After a Store, Retrieve hands over its value and Exist finds the key; after a Delete neither does; over any history, with any calls in
-- between that leave that key of that namespace alone. Assumes nothing.
use mathlib.Core.Path.{◌≡◌, refl, sym, ap, ◌∙◌}
use mathlib.Core.Bool.{Bool, true, false, cond, not, ◌&&◌, ◌||◌, and-false, and-true}
use mathlib.Core.List.{List, [], ◌∷◌, ◌++◌}
use mathlib.Core.Option.{Option, none, some}
use Prim.Native.Nat.{ℕ}
use native.Mathlib.Omega.{arith}
use lib.Dec.{eqb}
use lib.ListN.{length, take, replicate}
use borrow.Author.Tests.{not-true, eqb-true, eqb-false, eq-eqb}
use Rattle.octets.specs.Octets.{put, same}
use Rattle.keys.specs.Keys.{Key}
use Rattle.octets.proofs.TestLaws.{both, contrary, known, holds, fails}
use Rattle.keys.proofs.OrderLaws.{Rising}
use Rattle.wire.specs.Entry.{read_command, key_of, is_store, is_retrieve, is_delete, is_exist}
use Rattle.wire.specs.declared.entries.Command.{Command}
use Rattle.store.specs.Maps.{Pair, keys, lookup, insert, erase}
use Rattle.store.specs.Namespace.{Namespace, with_pairs}
use Rattle.memory.specs.Namespaces.{held, at, with}
use Rattle.memory.specs.Memory.{Memory}
use Rattle.octets.proofs.ZeroLaws.{true_same}
use Rattle.store.proofs.MapLaws.{lookup_insert, lookup_insert_other, lookup_erase, lookup_erase_other}
use Rattle.memory.proofs.NameLaws.{at_id, at_same, at_other, with_none}
use Rattle.memory.proofs.ImageLaws.{Holds, holds_back, holds_legal}
use Rattle.rules.specs.Steps.{steps, status_of}
use Rattle.formatting.specs.Formatting.{blanks}
use Rattle.commands.specs.Answer.{answer, pairs_after}
use Rattle.commands.proofs.AnswerLaws.{refused, unrefused, value_small}
use Rattle.module.specs.History.{halves, Call, formatting, commanding, asking, run, leaves, succeeded, changed, told, stored}
use Rattle.module.proofs.HistoryLaws.{told_call}
use Rattle.promises.specs.Histories.{Start, begun, memory_after, stored_after, stored_in, never, touches}
use Rattle.promises.specs.Requests.{Request, call, sends, asked, Proper, Gives}
use Rattle.promises.specs.Retrieves.{value_in, Since}
use Rattle.promises.proofs.RequestLaws.{holds_after, at_rising, later_steps, named_one, gives}
use Rattle.promises.proofs.AnyMemory.{any_status}
use Rattle.promises.proofs.Examples.{on_map, on_memory, start, start_two, request_to, request, A, B, store, store_two, exist, vain}

-- ---- calls that leave a key alone

-- z: the call succeeds; x and y: it is a Store, a Delete; w: its key j is k
spared_pairs : (z x y w : Bool) (k j : Key) (v : List ℕ) (m : List Pair) → Rising (keys m) → (w ≡ false → ¬ (k ≡ j)) → (z && (x || y) && w) ≡ false
    → lookup k (cond z (cond x (insert j v m) (cond y (erase j m) m)) m) ≡ lookup k m
spared_pairs false x y w k j v m r o e = refl
spared_pairs true true y w k j v m r o e = lookup_insert_other k j v m (o e)
spared_pairs true false true w k j v m r o e = lookup_erase_other k j m r (o e)
spared_pairs true false false w k j v m r o e = refl

-- a change in n
pub changed_at_law : (c : Command) (b : List ℕ) (n : ℕ) (ss : List Namespace) → c.nsid ≡ n → held n ss ≡ true
    → at n (changed c b ss) ≡ with_pairs (at n ss) (pairs_after c b (at n ss).pairs)
changed_at_law c b n ss e h =
    ap (λ (j : ℕ). at n (with j (pairs_after c b (at j ss).pairs) ss)) e ∙ at_same n (pairs_after c b (at n ss).pairs) ss h

-- one elsewhere, and one of a namespace that is not there
pub unchanged_at : (c : Command) (b : List ℕ) (n : ℕ) (ss : List Namespace) → (c.nsid ≡ n → held n ss ≡ false) → at n (changed c b ss) ≡ at n ss
unchanged_at c b n ss out =
    elim (known (eqb c.nsid n)) [
      | fails f ↦ at_other n c.nsid _ ss (λ q. eqb-false c.nsid n f (sym q))
      | holds f ↦
          let e = eqb-true c.nsid n f in
          ap (λ (j : ℕ). at n (with j (pairs_after c b (at j ss).pairs) ss)) e ∙ ap (at n) (with_none n _ ss (out e))
    ]

spared_told : (n : ℕ) (k : Key) (ss : List Namespace) (m : Memory) (x : Call) → Holds ss m → not (touches n k x (run m x)) ≡ true
    → lookup k (at n (told ss x (run m x))).pairs ≡ lookup k (at n ss).pairs
spared_told n k ss m (formatting l) h q = rw (not-true (eqb (run m (formatting l)).number 0) q)
spared_told n k ss m (asking i) h q = refl
spared_told n k ss m (commanding p e c b) h q = go (succeeded (run m (commanding p e c b))) (eqb d.nsid n) refl (held n ss) refl (not-true _ q)
  where
    d : Command
    d = read_command e

    under : Namespace → Option (List ℕ)
    under s = lookup k s.pairs

    go : (z y : Bool) → eqb d.nsid n ≡ y → (t : Bool) → held n ss ≡ t
        → (z && (is_store d.opcode || is_delete d.opcode) && y && same (key_of d) k) ≡ false → under (at n (cond z (changed d b ss) ss)) ≡ under (at n ss)
    go false y f t g o = refl
    go true false f t g o = ap under (unchanged_at d b n ss (λ i. absurd (eqb-false d.nsid n f i)))
    go true true f false g o = ap under (unchanged_at d b n ss (λ i. g))
    go true true f true g o =
        ap under (changed_at_law d b n ss (eqb-true d.nsid n f) g)
        ∙ spared_pairs true (is_store d.opcode) (is_delete d.opcode) (same (key_of d) k) k (key_of d) _ (at n ss).pairs (at_rising n ss h)
        (λ u v. contrary (sym u ∙ true_same (key_of d) k (sym v))) (rw and-true at o)

spared : (n : ℕ) (k : Key) (ss : List Namespace) (m : Memory) (xs : List Call) → Holds ss m → never (touches n k) m xs ≡ true
    → lookup k (at n (stored ss m xs)).pairs ≡ lookup k (at n ss).pairs
spared n k ss m [] h q = refl
spared n k ss m (x ∷ xs) h q =
    let b = both _ _ q in
    spared n k (told ss x (run m x)) (run m x).after.memory xs (told_call ss m x h) b.1 ∙ spared_told n k ss m x h b.0

-- ---- what is held under the key of a Store or Delete that succeeded

stored_more : (ss : List Namespace) (m : Memory) (xs ys : List Call) → stored ss m (xs ++ ys) ≡ stored (stored ss m xs) (leaves m xs) ys
stored_more ss m [] ys = refl
stored_more ss m (x ∷ xs) ys = stored_more (told ss x (run m x)) (run m x).after.memory xs ys

-- a command that succeeded has named a namespace
pub done_held : (ss : List Namespace) (m : Memory) (x : Request) → Holds ss m → succeeded (sends m x) ≡ true → held (asked x).nsid ss ≡ true
done_held ss m x h done =
    let q = both _ _ done in
    let s = at (asked x).nsid ss in
    let st = any_status m x.post x.entry x.completion x.buffer (eqb-true _ 0 q.0) in
    let z = rw (holds_legal h, holds_back h) at (sym st ∙ eqb-true _ 0 q.1) in
    sym (at_id (asked x).nsid ss) ∙ eq-eqb (asked x).nsid s.id (unrefused true s (asked x) (length x.buffer) z).early.same

module _ (a : Start) (xs : List Call) (x : Request) (ys : List Call) (op n : ℕ) (k : Key) (since : Since a xs x ys op n k) where
  pairs_held : lookup k (stored_in n a (xs ++ call x ∷ ys)).pairs ≡ lookup k (pairs_after (asked x) x.buffer (stored_in n a xs).pairs)
  pairs_held =
      let ss = stored_after a xs in
      let m = memory_after a xs in
      let h = holds_after a xs since.formatted in
      let ts = told ss (call x) (sends m x) in
      let there : held n ss ≡ true = rw since.nsid at (done_held ss m x h since.done) in
      ap (λ (us : List Namespace). lookup k (at n us).pairs) (stored_more (blanks (halves a.layout)) (begun a).after xs (call x ∷ ys))
      ∙ spared n k ts (sends m x).after.memory ys (told_call ss m (call x) h) since.spared
      ∙ rw since.done (ap (λ (s : Namespace). lookup k s.pairs) (changed_at_law (asked x) x.buffer n ss since.nsid there))

  pub held_stored : op ≡ 0x01 → lookup k (stored_in n a (xs ++ call x ∷ ys)).pairs ≡ some (value_in x)
  held_stored o = pairs_held ∙ rw (since.opcode, o, since.key) (lookup_insert k (value_in x) (stored_in n a xs).pairs)

  held_deleted : op ≡ 0x10 → lookup k (stored_in n a (xs ++ call x ∷ ys)).pairs ≡ none
  held_deleted o =
      pairs_held
      ∙ rw (since.opcode, o, since.key) (lookup_erase k (stored_in n a xs).pairs (at_rising n (stored_after a xs) (holds_after a xs since.formatted)))

-- ---- what is answered of a key

module _ (n : ℕ) (s : Namespace) (k : Key) (op : ℕ) (r : Request) (p : Proper n s op k r) where
  absent_status : (is_retrieve op || is_delete op || is_exist op) ≡ true → lookup k s.pairs ≡ none → status_of true s (asked r) (length r.buffer) ≡ 0x87
  unfolding steps
  absent_status o e = later_steps s r p.passes ∙ rw (p.opcode, o, p.key, e)

  pub held_status : is_store op ≡ false → (v : List ℕ) → lookup k s.pairs ≡ some v → status_of true s (asked r) (length r.buffer) ≡ 0
  unfolding steps
  held_status o v e = later_steps s r p.passes ∙ rw (p.opcode, o, p.key, e, and-false)

module _ (n : ℕ) (ss : List Namespace) (m : Memory) (h : Holds ss m) (k : Key) (r : Request) where
  abbrev s : Namespace
  s = at n ss

  pub absent : (op : ℕ) → Proper n s op k r → (is_retrieve op || is_delete op || is_exist op) ≡ true → lookup k s.pairs ≡ none
      → Gives 0x87 0 r.buffer (sends m r)
  absent op p o e =
      let st = absent_status n s k op r p o e in
      gives n ss m r h p.nsid p.passes _ (rw st at (refused true s (asked r) r.buffer (rw st))) (omega arith)

  retrieved : (v : List ℕ) → lookup k s.pairs ≡ some v → Proper n s 0x02 k r
      → Gives 0x00 (length v) (put 0 (take (asked r).amount v) r.buffer) (sends m r)
  unfolding answer
  retrieved v e p =
      let small = rw e at (value_small s (named_one n ss m r h p.nsid p.passes) k) in
      gives n ss m r h p.nsid p.passes (record { status = 0; dword0 = length v; buffer = put 0 (take (asked r).amount v) r.buffer; pairs = s.pairs })
      (rw (held_status n s k 0x02 r p refl v e, p.opcode, p.key, e)) (omega arith)

  existing : (v : List ℕ) → lookup k s.pairs ≡ some v → Proper n s 0x14 k r → Gives 0x00 0 r.buffer (sends m r)
  unfolding answer
  existing v e p =
      gives n ss m r h p.nsid p.passes (record { status = 0; dword0 = 0; buffer = r.buffer; pairs = s.pairs })
      (rw (held_status n s k 0x14 r p refl v e, p.opcode)) (omega arith)

-- ---- the promises

-- the history is xs, then x, then ys; r is sent after it; both name n
module _ (a : Start) (xs : List Call) (x : Request) (ys : List Call) (n : ℕ) (k : Key) (r : Request) where
  pub retrieve_after_store : Since a xs x ys 0x01 n k → Proper n (stored_in n a (xs ++ call x ∷ ys)) 0x02 k r
      → Gives 0x00 (length (value_in x)) (put 0 (take (asked r).amount (value_in x)) r.buffer) (sends (memory_after a (xs ++ call x ∷ ys)) r)
  retrieve_after_store since =
      retrieved n _ _ (holds_after a (xs ++ call x ∷ ys) since.formatted) k r (value_in x) (held_stored a xs x ys 0x01 n k since refl)

  pub exist_after_store : Since a xs x ys 0x01 n k → Proper n (stored_in n a (xs ++ call x ∷ ys)) 0x14 k r
      → Gives 0x00 0 r.buffer (sends (memory_after a (xs ++ call x ∷ ys)) r)
  exist_after_store since =
      existing n _ _ (holds_after a (xs ++ call x ∷ ys) since.formatted) k r (value_in x) (held_stored a xs x ys 0x01 n k since refl)

  -- Retrieve, Exist, and a second Delete
  pub absent_after_delete : Since a xs x ys 0x10 n k → (op : ℕ) → (is_retrieve op || is_delete op || is_exist op) ≡ true
      → Proper n (stored_in n a (xs ++ call x ∷ ys)) op k r → Gives 0x87 0 r.buffer (sends (memory_after a (xs ++ call x ∷ ys)) r)
  absent_after_delete since op o p =
      absent n _ _ (holds_after a (xs ++ call x ∷ ys) since.formatted) k r op p o (held_deleted a xs x ys 0x10 n k since refl)

-- ---- instances: after another Store, a Store of the key that step j refuses, and calls that are refused

abbrev between : List Call
between = call (store B (9 ∷ [])) ∷ call (store A (replicate 64 0)) ∷ vain

abbrev delete : Request
delete = request 0x10 A 0 []

-- one byte of two, into a buffer of three
abbrev retrieve : Request
retrieve = request 0x02 A 1 (1 ∷ 2 ∷ 3 ∷ [])

after_store : Since (start 7) [] (store A (5 ∷ 6 ∷ [])) between 0x01 1 A
    × Proper 1 (stored_in 1 (start 7) (call (store A (5 ∷ 6 ∷ [])) ∷ between)) 0x02 A retrieve
    × Proper 1 (stored_in 1 (start 7) (call (store A (5 ∷ 6 ∷ [])) ∷ between)) 0x14 A (exist A)
unfolding on_memory
after_store = (search refl, search refl, search refl)

retrieves : Gives 0x00 2 (5 ∷ 2 ∷ 3 ∷ []) (sends (memory_after (start 7) (call (store A (5 ∷ 6 ∷ [])) ∷ between)) retrieve)
unfolding on_map
retrieves = retrieve_after_store (start 7) [] (store A (5 ∷ 6 ∷ [])) between 1 A retrieve after_store.0 after_store.1

exists : Gives 0x00 0 [] (sends (memory_after (start 7) (call (store A (5 ∷ 6 ∷ [])) ∷ between)) (exist A))
exists = exist_after_store (start 7) [] (store A (5 ∷ 6 ∷ [])) between 1 A (exist A) after_store.0 after_store.2

after_delete : Since (start 7) (call (store A []) ∷ []) delete between 0x10 1 A
    × Proper 1 (stored_in 1 (start 7) (call (store A []) ∷ call delete ∷ between)) 0x02 A retrieve
unfolding on_memory
after_delete = (search refl, search refl)

misses : Gives 0x87 0 (1 ∷ 2 ∷ 3 ∷ []) (sends (memory_after (start 7) (call (store A []) ∷ call delete ∷ between)) retrieve)
misses = absent_after_delete (start 7) (call (store A []) ∷ []) delete between 1 A retrieve after_delete.0 0x02 refl after_delete.1

-- ---- and of two namespaces: the other stores and deletes the same key in between

abbrev elsewhere : List Call
elsewhere = call (store_two A (9 ∷ [])) ∷ call (request_to 2 0x10 A 0 []) ∷ []

beside : Since (start_two 7) [] (store A (5 ∷ 6 ∷ [])) elsewhere 0x01 1 A
    × Proper 1 (stored_in 1 (start_two 7) (call (store A (5 ∷ 6 ∷ [])) ∷ elsewhere)) 0x02 A retrieve
unfolding on_memory
beside = (search refl, search refl)

retrieves_beside : Gives 0x00 2 (5 ∷ 2 ∷ 3 ∷ []) (sends (memory_after (start_two 7) (call (store A (5 ∷ 6 ∷ [])) ∷ elsewhere)) retrieve)
unfolding on_map
retrieves_beside = retrieve_after_store (start_two 7) [] (store A (5 ∷ 6 ∷ [])) elsewhere 1 A retrieve beside.0 beside.1
