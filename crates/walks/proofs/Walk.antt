-- Demand 3, of each namespace: a walk finds all its keys once and in key order, whatever changes in the other meanwhile; with n keys it takes at
-- most n + 1 Lists. Assumes nothing.
use mathlib.Core.Path.{◌≡◌, refl, sym, ap, subst, ◌∙◌}
use mathlib.Core.Bool.{Bool, true, false, cond, not, ◌&&◌, ◌||◌, and-false, and-true}
use mathlib.Core.List.{List, [], ◌∷◌, ◌++◌, append-nil, append_assoc}
use Prim.Native.Nat.{ℕ, suc, ◌+◌, ◌-◌}
use native.Mathlib.Omega.{arith}
use lib.Dec.{eqb}
use lib.ListN.{length, length-append}
use borrow.Author.Tests.{not-true, eqb-false}
use Rattle.octets.specs.Octets.{put}
use Rattle.keys.specs.Keys.{Key, rising}
use Rattle.octets.proofs.TestLaws.{both, neither}
use Rattle.keys.proofs.OrderLaws.{true_rising}
use Rattle.octets.proofs.ZeroLaws.{same_self}
use Rattle.wire.specs.declared.entries.Command.{Command}
use Rattle.wire.specs.Entry.{read_command, is_store, is_delete}
use Rattle.sheets.specs.Page.{entry_size, page, fits, Reading, keys, read_page, shown}
use Rattle.sheets.proofs.PageLaws.{fits_next}
use Rattle.store.specs.Maps.{Pair, keys as keys_of}
use Rattle.store.specs.Namespace.{Namespace}
use Rattle.store.proofs.NamespaceLaws.{Within}
use Rattle.memory.specs.Namespaces.{at, with}
use Rattle.memory.specs.Memory.{Memory}
use Rattle.memory.proofs.NameLaws.{with_same}
use Rattle.memory.proofs.ImageLaws.{Holds}
use Rattle.rules.specs.Steps.{steps, status_of}
use Rattle.commands.specs.Answer.{answer, pairs_after}
use Rattle.module.specs.History.{Call, formatting, commanding, asking, polling, run, leaves, succeeded, changed, told}
use Rattle.module.proofs.HistoryLaws.{told_call}
use Rattle.promises.specs.Histories.{Start, begun, memory_after, stored_after, stored_in, never, changes}
use Rattle.promises.specs.Requests.{Request, call, sends, asked}
use Rattle.walks.specs.Walks.{page_read, new_on, last_of, Lists, Onward, ended, paused, next, Walk, Finds}
use Rattle.promises.proofs.RequestLaws.{holds_after, later_steps, named_one, gives}
use Rattle.promises.proofs.Retrieve.{unchanged_at}
use Rattle.promises.proofs.ShownLaws.{Pageable, pageable, pageable_right, fits_begins, fits_none, from_empty, from_stored, shown_read}
use Rattle.promises.proofs.Examples.{on_memory, start, start_begun, start_two, two_begun, A, key, store, store_two, exist, list}

-- ---- calls that change nothing in n

-- m holds namespaces, of which n has s
record Holding (n : ℕ) (s : Namespace) (m : Memory) : Type 0 where
  all : List Namespace
  holds : Holds all m
  is : at n all ≡ s

calm_pairs : (c : Command) (b : List ℕ) (m : List Pair) → (is_store c.opcode || is_delete c.opcode) ≡ false → pairs_after c b m ≡ m
calm_pairs c b m e = let q = neither (is_store c.opcode) (is_delete c.opcode) e in rw (q.0, q.1)

calm_told : (n : ℕ) (ss : List Namespace) (m : Memory) (x : Call) → not (changes n x (run m x)) ≡ true → at n (told ss x (run m x)) ≡ at n ss
calm_told n ss m (formatting l) q = rw (not-true (eqb (run m (formatting l)).number 0) q)
calm_told n ss m (asking i) q = refl
calm_told n ss m (commanding p e c b) q = go (succeeded (run m (commanding p e c b))) (eqb d.nsid n) refl (not-true _ q)
  where
    d : Command
    d = read_command e

    go : (z y : Bool) → eqb d.nsid n ≡ y → (z && (is_store d.opcode || is_delete d.opcode) && y) ≡ false
        → at n (cond z (changed d b ss) ss) ≡ at n ss
    go false y f o = refl
    go true false f o = unchanged_at d b n ss (λ i. absurd (eqb-false d.nsid n f i))
    go true true f o =
        let same = calm_pairs d b (at d.nsid ss).pairs (rw and-true at o) in
        ap (at n) (ap (λ (ps : List Pair). with d.nsid ps ss) same ∙ with_same d.nsid ss)

calm_holding : (n : ℕ) (s : Namespace) (m : Memory) (xs : List Call) → Holding n s m → never (changes n) m xs ≡ true → Holding n s (leaves m xs)
calm_holding n s m [] g c = g
calm_holding n s m (x ∷ xs) g c =
    let b = both _ _ c in
    calm_holding n s (run m x).after.memory xs
    (record {
      all = told g.all x (run m x);
      holds = told_call g.all m x g.holds;
      is = calm_told n g.all m x b.0 ∙ g.is;
    }) b.1

-- ---- a List

module _ (n : ℕ) (ss : List Namespace) (m : Memory) (k : Key) (x : Request) (h : Holds ss m) (l : Lists n (at n ss) k x) where
  abbrev its : Namespace
  its = at n ss

  passes : status_of true its (asked x) (length x.buffer) ≡ 0
  unfolding steps
  passes = later_steps its x l.proper.passes ∙ rw l.proper.opcode

  listed : answer true its (asked x) x.buffer
      ≡ record { status = 0; dword0 = 0; buffer = put 0 (page (shown (asked x).amount k (keys_of its.pairs))) x.buffer; pairs = its.pairs }
  unfolding answer
  listed = rw (passes, l.proper.opcode, l.proper.key)

  one_listed : Within its
  one_listed = named_one n ss m x h l.proper.nsid l.proper.passes

  reads_listed : page_read m x ≡ keys (shown (asked x).amount k (keys_of its.pairs))
  reads_listed =
      ap read_page (gives n ss m x h l.proper.nsid l.proper.passes _ listed (omega arith)).buffer
      ∙ shown_read its one_listed (asked x).amount k x.buffer

module _ (n : ℕ) (s : Namespace) (m : Memory) (k : Key) (x : Request) (g : Holding n s m) (l : Lists n s k x) where
  list_one : Within s
  list_one = subst (λ (t : Namespace). Lists n t k x → Within t) g.is (one_listed n g.all m k x g.holds) l

  list_reads : page_read m x ≡ keys (shown (asked x).amount k (keys_of s.pairs))
  list_reads =
      subst (λ (t : Namespace). Lists n t k x → page_read m x ≡ keys (shown (asked x).amount k (keys_of t.pairs))) g.is
      (reads_listed n g.all m k x g.holds) l

  list_holding : Holding n s (sends m x).after.memory
  list_holding = calm_holding n s m (call x ∷ []) g (rw (l.proper.opcode, and-false (succeeded (sends m x))))

-- ---- the walk

-- the last key, and those before it
unfoldable front : Key → List Key → List Key
front k [] = []
front k (j ∷ ks) = k ∷ front j ks

front_last : (k : Key) (ks rest : List Key) → front k ks ++ last_of k ks ∷ rest ≡ k ∷ ks ++ rest
unfolding front
front_last k [] rest = refl
front_last k (j ∷ ks) rest = ap (λ (l : List Key). k ∷ l) (front_last j ks rest)

found_more : {f : Bool} {pages : List Reading} (k : Key) (new rest todo : List Key) → k ∷ new ++ rest ≡ todo → Finds f rest pages
    → Finds f todo (keys (k ∷ new) ∷ pages)
found_more k new rest todo p t =
    let onto : List Key → List Key = λ l. k ∷ new ++ l in
    let many : suc (length new) + length rest ≡ length todo = simp length-append at (ap length p) in
    record {
      found = onto t.found;
      rest = t.rest;
      read = rw t.read;
      begins = append_assoc (k ∷ new) t.found t.rest ∙ ap onto t.begins ∙ p;
      ends = λ e. ap onto (t.ends e) ∙ p;
      few = omega (arith, t.few);
    }

module _ (n : ℕ) (s : Namespace) where
  abbrev ks : List Key
  ks = keys_of s.pairs

  -- a later page: from the stored key j it shows j, then the keys that fit of those after it
  later : (m : Memory) (x : Request) (js : List Key) (j : Key) (rest : List Key) → Holding n s m → Lists n s j x → js ++ j ∷ rest ≡ ks
      → new_on j (page_read m x) ≡ keys (fits ((asked x).amount - 4 - entry_size (length j)) rest)
  later m x js j rest h l e =
      let r = (asked x).amount in
      let p : Pageable (js ++ j ∷ rest) = rw e (pageable s (list_one n s m j x h l)) in
      let short = (pageable_right js (j ∷ rest) p).1.1 in
      rw (list_reads n s m j x h l, ← e, from_stored js j rest p.0, fits_next (r - 4) j rest (omega (arith, l.wide)), same_self j)

  -- js are shown, the page just read brings new, and todo is what is left to show, new included
  onward : {f : Bool} {m : Memory} {r : Reading} {pages : List Reading} → Onward n s f m r pages → Holding n s m
      → (js new rest todo : List Key) → r ≡ keys new → new ++ rest ≡ todo → js ++ todo ≡ ks → (new ≡ [] → todo ≡ []) → Finds f todo pages
  onward ended h js new rest todo b p e stop =
      let none = sym (stop (cc)) in
      record { found = []; rest = []; read = refl; begins = none; ends = λ t. none; few = omega arith }
  onward paused h js new rest todo b p e stop =
      record { found = new; rest = rest; read = rw b (ap keys (append-nil new)); begins = p; ends = λ t. cc; few = omega arith }
  onward (next {m = m} {k = k} {ks = new} xs x calm l walk) h js all rest todo b q e stop =
      let p : k ∷ new ++ rest ≡ todo = cc in
      let j = last_of k new in
      let held = calm_holding n s m xs h calm in
      let before : (js ++ front k new) ++ j ∷ rest ≡ ks =
      append_assoc js (front k new) (j ∷ rest) ∙ ap (λ (l : List Key). js ++ l) (front_last k new rest ∙ p) ∙ e in
      let sizes = (pageable_right (js ++ front k new) (j ∷ rest) (rw before (pageable s (list_one n s (leaves m xs) j x held l)))).1 in
      let r = (asked x).amount - 4 - entry_size (length j) in
      let part = fits_begins r rest in
      let brought = later (leaves m xs) x (js ++ front k new) j rest held l before in
      let tail = onward walk (list_holding n s (leaves m xs) j x held l) (js ++ k ∷ new) (fits r rest) part.0 rest brought part.1
      (append_assoc js (k ∷ new) rest ∙ ap (λ (l : List Key). js ++ l) p ∙ e)
      (fits_none r rest sizes.2 (omega (arith, sizes.1, l.wide))) in
      found_more k new rest todo p tail

-- each key of n once and in key order: the keys rise
pub walk_finds_all : (a : Start) (xs : List Call) (n : ℕ) {f : Bool} {pages : List Reading} → (begun a).number ≡ 0
    → Walk n (stored_in n a xs) (memory_after a xs) f pages
    → Finds f (keys_of (stored_in n a xs).pairs) pages × (rising (keys_of (stored_in n a xs).pairs) ≡ true)
walk_finds_all a xs n ok w =
    let s = stored_in n a xs in
    let m = memory_after a xs in
    let h : Holding n s m = record { all = stored_after a xs; holds = holds_after a xs ok; is = refl } in
    let r = (asked w.first).amount - 4 in
    let part = fits_begins r (ks n s) in
    let one = list_one n s m [] w.first h w.lists in
    let brought : page_read m w.first ≡ keys (fits r (ks n s)) =
    list_reads n s m [] w.first h w.lists ∙ ap (λ (l : List Key). keys (fits r l)) (from_empty (ks n s)) in (
      onward n s w.onward (list_holding n s m [] w.first h w.lists) [] (fits r (ks n s)) part.0 (ks n s) brought part.1 refl
          (fits_none r (ks n s) (pageable s one).1 (omega (arith, w.lists.wide))),
      true_rising (ks n s) one.rising,
    )

-- ---- an instance: three keys of sixteen bytes, of which 44 bytes hold two, and a command and a poll between the Lists

abbrev calls : List Call
calls = call (store (key 1) []) ∷ call (store (key 3) []) ∷ call (store (key 2) []) ∷ []

abbrev pages : List Reading
pages = keys (key 1 ∷ key 2 ∷ []) ∷ keys (key 3 ∷ []) ∷ keys [] ∷ []

walked : Walk 1 (stored_in 1 (start 7) calls) (memory_after (start 7) calls) true pages
unfolding on_memory
walked =
    record {
      first = list [];
      lists = record { proper = record { nsid = refl; opcode = refl; key = refl; passes = refl }; wide = omega arith };
      onward = next {k = key 1} {ks = key 2 ∷ []} (call (exist (key 1)) ∷ asking (polling 1) ∷ []) (list (key 2)) refl
          (record { proper = record { nsid = refl; opcode = refl; key = refl; passes = refl }; wide = omega arith })
          (next {k = key 3} {ks = []} [] (list (key 3)) refl
          (record { proper = record { nsid = refl; opcode = refl; key = refl; passes = refl }; wide = omega arith }) ended);
    }

finds : Finds true (keys_of (stored_in 1 (start 7) calls).pairs) pages
finds = (walk_finds_all (start 7) calls 1 (start_begun 7) walked).0

-- ---- and of two namespaces: the second stores the same key between the Lists of the first

abbrev single : List Call
single = call (store A []) ∷ []

abbrev beside : List Call
beside = call (store_two A []) ∷ []

walked_beside : Walk 1 (stored_in 1 (start_two 7) single) (memory_after (start_two 7) single) true (keys (A ∷ []) ∷ keys [] ∷ [])
unfolding on_memory
walked_beside =
    record {
      first = list [];
      lists = record { proper = record { nsid = refl; opcode = refl; key = refl; passes = refl }; wide = omega arith };
      onward = next {k = A} {ks = []} beside (list A) refl
          (record { proper = record { nsid = refl; opcode = refl; key = refl; passes = refl }; wide = omega arith }) ended;
    }

finds_beside : Finds true (keys_of (stored_in 1 (start_two 7) single).pairs) (keys (A ∷ []) ∷ keys [] ∷ [])
finds_beside = (walk_finds_all (start_two 7) single 1 (two_begun 7) walked_beside).0
