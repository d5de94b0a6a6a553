-- A key that no call of a history stored with success in a namespace is answered with 87h there. Assumes nothing.
use mathlib.Core.Path.{◌≡◌, refl, sym, ap, ◌∙◌}
use mathlib.Core.Bool.{Bool, true, false, cond, not, ◌&&◌, ◌||◌, and-true}
use mathlib.Core.List.{List, [], ◌∷◌}
use mathlib.Core.Option.{Option, none}
use Prim.Native.Nat.{ℕ}
use lib.Dec.{eqb}
use lib.ListN.{take}
use borrow.Author.Tests.{not-true, eqb-true, eqb-false}
use Rattle.octets.specs.Octets.{same}
use Rattle.keys.specs.Keys.{Key}
use Rattle.octets.proofs.TestLaws.{contrary, both}
use Rattle.keys.proofs.OrderLaws.{Rising}
use Rattle.octets.proofs.ZeroLaws.{true_same, same_true}
use Rattle.wire.specs.declared.entries.Command.{Command}
use Rattle.wire.specs.Entry.{read_command, key_of, is_store, is_retrieve, is_delete, is_exist}
use Rattle.store.specs.Maps.{Pair, keys, lookup}
use Rattle.store.specs.Namespace.{Namespace, fresh}
use Rattle.store.proofs.MapLaws.{lookup_insert_other, lookup_erase, lookup_erase_other}
use Rattle.memory.specs.Namespaces.{held, at}
use Rattle.memory.specs.Memory.{Memory}
use Rattle.memory.proofs.ImageLaws.{Holds}
use Rattle.formatting.specs.declared.measures.Half.{Half}
use Rattle.formatting.specs.Formatting.{blanks}
use Rattle.commands.specs.Answer.{pairs_after}
use Rattle.module.specs.History.{halves, Call, formatting, commanding, asking, run, succeeded, changed, told, stored}
use Rattle.module.proofs.HistoryLaws.{begin_holds, told_call}
use Rattle.promises.specs.Histories.{Start, begun, memory_after, stored_after, stored_in, never}
use Rattle.promises.specs.Requests.{Request, call, sends, Proper, Gives}
use Rattle.promises.specs.Calls.{stores}
use Rattle.promises.proofs.RequestLaws.{holds_after, at_rising}
use Rattle.promises.proofs.Retrieve.{absent, changed_at_law, unchanged_at}
use Rattle.promises.proofs.Examples.{on_memory, start, start_begun, start_two, two_begun, B, exist, store_two, vain}

none_pairs : (z : Bool) (k : Key) (c : Command) (b : List ℕ) (m : List Pair) → Rising (keys m) → lookup k m ≡ none
    → (z && is_store c.opcode && same (key_of c) k) ≡ false → lookup k (cond z (pairs_after c b m) m) ≡ none
none_pairs false k c b m r n e = n
none_pairs true k c b m r n e = go (is_store c.opcode) refl (is_delete c.opcode) refl (same (key_of c) k) refl
  where
    other : same (key_of c) k ≡ false → ¬ (k ≡ key_of c)
    other f q = contrary (sym f ∙ true_same (key_of c) k (sym q))

    go : (x : Bool) → is_store c.opcode ≡ x → (y : Bool) → is_delete c.opcode ≡ y → (z : Bool) → same (key_of c) k ≡ z
        → lookup k (pairs_after c b m) ≡ none
    go true f y g z h = rw f (lookup_insert_other k (key_of c) (take c.amount b) m (other (rw f at e)) ∙ n)
    go false f true g true h = rw (f, g, same_true (key_of c) k h) (lookup_erase k m r)
    go false f true g false h = rw (f, g) (lookup_erase_other k (key_of c) m r (other h) ∙ n)
    go false f false g z h = rw (f, g) n

-- a namespace that was just formatted, or is not there, holds no pair
blank_pairs : (n : ℕ) (hs : List Half) → (at n (blanks hs)).pairs ≡ []
blank_pairs n [] = refl
blank_pairs n (g ∷ hs) = by (eqb n g.id) (blank_pairs n hs)
  where
    by : (z : Bool) → (at n (blanks hs)).pairs ≡ [] → (cond z (fresh g.index g.id g.size) (at n (blanks hs))).pairs ≡ []
    by true r = refl
    by false r = r

none_told : (n : ℕ) (k : Key) (ss : List Namespace) (m : Memory) (x : Call) → Holds ss m → lookup k (at n ss).pairs ≡ none
    → not (stores n k x (run m x)) ≡ true → lookup k (at n (told ss x (run m x))).pairs ≡ none
none_told n k ss m (formatting l) h e q = go (eqb (run m (formatting l)).number 0)
  where
    go : (z : Bool) → lookup k (at n (cond z (blanks (halves l)) ss)).pairs ≡ none
    go true = ap (lookup k) (blank_pairs n (halves l))
    go false = e
none_told n k ss m (asking i) h e q = e
none_told n k ss m (commanding p e c b) h f q = go (succeeded (run m (commanding p e c b))) (eqb d.nsid n) refl (held n ss) refl (not-true _ q)
  where
    d : Command
    d = read_command e

    under : Namespace → Option (List ℕ)
    under s = lookup k s.pairs

    go : (z y : Bool) → eqb d.nsid n ≡ y → (t : Bool) → held n ss ≡ t → (z && is_store d.opcode && y && same (key_of d) k) ≡ false
        → under (at n (cond z (changed d b ss) ss)) ≡ none
    go false y u t g o = f
    go true false u t g o = ap under (unchanged_at d b n ss (λ i. absurd (eqb-false d.nsid n u i))) ∙ f
    go true true u false g o = ap under (unchanged_at d b n ss (λ i. g)) ∙ f
    go true true u true g o =
        ap under (changed_at_law d b n ss (eqb-true d.nsid n u) g) ∙ none_pairs true k d b (at n ss).pairs (at_rising n ss h) f (rw and-true at o)

none_stored : (n : ℕ) (k : Key) (ss : List Namespace) (m : Memory) (xs : List Call) → Holds ss m → lookup k (at n ss).pairs ≡ none
    → never (stores n k) m xs ≡ true → lookup k (at n (stored ss m xs)).pairs ≡ none
none_stored n k ss m [] h e q = e
none_stored n k ss m (x ∷ xs) h e q =
    let b = both _ _ q in
    none_stored n k (told ss x (run m x)) (run m x).after.memory xs (told_call ss m x h) (none_told n k ss m x h e b.0) b.1

-- ---- the promise

-- a key that is not stored is answered with 87h
pub absent_87h : (a : Start) (xs : List Call) (op n : ℕ) (k : Key) (r : Request) → (begun a).number ≡ 0
    → lookup k (stored_in n a xs).pairs ≡ none → (is_retrieve op || is_delete op || is_exist op) ≡ true → Proper n (stored_in n a xs) op k r
    → Gives 0x87 0 r.buffer (sends (memory_after a xs) r)
absent_87h a xs op n k r ok e o p = absent n (stored_after a xs) (memory_after a xs) (holds_after a xs ok) k r op p o e

-- and so is one that no call has stored since the formatting, in that namespace
pub never_stored_87h : (a : Start) (xs : List Call) (op n : ℕ) (k : Key) (r : Request) → (begun a).number ≡ 0
    → never (stores n k) (begun a).after xs ≡ true → (is_retrieve op || is_delete op || is_exist op) ≡ true → Proper n (stored_in n a xs) op k r
    → Gives 0x87 0 r.buffer (sends (memory_after a xs) r)
never_stored_87h a xs op n k r ok q =
    let h = begin_holds a.layout a.lent ok in
    absent_87h a xs op n k r ok
    (none_stored n k (blanks (halves a.layout)) (begun a).after xs h (ap (lookup k) (blank_pairs n (halves a.layout))) q)

-- ---- an instance: of the calls before it a Store of B is one, which step j refuses

met : (never (stores 1 B) (begun (start 7)).after vain ≡ true) × Proper 1 (stored_in 1 (start 7) vain) 0x14 B (exist B)
unfolding on_memory
met = (refl, record { nsid = refl; opcode = refl; key = refl; passes = refl })

missing : Gives 0x87 0 [] (sends (memory_after (start 7) vain) (exist B))
missing = never_stored_87h (start 7) vain 0x14 1 B (exist B) (start_begun 7) met.0 refl met.1

-- ---- and one that the other namespace has stored

beside : (never (stores 1 B) (begun (start_two 7)).after (call (store_two B (5 ∷ [])) ∷ []) ≡ true)
    × Proper 1 (stored_in 1 (start_two 7) (call (store_two B (5 ∷ [])) ∷ [])) 0x14 B (exist B)
unfolding on_memory
beside = (refl, record { nsid = refl; opcode = refl; key = refl; passes = refl })

missing_beside : Gives 0x87 0 [] (sends (memory_after (start_two 7) (call (store_two B (5 ∷ [])) ∷ [])) (exist B))
missing_beside = never_stored_87h (start_two 7) (call (store_two B (5 ∷ [])) ∷ []) 0x14 1 B (exist B) (two_begun 7) beside.0 refl beside.1
