-- After a formatting of any bytes and any calls, memory is the image of what numbers and statuses tell, and the bytes past the needed
-- part are as lent; the same pairs are the same bytes (document 01, "The store's memory"). Assumes nothing.
use mathlib.Core.Path.{◌≡◌, refl, sym, ap, ◌∙◌}
use mathlib.Core.Bool.{Bool, true, false, cond, not}
use mathlib.Core.List.{List, [], ◌∷◌, ◌++◌}
use Prim.Native.Nat.{ℕ}
use lib.Dec.{eqb}
use borrow.Author.Tests.{not-true}
use Rattle.octets.proofs.TestLaws.{both}
use Rattle.store.specs.Maps.{Pair, pair}
use Rattle.store.specs.Namespace.{Namespace, with_pairs, fresh}
use Rattle.store.proofs.NamespaceLaws.{Within as One}
use Rattle.store.proofs.MapLaws.{map_ext}
use Rattle.memory.specs.Namespaces.{total, slots_of, size_of, with}
use Rattle.memory.specs.Memory.{directory_of, values_of, Memory}
use Rattle.memory.proofs.JoinLaws.{Each}
use Rattle.memory.proofs.LimitLaws.{within_all}
use Rattle.memory.proofs.NameLaws.{with_total}
use Rattle.memory.proofs.ImageLaws.{Holds}
use Rattle.formatting.specs.Formatting.{half, blanks}
use Rattle.commands.proofs.CommandLaws.{Kept}
use Rattle.module.specs.History.{one, halves, begin, Call, formatting, commanding, asking, run, leaves, succeeded, told, stored, formats}
use Rattle.module.proofs.HistoryLaws.{begin_refused, begin_holds, begin_kept, told_call, command_kept}
use Rattle.wire.specs.Entry.{read_command}
use Rattle.promises.specs.Histories.{Start, begun, memory_after, stored_after, Shows, SamePast, SameNeeded, AllPairs, never}
use Rattle.promises.specs.Requests.{call}
use Rattle.promises.proofs.RequestLaws.{holds_after}
use Rattle.promises.proofs.Examples.{on_memory, start, start_begun, start_two, two_begun, A, B, store, store_two, vain}

-- ---- the image of what is stored

pub history : (a : Start) (xs : List Call) → (begun a).number ≡ 0 → Shows (stored_after a xs) (memory_after a xs)
history a xs ok =
    let h = holds_after a xs ok in
    record { within = within_all (stored_after a xs) h.within; directory = h.directory; values = h.values }

-- ---- bytes past the needed part

-- what is needed stays as long as nothing formats
told_total : (f : Namespace → ℕ) (z : Bool) (n : ℕ) (ps : List Pair) (ss : List Namespace) → ((s : Namespace) (qs : List Pair) → f (with_pairs s qs) ≡ f s)
    → total f (cond z (with n ps ss) ss) ≡ total f ss
told_total f true n ps ss e = with_total f n ps (λ s. e s ps) ss
told_total f false n ps ss e = refl

-- a call that does not format leaves them and the formatting
stays : (ss : List Namespace) (m : Memory) (x : Call) → Holds ss m → not (formats x (run m x)) ≡ true
    → Kept ss m (run m x).after.memory × (total slots_of (told ss x (run m x)) ≡ total slots_of ss) × (total size_of (told ss x (run m x)) ≡ total size_of ss)
stays ss m (commanding p e c b) h n =
    let z = succeeded (run m (commanding p e c b)) in (
      command_kept ss m p e c b h,
      told_total slots_of z (read_command e).nsid _ ss (λ s qs. refl),
      told_total size_of z (read_command e).nsid _ ss (λ s qs. refl),
    )
stays ss m (asking k) h q = (record { directory = refl; values = refl }, refl, refl)
stays ss m (formatting l) h q =
    let e : eqb (begin l m).number 0 ≡ false = not-true _ q in
    rw (begin_refused l m e, e) (record { directory = refl; values = refl }, refl, refl)

-- and so do calls of which none formats
pub stay : (ss : List Namespace) (m : Memory) (xs : List Call) → Holds ss m → never formats m xs ≡ true
    → Kept ss m (leaves m xs) × (total slots_of (stored ss m xs) ≡ total slots_of ss) × (total size_of (stored ss m xs) ≡ total size_of ss)
stay ss m [] h n = (record { directory = refl; values = refl }, refl, refl)
stay ss m (x ∷ xs) h n =
    let b = both _ _ n in
    let k = stays ss m x h b.0 in
    let r = stay (told ss x (run m x)) (run m x).after.memory xs (told_call ss m x h) b.1 in (
      record { directory = rw k.1 at r.0.directory ∙ k.0.directory; values = rw k.2 at r.0.values ∙ k.0.values },
      r.1 ∙ k.1,
      r.2 ∙ k.2,
    )

pub past_as_lent : (a : Start) (xs : List Call) → (begun a).number ≡ 0 → never formats (begun a).after xs ≡ true
    → SamePast (blanks (halves a.layout)) a.lent (memory_after a xs)
past_as_lent a xs ok n =
    let ss = blanks (halves a.layout) in
    let f = begin_kept a.layout a.lent ok in
    let k = (stay ss (begun a).after xs (begin_holds a.layout a.lent ok) n).0 in
    record { directory = sym (k.directory ∙ f.directory); values = sym (k.values ∙ f.values) }

-- ---- the same bytes

-- the same pairs are one list
same_spaces : (ss ts : List Namespace) → Each One ss → Each One ts → AllPairs ss ts → ss ≡ ts
same_spaces [] [] w v e = refl
same_spaces [] (t ∷ ts) w v e = absurd e
same_spaces (s ∷ ss) [] w v e = absurd e
same_spaces (s ∷ ss) (t ∷ ts) w v e =
    let p = map_ext s.pairs t.pairs w.0.rising v.0.rising e.0.pairs in
    let r = same_spaces ss ts w.1 v.1 e.1 in
    λ i. record { index = e.0.index i; id = e.0.id i; size = e.0.size i; pairs = p i } ∷ r i

pub same_bytes : (a b : Start) (xs ys : List Call) → (begun a).number ≡ 0 → (begun b).number ≡ 0 → AllPairs (stored_after a xs) (stored_after b ys)
    → SameNeeded (stored_after a xs) (memory_after a xs) (memory_after b ys)
same_bytes a b xs ys okA okB e =
    let h = holds_after a xs okA in
    let g = holds_after b ys okB in
    let same = same_spaces (stored_after a xs) (stored_after b ys) h.within.each g.within.each e in
    record { directory = h.directory ∙ ap directory_of same ∙ sym (rw same g.directory); values = h.values ∙ ap values_of same ∙ sym (rw same g.values) }

-- ---- instances: on bytes that were all 7 or all 9, of one namespace

abbrev kept : List Call
kept = call (store A (5 ∷ 6 ∷ [])) ∷ vain

abbrev anew : List Call
anew = call (store A []) ∷ formatting (one (half 15 1 64)) ∷ call (store B (7 ∷ [])) ∷ kept

abbrev turned : List Call
turned = kept ++ call (store B (7 ∷ [])) ∷ []

abbrev kept_stored : List Namespace
kept_stored = with_pairs (fresh 15 1 64) (pair A (5 ∷ 6 ∷ []) ∷ pair B (7 ∷ []) ∷ []) ∷ []

met : (stored_after (start 7) anew ≡ kept_stored) × (never formats (begun (start 7)).after kept ≡ true)
    × AllPairs (stored_after (start 7) anew) (stored_after (start 9) turned)
unfolding on_memory
met = (refl, refl, (record { index = refl; id = refl; size = refl; pairs = λ k. refl }, tt))

shows : Shows (stored_after (start 7) anew) (memory_after (start 7) anew)
shows = history (start 7) anew (start_begun 7)

past : SamePast (fresh 15 1 64 ∷ []) (start 7).lent (memory_after (start 7) kept)
past = past_as_lent (start 7) kept (start_begun 7) met.1

same : SameNeeded (stored_after (start 7) anew) (memory_after (start 7) anew) (memory_after (start 9) turned)
same = same_bytes (start 7) (start 9) anew turned (start_begun 7) (start_begun 9) met.2

-- ---- and of two: the same key in both, in either order

abbrev first : List Call
first = call (store A (5 ∷ [])) ∷ call (store_two A (6 ∷ 7 ∷ [])) ∷ []

abbrev second : List Call
second = call (store_two A (6 ∷ 7 ∷ [])) ∷ call (store A (5 ∷ [])) ∷ []

met_two : AllPairs (stored_after (start_two 7) first) (stored_after (start_two 9) second)
    × (stored_after (start_two 7) first ≡ with_pairs (fresh 15 1 64) (pair A (5 ∷ []) ∷ []) ∷ with_pairs (fresh 15 2 64) (pair A (6 ∷ 7 ∷ []) ∷ []) ∷ [])
unfolding on_memory
met_two = (
  (record { index = refl; id = refl; size = refl; pairs = λ k. refl }, (record { index = refl; id = refl; size = refl; pairs = λ k. refl }, tt)),
  refl,
)

same_two : SameNeeded (stored_after (start_two 7) first) (memory_after (start_two 7) first) (memory_after (start_two 9) second)
same_two = same_bytes (start_two 7) (start_two 9) first second (two_begun 7) (two_begun 9) met_two.0
