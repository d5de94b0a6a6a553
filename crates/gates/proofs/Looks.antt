-- The quick look on legal memory, over any history and on any bytes (request [4]). Assumes nothing.
use mathlib.Core.Path.{◌≡◌, refl, ap, ◌∙◌}
use mathlib.Core.Bool.{Bool, true, false, cond}
use mathlib.Core.List.{List}
use Prim.Native.Nat.{ℕ, ◌^◌, ◌≤◌, ◌<◌}
use lib.Dec.{eqb}
use lib.ListN.{length}
use Rattle.keys.specs.Keys.{Key}
use Rattle.store.specs.Maps.{keys}
use Rattle.store.specs.Namespace.{Namespace}
use Rattle.store.proofs.RankLaws.{length_keys, has_present}
use Rattle.memory.specs.Namespaces.{held, at}
use Rattle.memory.specs.Memory.{Memory}
use Rattle.memory.proofs.NameLaws.{at_id, at_within}
use Rattle.memory.proofs.ImageLaws.{Holds, legal_holds}
use Rattle.quick.specs.Search.{search_keys}
use Rattle.quick.specs.Known.{no_key, no_look, known}
use Rattle.quick.proofs.SearchLaws.{search_few, search_finds}
use Rattle.quick.proofs.KnownLaws.{known_held}
use Rattle.quick.proofs.SeenLaws.{looked_few, looked_eleven, same_seen}
use Rattle.module.specs.History.{Call}
use Rattle.promises.specs.Histories.{Start, begun, memory_after, stored_after}
use Rattle.promises.proofs.RequestLaws.{holds_after}
use Rattle.gates.specs.Looks.{Says, SaysLegal, SaysHistory, GoesBy}

module _ {ss : List Namespace} {m : Memory} (h : Holds ss m) (k : Key) (n : ℕ) (q : no_key k ≡ false) where
  says_held : held n ss ≡ true → Says k (at n ss).pairs (known k n m)
  says_held t =
      let s = at n ss in
      let own : eqb n s.id ≡ true = at_id n ss ∙ t in
      let r = (at_within n ss h.within.each t).rising in
      let found = search_finds k (keys s.pairs) r ∙ has_present k s.pairs in
      let few : (i : ℕ) → length s.pairs < 2 ^ i → length (search_keys k (keys s.pairs)).slots ≤ i =
      λ i l. search_few (length (keys s.pairs)) _ 0 (length (keys s.pairs)) i (rw (length_keys s.pairs) l) in
      rw (known_held k n h, q, own) (record { number = refl; known = ap (λ (z : Bool). cond z 1 0) found; looked = few })

  unheld_is : held n ss ≡ false → known k n m ≡ no_look 23
  unheld_is t = known_held k n h ∙ rw (q, at_id n ss, t)

-- ---- the promises

pub says_legal : SaysLegal known
says_legal k n m ok t q = says_held (legal_holds m ok) k n q t

pub says_history : SaysHistory known
says_history a xs k n ok t q = says_held (holds_after a xs ok) k n q t

pub goes_by : GoesBy known
unfolding known
goes_by = record { counts = λ k n m. refl; few = looked_few; eleven = looked_eleven; same = λ k n m o s. (same_seen k n m o s).1 }

-- an id that the history holds under no namespace
pub unheld : (a : Start) (xs : List Call) (k : Key) (n : ℕ) → (begun a).number ≡ 0 → held n (stored_after a xs) ≡ false → no_key k ≡ false
    → known k n (memory_after a xs) ≡ no_look 23
unheld a xs k n ok t q = unheld_is (holds_after a xs ok) k n q t
