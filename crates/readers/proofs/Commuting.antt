-- Two calls on different namespaces hand back and leave the same in either order (request [14]). Assumes nothing.
use mathlib.Core.Path.{◌≡◌, refl, sym, ◌∙◌}
use mathlib.Core.Bool.{true}
use mathlib.Core.List.{List, [], ◌∷◌, ◌++◌}
use Prim.Native.Nat.{ℕ}
use native.Mathlib.Omega.{arith}
use Rattle.octets.specs.Octets.{zeros}
use Rattle.octets.proofs.TestLaws.{contrary}
use Rattle.store.specs.Namespace.{Namespace}
use Rattle.memory.specs.Memory.{Memory, namespaces_of, legal}
use Rattle.memory.proofs.ImageLaws.{Holds, holds_legal, legal_holds}
use Rattle.module.specs.History.{Call, formatting, commanding, asking, run, told, formats}
use Rattle.module.proofs.HistoryLaws.{told_call}
use Rattle.farms.specs.Sides.{real, next}
use Rattle.promises.specs.Histories.{Start, begun, memory_after, stored_after, never}
use Rattle.promises.specs.Requests.{call}
use Rattle.promises.proofs.History.{history}
use Rattle.promises.proofs.Images.{shows_legal}
use Rattle.promises.proofs.Examples.{on_map, on_memory, start_two, two_begun, request_to, A, store, store_two}
use Rattle.readers.specs.Orders.{returned, given, EitherOrder, named, Commutes}
use Rattle.readers.specs.Mixing.{Keeps}
use Rattle.readers.proofs.Answers.{given_same, told_given, told_other, told_either}
use Rattle.readers.proofs.Left.{same_left}

-- memory after a formatting and any calls is legal
pub legal_after : (a : Start) (xs : List Call) → (begun a).number ≡ 0 → legal (memory_after a xs) ≡ true
legal_after a xs ok = shows_legal (stored_after a xs) (memory_after a xs) (history a xs ok)

-- neither formats
none_formats : (i j : ℕ) (m : Memory) (x y : Call) → named i x ≡ true → named j y ≡ true → never formats m (x ∷ y ∷ []) ≡ true
none_formats i j m (formatting l) y f g = absurd (contrary f)
none_formats i j m (commanding p e c b) (formatting l) f g = absurd (contrary g)
none_formats i j m (commanding p e c b) (commanding q r s t) f g = refl
none_formats i j m (commanding p e c b) (asking k) f g = refl
none_formats i j m (asking n) (formatting l) f g = absurd (contrary g)
none_formats i j m (asking n) (commanding q r s t) f g = refl
none_formats i j m (asking n) (asking k) f g = refl

-- another's call changes nothing that is handed back
unseen : (i j : ℕ) (ss : List Namespace) (m : Memory) (x y : Call) → Holds ss m → ¬ (i ≡ j) → named i x ≡ true → named j y ≡ true
    → given real (next real m y) x ≡ given real m x
unseen i j ss m x y h d f g = given_same i (told ss y (run m y)) ss (next real m y) m x (told_call ss m y h) h (told_other i j ss y (run m y) d g) f

pub commutes : Commutes real
commutes m i j x y ok d f g =
    let ss = namespaces_of m in
    let h = legal_holds m ok in
    let one = unseen i j ss m x y h d f g in
    let other = unseen j i ss m y x h (λ e. d (sym e)) g f in
    let same = told_given j (told ss x (run m x)) (next real m x) m y g other ∙ told_either i j ss x y (run m x) (run m y) d f g
    ∙ sym (told_given i (told ss y (run m y)) (next real m y) m x f one) in
    record {
      first = one;
      second = other;
      left = same_left ss m (x ∷ y ∷ []) (y ∷ x ∷ []) h (none_formats i j m x y f g) (none_formats j i m y x g f) same;
    }

pub keeps : Keeps real
keeps m x ok = holds_legal (told_call (namespaces_of m) m x (legal_holds m ok))

-- ---- an instance: the same key stored in both namespaces, and a Store of an id that neither has

abbrev pub both : Memory
both = (begun (start_two 7)).after

abbrev one : Call
one = call (store A (5 ∷ []))

abbrev other : Call
other = call (store_two A (6 ∷ []))

abbrev neither : Call
neither = call (request_to 9 0x01 A 1 (6 ∷ []))

either : EitherOrder real both one other
unfolding on_map
either = commutes both 1 2 one other (legal_after (start_two 7) [] (two_begun 7)) (λ e. omega arith) refl refl

refused : given real (next real both one) neither ≡ returned 0 (zeros 14 ++ 0x16 ∷ 0x00 ∷ []) (6 ∷ [])
unfolding on_memory
refused = (commutes both 1 9 one neither (legal_after (start_two 7) [] (two_begun 7)) (λ e. omega arith) refl refl).second
