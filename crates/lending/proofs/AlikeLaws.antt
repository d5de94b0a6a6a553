-- Memories alike in the needed part: they hold the same, are both legal or neither, and say the same in their heads. Assumes nothing.
use mathlib.Core.Path.{◌≡◌, refl, sym, ap, ◌∙◌}
use mathlib.Core.Bool.{Bool, true, false, cond}
use mathlib.Core.List.{List, [], ◌∷◌}
use Prim.Native.Nat.{ℕ, ◌+◌, ◌*◌, ◌≤◌}
use native.Mathlib.Omega.{arith}
use lib.Dec.{eqb, ltb}
use lib.ListN.{length, take, length-take}
use borrow.Author.Tests.{ltb-true, ltb-false}
use Rattle.octets.specs.Octets.{part}
use Rattle.octets.proofs.PartLaws.{part_take}
use Rattle.store.specs.declared.namespaces.Label.{Label}
use Rattle.table.specs.Formats.{slots}
use Rattle.store.specs.Namespace.{Namespace}
use Rattle.memory.specs.Namespaces.{total, slots_of, size_of}
use Rattle.memory.specs.Memory.{Memory, needed, label_at, label_in, namespace_at, namespaces_of, legal}
use Rattle.memory.proofs.ImageLaws.{Holds, holds_back, holds_legal, legal_holds}
use Rattle.promises.specs.Histories.{SameNeeded}

-- the needed part is as long as the first one's head says
abbrev pub Alike : Memory → Memory → Type 0
Alike m n = SameNeeded (namespaces_of m) m n

pub alike_holds : {ss : List Namespace} {m n : Memory} → Holds ss m → Alike m n → Holds ss n
alike_holds h a =
    let b = holds_back h in
    record { within = h.within; directory = sym (rw b at a.directory) ∙ h.directory; values = sym (rw b at a.values) ∙ h.values }

-- what is needed, by the numbers in the two halves
abbrev pub total_by : (Label → ℕ) → List ℕ → ℕ
total_by f d = f (label_at 0 d) + cond (eqb (label_at 32 d).id 0) 0 (f (label_at 32 d) + 0)

two_total : (f : Namespace → ℕ) (z : Bool) (s t : Namespace) → total f (s ∷ cond z [] (t ∷ [])) ≡ f s + cond z 0 (f t + 0)
two_total f true s t = refl
two_total f false s t = refl

pub slots_by_law : (m : Memory) → total slots_of (namespaces_of m) ≡ total_by (λ h. slots h.index) m.directory
unfolding namespaces_of namespace_at
slots_by_law m =
    let s = namespace_at 0 64 0 m in
    two_total slots_of (eqb (label_at 32 m.directory).id 0) s (namespace_at 32 (64 + 32 * slots_of s) s.size m)

pub sizes_by : (m : Memory) → total size_of (namespaces_of m) ≡ total_by (λ h. h.size) m.directory
unfolding namespaces_of namespace_at
sizes_by m =
    let s = namespace_at 0 64 0 m in
    two_total size_of (eqb (label_at 32 m.directory).id 0) s (namespace_at 32 (64 + 32 * slots_of s) s.size m)

module _ {m n : Memory} (a : Alike m n) where
  pub alike_label : (half : ℕ) → half + 32 ≤ 64 → label_at half n.directory ≡ label_at half m.directory
  alike_label half h =
      let i = needed (namespaces_of m) in
      ap label_in
      (sym (part_take half 32 i n.directory (omega arith)) ∙ sym (ap (part half 32) a.directory) ∙ part_take half 32 i m.directory (omega arith))

  alike_total : (f : Label → ℕ) → total_by f n.directory ≡ total_by f m.directory
  alike_total f = rw (alike_label 0 (omega arith), alike_label 32 (omega arith))

  pub alike_turned : Alike n m
  alike_turned =
      record {
        directory = rw (slots_by_law n ∙ alike_total (λ h. slots h.index) ∙ sym (slots_by_law m)) (sym a.directory);
        values = rw (sizes_by n ∙ alike_total (λ h. h.size) ∙ sym (sizes_by m)) (sym a.values);
      }

pub alike_legal : {m n : Memory} → Alike m n → legal m ≡ true → legal n ≡ true
alike_legal {m} a e = holds_legal (alike_holds (legal_holds m e) a)

-- whether a slice is too short shows in its needed part
pub short_same : (k : ℕ) (xs ys : List ℕ) → take k xs ≡ take k ys → ltb (length xs) k ≡ ltb (length ys) k
short_same k xs ys e = go (ltb (length xs) k) refl (ltb (length ys) k) refl
  where
    go : (x : Bool) → ltb (length xs) k ≡ x → (y : Bool) → ltb (length ys) k ≡ y → ltb (length xs) k ≡ ltb (length ys) k
    go true f true g = f ∙ sym g
    go false f false g = f ∙ sym g
    go true f false g = absurd (omega (arith, simp length-take at (ap length e), ltb-true, ltb-false))
    go false f true g = absurd (omega (arith, simp length-take at (ap length e), ltb-true, ltb-false))
