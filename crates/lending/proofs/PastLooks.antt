-- A quick look asks for no more of memory than its needed part, legal or not, and comes to no slot behind it. Assumes nothing.
use mathlib.Core.Path.{◌≡◌, refl, sym, ap, ◌∙◌}
use mathlib.Core.Bool.{Bool, true, false, cond}
use mathlib.Core.List.{List}
use Prim.Native.Nat.{ℕ, ◌+◌, ◌*◌, ◌≤◌, ◌<◌}
use native.Mathlib.Omega.{arith}
use lib.Dec.{leb, ltb, eqb}
use lib.ListN.{length, take}
use lib.Seq.{take-take}
use borrow.Author.Tests.{le-leb, lt-leb, ltb-true, ltb-false}
use Rattle.octets.specs.Octets.{part}
use Rattle.octets.proofs.TestLaws.{known as split, holds, fails}
use Rattle.octets.proofs.PartLaws.{part_take}
use Rattle.keys.specs.Keys.{Key}
use Rattle.store.specs.declared.namespaces.Label.{Label}
use Rattle.table.specs.Formats.{slots}
use Rattle.memory.specs.Namespaces.{total, slots_of}
use Rattle.memory.specs.Memory.{Memory, needed, needed_values, label_at, namespaces_of}
use Rattle.quick.specs.Heads.{size_by, run_by, run_of}
use Rattle.quick.specs.Known.{record_at, search_for, known}
use Rattle.quick.proofs.SearchLaws.{each_map}
use Rattle.quick.proofs.SeenLaws.{slots_asked, seen_lies, seen_known}
use Rattle.lending.proofs.AlikeLaws.{Alike, total_by, slots_by_law, sizes_by, alike_label, short_same}

module _ {m n : Memory} (a : Alike m n) where
  abbrev asked_for : (Label → ℕ) → ℕ
  asked_for f = f (label_at 0 m.directory) + f (label_at 32 m.directory)

  none_more : (f : Label → ℕ) → asked_for (λ h. cond (eqb h.id 0) 0 (f h)) ≤ total_by f m.directory
  none_more f = omega (arith, first (eqb (label_at 0 m.directory).id 0), second (eqb (label_at 32 m.directory).id 0))
    where
      first : (z : Bool) → cond z 0 (f (label_at 0 m.directory)) ≤ f (label_at 0 m.directory)
      first true = omega arith
      first false = omega arith

      second : (z : Bool) → cond z 0 (f (label_at 32 m.directory)) ≡ cond z 0 (f (label_at 32 m.directory) + 0)
      second true = refl
      second false = omega arith

  -- a part of it is there in both or in neither
  long_same : (j k : ℕ) (xs ys : List ℕ) → j ≤ k → take k xs ≡ take k ys → leb j (length xs) ≡ leb j (length ys)
  long_same j k xs ys l e =
      let s = short_same j xs ys (sym (take-take j k xs l) ∙ ap (take j) e ∙ take-take j k ys l) in
      elim (split (ltb (length xs) j)) [
        | holds f ↦ lt-leb j (length xs) (ltb-true _ j f) ∙ sym (lt-leb j (length ys) (ltb-true _ j (sym s ∙ f)))
        | fails f ↦ le-leb j (length xs) (ltb-false _ j f) ∙ sym (le-leb j (length ys) (ltb-false _ j (sym s ∙ f)))
      ]

  slots_within : slots_asked m ≤ total slots_of (namespaces_of m)
  slots_within = omega (arith, none_more (λ h. slots h.index), slots_by_law m)

  same_run : (i : ℕ) → run_of i m ≡ run_of i n
  unfolding run_of run_by
  same_run i =
      let d = m.directory in
      let e = n.directory in
      let w = needed (namespaces_of m) in
      let s = 64 + 32 * slots_asked m in
      let b = size_by (label_at 0 d) + size_by (label_at 32 d) in
      let r : b ≤ needed_values (namespaces_of m) = omega (arith, none_more (λ h. h.size), sizes_by m) in
      rw (
        alike_label a 0 (omega arith),
        alike_label a 32 (omega arith),
        long_same 64 w d e (omega arith) a.directory,
        long_same s w d e (omega (arith, slots_within)) a.directory,
        long_same b (needed_values (namespaces_of m)) m.values n.values r a.values,
      )

  same_record : (j : ℕ) → j < slots_asked m → record_at j m.directory ≡ record_at j n.directory
  unfolding record_at
  same_record j l =
      let w = needed (namespaces_of m) in
      let h : 64 + 32 * j + 32 ≤ w = omega (arith, slots_within) in
      sym (part_take (64 + 32 * j) 32 w m.directory h) ∙ ap (part (64 + 32 * j) 32) a.directory ∙ part_take (64 + 32 * j) 32 w n.directory h

  pub past_known : (k : Key) (i : ℕ) → known k i m ≡ known k i n
  past_known k i = (seen_known k i m n (same_run i) (each_map (search_for k i m).slots same_record (seen_lies k i m))).1
