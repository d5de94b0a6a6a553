-- The loop over a page's entries: what is left of them, behind those passed, gives the page's length. Assumes nothing.
use mathlib.Core.Path.{◌≡◌, ◌∙◌}
use mathlib.Core.List.{List}
use Prim.Native.Nat.{ℕ, suc, ◌+◌, ◌-◌, ◌≤◌, ◌<◌}
use native.Mathlib.Nat.{add-zero, sub-zero, add_assoc}
use native.Mathlib.Omega.{arith}
use lib.ListN.{length, drop, length-drop}
use lib.Seq.{drop-drop}
use borrow.Author.Tests.{le-ltb, lt-ltb, le-leb, lt-leb}
use Rattle.octets.specs.Octets.{part, number}
use Rattle.octets.proofs.PartLaws.{part_drop}
use Rattle.sheets.specs.Page.{entry_size}
use Rattle.bench.specs.Span.{span, page_span}

-- i entries are passed, and the next is at `at`
pub record Spanned (p : List ℕ) (count i at : ℕ) : Type 0 where
  pub within : i ≤ count
  pub in_page : at ≤ length p
  pub is : at + span (count - i) (drop at p) ≡ page_span p

pub span_none : (p : List ℕ) → length p < 4 → 0 ≡ page_span p
unfolding page_span
span_none p h = rw (lt-ltb (length p) 4 h)

pub spanned_none : (p : List ℕ) (count : ℕ) → count ≡ number (part 0 4 p) → 4 ≤ length p → Spanned p count 0 4
unfolding page_span
spanned_none p count e h = record { within = omega arith; in_page = h; is = rw (sub-zero, le-ltb (length p) 4 h, e) }

module _ {p : List ℕ} {count i at : ℕ} (g : Spanned p count i at) where
  here : part 0 2 (drop at p) ≡ part at 2 p
  here = part_drop at 0 2 p ∙ rw add-zero

  left : i < count → count - i ≡ suc (count - (i + 1))
  left h = omega arith

  pub spanned_past : {n size : ℕ} → n ≡ number (part at 2 p) → size ≡ entry_size n → i < count → length p - at < size → at ≡ page_span p
  spanned_past {n} {size} f e h k =
      let l : length (drop at p) < size = rw length-drop (omega arith) in
      rw (left h, here, ← f, ← e, lt-leb _ _ l, add-zero) at g.is

  pub spanned_more : {n size : ℕ} → n ≡ number (part at 2 p) → size ≡ entry_size n → i < count → size ≤ length p - at
      → Spanned p count (i + 1) (at + size)
  spanned_more {n} {size} f e h k =
      let l : size ≤ length (drop at p) = rw length-drop (omega arith) in
      record {
        within = omega arith;
        in_page = omega (arith, g.in_page);
        is = rw add_assoc (rw (left h, here, ← f, ← e, le-leb size (length (drop at p)) l, drop-drop) at g.is);
      }

pub ruleset page_laws = (span_none, spanned_none, spanned_past, spanned_more)
