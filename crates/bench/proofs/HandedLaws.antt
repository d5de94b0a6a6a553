-- The bytes that are printed are those that were handed over: the page that List put into the data buffer, and what Retrieve
-- moved there of a value. Assumes nothing.
use mathlib.Core.Path.{◌≡◌, refl}
use mathlib.Core.Bool.{true, false}
use mathlib.Core.List.{List, [], ◌∷◌, ◌++◌, append_assoc}
use Prim.Native.Nat.{ℕ, ◌^◌, ◌≤◌, ◌<◌, min}
use native.Mathlib.Omega.{arith}
use lib.ListN.{length, take, drop, length-append, length-take}
use lib.Seq.{drop_at, take-append_seam}
use borrow.Author.Tests.{le-ltb, le-leb}
use Rattle.octets.specs.Octets.{part, number, put}
use Rattle.keys.specs.Keys.{Key}
use Rattle.octets.proofs.PartLaws.{put_front, length_put}
use Rattle.octets.proofs.NumberLaws.{number_bytes}
use Rattle.wire.specs.declared.entries.Command.{Command}
use Rattle.wire.specs.Entry.{is_list}
use Rattle.sheets.specs.Page.{entry_size, page_entry, entries, page}
use Rattle.sheets.proofs.PageLaws.{Sized, length_entry}
use Rattle.bench.specs.Span.{span, page_span}
use Rattle.bench.specs.Turn.{given_of}

size_read : (k : Key) (t : List ℕ) → length k ≤ 16 → number (part 0 2 (page_entry k ++ t)) ≡ length k
unfolding page_entry part
size_read k t h = number_bytes 2 (length k) (omega arith)

entries_spanned : (ks : List Key) (t : List ℕ) → Sized ks → span (length ks) (entries ks ++ t) ≡ length (entries ks)
entries_spanned [] t s = refl
entries_spanned (k ∷ ks) t s =
    let q = entries ks ++ t in
    let n = entry_size (length k) in
    let l : n ≤ length (page_entry k ++ q) = simp (length-append, length_entry) (omega arith) in
    rw (append_assoc (page_entry k) (entries ks) t, size_read k q s.1, le-leb n (length (page_entry k ++ q)) l)
    (rw (drop_at (page_entry k) q n (length_entry k), entries_spanned ks t s.2, length-append, length_entry))

page_spanned : (ks : List Key) (t : List ℕ) → length ks < 256 ^ 4 → Sized ks → page_span (page ks ++ t) ≡ length (page ks)
unfolding page_span page part
page_spanned ks t n s =
    rw (le-ltb (length (page ks ++ t)) 4 (omega arith), number_bytes 4 (length ks) n, entries_spanned ks t s) (omega arith)

module _ (c : Command) (dword0 : ℕ) (b : List ℕ) where
  pub list_handed : (ks : List Key) → is_list c.opcode ≡ true → length ks < 256 ^ 4 → Sized ks
      → take (given_of c dword0 (put 0 (page ks) b)) (put 0 (page ks) b) ≡ page ks
  unfolding given_of
  list_handed ks e n s =
      rw (e, put_front, page_spanned ks (drop (length (page ks)) b) n s) (take-append_seam (page ks) _)

  pub retrieve_handed : (v : List ℕ) → is_list c.opcode ≡ false → dword0 ≡ length v → c.amount ≤ length b
      → take (given_of c dword0 (put 0 (take c.amount v) b)) (put 0 (take c.amount v) b) ≡ take c.amount v
  unfolding given_of
  retrieve_handed v e d h =
      let w = take c.amount v in
      let l = length-take c.amount v in
      let o = length_put 0 w b (omega arith) in
      let n : min (min c.amount dword0) (length (put 0 w b)) ≡ length w = omega arith in
      rw (e, n, put_front) (take-append_seam w _)
