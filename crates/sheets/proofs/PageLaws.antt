-- The List page: an entry's words, what the first entry of a rest reads as, a page of rising keys that is read back, and a page
-- written entry by entry. Assumes nothing.
use mathlib.Core.Path.{◌≡◌, refl, sym, ap, ap₂, ◌∙◌}
use mathlib.Core.List.{List, [], ◌∷◌, ◌++◌, append_assoc}
use Prim.Native.Nat.{ℕ, ◌+◌, ◌-◌, ◌^◌, ◌≤◌, ◌<◌, suc}
use native.Mathlib.Omega.{arith}
use native.Mathlib.Nat.{zero-add, add-zero}
use lib.ListN.{length, take, drop_of_length-le, length-append, length-replicate, replicate-append-replicate}
use lib.Seq.{drop_at, take_at, take_all, length-take-le}
use lib.Dec.{leb}
use borrow.Author.Tests.{le-ltb, ne_eqb, leb-true, le-leb, lt-leb}
use Rattle.octets.specs.Octets.{part, put, number, bytes, zeros, filled}
use Rattle.keys.specs.Keys.{Key}
use Rattle.octets.proofs.PartLaws.{length_part, part_seam, part_take, part_two, part_whole, drop_past, put_none, put_then, put_part, put_next, put_ahead}
use Rattle.octets.proofs.NumberLaws.{number_bytes}
use Rattle.octets.proofs.ZeroLaws.{zeros_all, part_filled}
use Rattle.keys.proofs.OrderLaws.{Below, BelowFirst, Rising}
use Rattle.octets.proofs.TestLaws.{known, holds, fails}
use Rattle.sheets.specs.declared.pages.Field.{Field}
use Rattle.sheets.specs.Page.{entry_size, padding, page_entry, entries, page, first_entry, keys, read_entries, read_page, entry_steps, fits}

pub length_entry : (k : Key) → length (page_entry k) ≡ entry_size (length k)
unfolding page_entry
length_entry k = simp (length-append, length-replicate) (omega arith)

-- ---- an entry made of a key that stands in sixteen bytes, with zeros behind it

-- what the words of an entry are read from: the longest entry, of a key that fills all sixteen bytes
abbrev longest : ℕ → List ℕ → List ℕ
longest n f = bytes 2 n ++ f ++ zeros 2

longest_of : (q : ℕ) (k : Key) → 16 - length k + 2 ≡ padding (length k) + q → longest (length k) (filled 16 k) ≡ page_entry k ++ zeros q
unfolding page_entry
longest_of q k a = simp (append_assoc, replicate-append-replicate, a)

module _ (field : Field) where
  abbrev n : ℕ
  n = field.len

  abbrev f : List ℕ
  f = field.bytes.now

  key_long : length (take n f) ≡ n
  key_long = length-take-le n f (omega arith)

  entry_long : length (page_entry (take n f)) ≡ entry_size n
  entry_long = length_entry (take n f) ∙ ap entry_size key_long

  entry_front : take (entry_size n) (longest n f) ≡ page_entry (take n f)
  unfolding part
  entry_front =
      let k = take n f in
      let q : ℕ = 18 - n - padding n in
      let w = part_whole 16 f field.sixteen in
      let g : f ≡ filled 16 k = sym w ∙ part_filled 0 n 16 f (omega arith) field.fits (rw w field.clear) in
      let e : longest n f ≡ page_entry k ++ zeros q = ap₂ longest (sym key_long) g ∙ longest_of q k (rw key_long (omega arith)) in
      ap (take (entry_size n)) e ∙ take_at (page_entry k) (zeros q) (entry_size n) entry_long

  entry_part : (at k : ℕ) → at + k ≤ entry_size n → part at k (page_entry (take n f)) ≡ part at k (longest n f)
  entry_part at k h = rw (← entry_front) (part_take at k (entry_size n) (longest n f) h)

  key_part : (from k : ℕ) → from + k ≤ 16 → part (2 + from) k (longest n f) ≡ part from k f
  unfolding part
  key_part from k h =
      ap (take k) (drop_past (bytes 2 n) (f ++ zeros 2) 2 from refl)
      ∙ sym (part_take from k 16 (f ++ zeros 2) h)
      ∙ ap (part from k) (take_at f (zeros 2) 16 field.sixteen)

  -- the word of the entry from an index on
  abbrev word : ℕ → List ℕ
  word at = part at 4 (page_entry (take n f))

  module _ (xs : List ℕ) (room : entry_size n ≤ length xs) where
    -- it is put as two bytes and two more
    entry_two : (at : ℕ) (us vs ys zs : List ℕ) → ys ≡ put at us xs → zs ≡ put (at + 2) vs ys → length us ≡ 2 → length vs ≡ 2
        → part at 2 (longest n f) ≡ us → part (at + 2) 2 (longest n f) ≡ vs → at + 4 ≤ entry_size n → zs ≡ put at (word at) xs
    entry_two at us vs ys zs d e l m g h b =
        rw (entry_part at 4 b, part_two at 2 2 (longest n f), g, h) (put_then at (at + 2) us vs xs ys zs e d (omega arith) (omega arith))

    pub entry_first : (ys zs : List ℕ) → ys ≡ put 0 (bytes 2 n) xs → zs ≡ put 2 (part 0 2 f) ys → zs ≡ put 0 (word 0) xs
    unfolding part
    entry_first ys zs d g =
        let l = length_part 0 2 f (omega arith) in
        entry_two 0 (bytes 2 n) (part 0 2 f) ys zs d g refl l refl (key_part 0 2 (omega arith)) (omega arith)

    pub entry_last : (ys zs : List ℕ) → ys ≡ put 16 (part 14 2 f) xs → zs ≡ put 18 (bytes 2 0) ys → 14 < n → zs ≡ put 16 (word 16) xs
    unfolding part
    entry_last ys zs d g l =
        let m = length_part 14 2 f (omega arith) in
        let v : part (2 + 16) 2 (longest n f) ≡ zeros 2 = ap (take 2) (drop_past (bytes 2 n) (f ++ zeros 2) 2 16 refl ∙ drop_at f (zeros 2) 16 field.sixteen) in
        entry_two 16 (part 14 2 f) (bytes 2 0) ys zs d g m refl (key_part 14 2 (omega arith)) v (omega arith)

    pub entry_word : (from : ℕ) (ys : List ℕ) → ys ≡ put (2 + from) (part from 4 f) xs → from + 4 ≤ 16 → 2 + from + 4 ≤ entry_size n
        → ys ≡ put (2 + from) (word (2 + from)) xs
    entry_word from ys w h g = rw (entry_part (2 + from) 4 g, key_part from 4 h) w

    -- an entry that ends before a word leaves it as it was
    pub entry_none : (at : ℕ) → entry_size n ≤ at → xs ≡ put at (word at) xs
    unfolding part
    entry_none at h =
        let l : length (page_entry (take n f)) ≤ at = omega (arith, entry_long) in
        rw drop_of_length-le (sym (put_none at xs))

    pub entry_words : (a b c d e : List ℕ) → a ≡ put 0 (word 0) xs → b ≡ put 4 (word 4) a → c ≡ put 8 (word 8) b → d ≡ put 12 (word 12) c
        → e ≡ put 16 (word 16) d → e ≡ put 0 (page_entry (take n f)) xs
    unfolding part
    entry_words a b c d e p q r s t =
        let k = page_entry (take n f) in
        let l : length k ≤ length xs = omega (arith, entry_long) in
        let all : take 20 k ≡ k = take_all 20 k (omega (arith, entry_long)) in
        rw all at (put_part 16 4 k xs d e t (put_part 12 4 k xs c d s (put_part 8 4 k xs b c r (put_part 4 4 k xs a b q p l) l) l) l)

-- code lends the key as the part from 2 to 2 + n
pub back : (n : ℕ) → 2 + n - 2 ≡ n
back n = omega arith

-- ---- a page of rising keys is read back, whatever lies behind it

-- keys of 1 to 16 bytes
abbrev pub Sized : List Key → Type 0
Sized [] = Unit {0}
Sized (k ∷ ks) = (1 ≤ length k) × (length k ≤ 16) × Sized ks

module _ (j k : Key) (t : List ℕ) (lo : 1 ≤ length k) (hi : length k ≤ 16) (up : Below j k) where
  the_number : length k ≡ number (part 0 2 (page_entry k ++ t))
  unfolding page_entry part
  the_number = sym (number_bytes 2 (length k) (omega arith))

  the_key : part 2 (length k) (page_entry k ++ t) ≡ k
  unfolding page_entry
  the_key = rw (append_assoc (bytes 2 (length k) ++ k) (zeros (padding (length k))) t) (part_seam (bytes 2 (length k)) k (zeros (padding (length k)) ++ t))

  the_zeros : part (2 + length k) (padding (length k)) (page_entry k ++ t) ≡ zeros (padding (length k))
  unfolding page_entry
  the_zeros =
      let l : length (bytes 2 (length k) ++ k) ≡ 2 + length k = simp length-append (omega arith) in
      rw (l, length-replicate) at (part_seam (bytes 2 (length k) ++ k) (zeros (padding (length k))) t)

  pub entry_back : first_entry j (page_entry k ++ t) ≡ record { number = 0; len = length k }
  unfolding first_entry entry_steps
  entry_back =
      let l : length (page_entry k ++ t) ≡ entry_size (length k) + length t = simp (length-append, length_entry) in
      let few = le-ltb (length (page_entry k ++ t)) 2 (omega arith) in
      let cut = le-ltb (length (page_entry k ++ t)) (entry_size (length k)) (omega arith) in
      rw (few, ← the_number, ne_eqb (length k) 0 (λ e. omega arith), le-ltb 16 (length k) hi, cut)
      (rw (the_zeros, zeros_all (padding (length k)), the_key, up))

pub entries_back : (j : Key) (ks : List Key) (t : List ℕ) → BelowFirst j ks → Rising ks → Sized ks → read_entries (length ks) j (entries ks ++ t) ≡ keys ks
entries_back j [] t b r s = refl
entries_back j (k ∷ ks) t b r s =
    let q = entries ks ++ t in
    rw (append_assoc (page_entry k) (entries ks) t, entry_back j k q s.0 s.1 b, the_key j k q s.0 s.1 b)
    (rw (drop_at (page_entry k) q (entry_size (length k)) (length_entry k), entries_back k ks t r.0 r.1 s.2))

all_above : (ks : List Key) → Sized ks → BelowFirst [] ks
all_above [] s = tt
all_above ([] ∷ ks) s = absurd (omega arith)
all_above ((x ∷ k) ∷ ks) s = refl

pub page_back : (ks : List Key) (t : List ℕ) → length ks < 256 ^ 4 → Rising ks → Sized ks → read_page (page ks ++ t) ≡ keys ks
unfolding read_page page part
page_back ks t n r s =
    rw (le-ltb (length (page ks ++ t)) 4 (omega arith), number_bytes 4 (length ks) n) (entries_back [] ks t (all_above ks s) r s)

-- ---- the keys that fit

pub fits_next : (r : ℕ) (k : Key) (ks : List Key) → entry_size (length k) ≤ r → fits r (k ∷ ks) ≡ k ∷ fits (r - entry_size (length k)) ks
fits_next r k ks h = rw (le-leb (entry_size (length k)) r h)

pub fits_stop : (r : ℕ) (k : Key) (ks : List Key) → r < entry_size (length k) → fits r (k ∷ ks) ≡ []
fits_stop r k ks h = rw (lt-leb (entry_size (length k)) r h)

pub entries_fit : (r : ℕ) (ks : List Key) → length (entries (fits r ks)) ≤ r
entries_fit r [] = omega arith
entries_fit r (k ∷ ks) =
    elim (known (leb (entry_size (length k)) r)) [
      | holds e ↦ rw (e, length-append, length_entry) (omega (arith, leb-true, entries_fit (r - entry_size (length k)) ks))
      | fails e ↦ rw e (omega arith)
    ]

-- ---- a writer that has n entries behind the count's place, and r bytes of b left from index `at` on for those of ks

unfoldable pub written : ℕ → ℕ → ℕ → List Key → List ℕ → List ℕ
written n at r ks b = put 0 (bytes 4 (n + length (fits r ks))) (put at (entries (fits r ks)) b)

module _ (b : List ℕ) (ks : List Key) where
  pub written_all : (size : ℕ) → 4 ≤ size → size ≤ length b → written 0 4 (size - 4) ks b ≡ put 0 (page (fits (size - 4) ks)) b
  unfolding written page
  written_all size g h =
      let f = fits (size - 4) ks in
      rw (zero-add, ← put_ahead 0 (bytes 4 (length f)) (entries f) b (omega arith))

  module _ (n at r : ℕ) where
    pub written_done : fits r ks ≡ [] → written n at r ks b ≡ put 0 (bytes 4 n) b
    unfolding written
    written_done h = rw (h, add-zero, put_none at b)

    pub written_next : (k : Key) → entry_size (length k) ≤ r → at + r ≤ length b
        → written n at r (k ∷ ks) b ≡ written (n + 1) (at + entry_size (length k)) (r - entry_size (length k)) ks (put at (page_entry k) b)
    unfolding written
    written_next k h g =
        let f = fits (r - entry_size (length k)) ks in
        let m : n + suc (length f) ≡ n + 1 + length f = omega arith in
        let l : length (entries f) ≤ r - entry_size (length k) = entries_fit (r - entry_size (length k)) ks in
        rw (fits_next r k ks h, m, rw length_entry at (put_next at (page_entry k) (entries f) b (rw length_entry (omega arith))))
