-- A page shows a beginning of the keys from the given one on, and a host reads those keys back. Assumes nothing.
use mathlib.Core.Path.{◌≡◌, refl, ap}
use mathlib.Core.List.{List, [], ◌∷◌, ◌++◌}
use Prim.Native.Nat.{ℕ, ◌+◌, ◌-◌, ◌≤◌}
use native.Mathlib.Omega.{arith}
use lib.Dec.{leb}
use lib.ListN.{length, take, drop, length-append, length-drop, take-append-drop}
use Rattle.store.proofs.NamespaceLaws.{Admitted, Within, format_bounds}
use Rattle.store.specs.Maps.{Pair, keys as keys_of}
use Rattle.store.specs.Namespace.{Namespace}
use Rattle.octets.specs.Octets.{put}
use Rattle.keys.specs.Keys.{Key, from}
use Rattle.octets.proofs.TestLaws.{known, holds, fails}
use Rattle.keys.proofs.OrderLaws.{Below, Rising, order_self, below_trans, below_greater}
use Rattle.sheets.specs.Page.{entry_size, page, fits, keys, read_page, shown}
use Rattle.sheets.proofs.PageLaws.{Sized, page_back, fits_next}
use Rattle.store.specs.Finds.{rank}
use Rattle.store.proofs.RankLaws.{from_rank, length_keys}

-- ---- keys that a page can hold, and parts of them

abbrev pub Pageable : List Key → Type 0
Pageable ks = Rising ks × Sized ks

pub pageable_left : (js ks : List Key) → Pageable (js ++ ks) → Pageable js
pageable_left [] ks g = (tt, tt)
pageable_left (j ∷ []) ks g = ((tt, tt), (g.1.0, g.1.1, tt))
pageable_left (j ∷ i ∷ js) ks g =
    let r = pageable_left (i ∷ js) ks (g.0.1, g.1.2) in
    ((g.0.0, r.0), (g.1.0, g.1.1, r.1))

pub pageable_right : (js ks : List Key) → Pageable (js ++ ks) → Pageable ks
pageable_right [] ks g = g
pageable_right (j ∷ js) ks g = pageable_right js ks (g.0.1, g.1.2)

-- ---- the keys that fit

pub fits_begins : (r : ℕ) (ks : List Key) → (rest : List Key) × (fits r ks ++ rest ≡ ks)
fits_begins r [] = ([], refl)
fits_begins r (k ∷ ks) =
    let i = fits_begins (r - entry_size (length k)) ks in
    elim (known (leb (entry_size (length k)) r)) [ holds e ↦ (i.0, rw e (ap (◌∷◌ k) i.1)) | fails e ↦ (k ∷ ks, rw e) ]

-- an entry has at most 20 bytes, so where there are 20 a page stops only at the end
pub fits_none : (r : ℕ) (ks : List Key) → Sized ks → 20 ≤ r → fits r ks ≡ [] → ks ≡ []
fits_none r [] s h e = refl
fits_none r (k ∷ ks) s h e = cc (fits_next r k ks (omega (arith, s.1)))

-- ---- from a key on

pub from_empty : (ks : List Key) → from [] ks ≡ ks
from_empty [] = refl
from_empty ([] ∷ ks) = refl
from_empty ((x ∷ k) ∷ ks) = refl

pub from_stored : (js : List Key) (k : Key) (ks : List Key) → Rising (js ++ k ∷ ks) → from k (js ++ k ∷ ks) ≡ k ∷ ks
from_stored [] k ks r = rw (order_self k)
from_stored (j ∷ js) k ks r = rw (below_greater j k (before j js r)) (from_stored js k ks r.1)
  where
    before : (j : Key) (js : List Key) → Rising (j ∷ js ++ k ∷ ks) → Below j k
    before j [] r = r.0
    before j (i ∷ js) r = below_trans j i k r.0 (before i js r.1)

-- ---- a map within the limits

admitted_sized : (i : ℕ) (m : List Pair) → i ≤ 15 → Admitted i m → Sized (keys_of m)
admitted_sized i [] h a = tt
admitted_sized i (p ∷ m) h a = (a.0, omega (arith, (format_bounds i h).0), admitted_sized i m h a.3)

module _ (s : Namespace) (w : Within s) where
  abbrev ks : List Key
  ks = keys_of s.pairs

  pub pageable : Pageable ks
  pageable = (w.rising, admitted_sized s.index s.pairs w.permits.index w.admitted)

  -- what is read of a page put into a data buffer
  pub shown_read : (n : ℕ) (k : Key) (b : List ℕ) → read_page (put 0 (page (shown n k ks)) b) ≡ keys (shown n k ks)
  unfolding put
  shown_read n k b =
      let r = rank k ks in
      let part = fits_begins (n - 4) (from k ks) in
      let tail : Pageable (from k ks) = rw (from_rank k ks) (pageable_right (take r ks) (drop r ks) (rw (take-append-drop r ks) pageable)) in
      let head = pageable_left (shown n k ks) part.0 (rw part.1 tail) in
      let all : length (from k ks) ≤ length ks = rw (from_rank k ks, length-drop r ks) (omega arith) in
      let many : length (shown n k ks) + length part.0 ≡ length (from k ks) = simp length-append at (ap length part.1) in
      let few = format_bounds s.index w.permits.index in
      page_back (shown n k ks) (drop (0 + length (page (shown n k ks))) b) (omega (arith, length_keys s.pairs, w.count)) head.0 head.1
