-- The formats' bounds; what numbers 3 to 5 let pass and the limits of a namespace, as named facts; insert and erase keep to what a
-- format admits. Assumes nothing.
use Rattle.std.proofs.Common.{◌≡◌, ℕ, ◌/◌, ◌^◌, ◌<◌, ◌≤◌, true, eqb, ltb, leb, List, [], ◌∷◌, length, refl, div-le_self, arith, ltb-false, le-ltb}
use Rattle.std.proofs.Common.{ne_eqb, eqb-true, le-leb, leb-false, leb-true}
use native.Mathlib.Nat.{pow-le-pow_right}
use borrow.Author.Tests.{eqb-false, lt-leb}
use Rattle.keys.specs.Keys.{Key}
use Rattle.octets.specs.Tests.{first_of}
use Rattle.octets.proofs.TestLaws.{all_true, neither, None, none_holds, none_first}
use Rattle.keys.proofs.OrderLaws.{Rising, compared, less, equal, greater, rising_true, true_rising}
use Rattle.table.specs.Formats.{format_of}
use Rattle.store.specs.Maps.{Pair, keys, insert, erase, used}
use Rattle.store.specs.Namespace.{Namespace, fresh, permit_steps, pair_tests, admitted, limits, within}

pub format_bounds : (i : ℕ) → i ≤ 15 → ((format_of i).keymax ≤ 16) × ((format_of i).valuemax ≤ 4096) × ((format_of i).maxkeys ≤ 1024)
format_bounds i h =
    let q : i / 4 ≤ 3 = omega arith in
    let f : 4 ^ (i / 4) ≤ 4 ^ 3 = pow-le-pow_right {n = 4} (omega arith) {j = 3} q in
    (omega arith, omega arith, div-le_self 1024 (4 ^ (i / 4)))

abbrev pub Admitted : ℕ → List Pair → Type 0
Admitted i [] = Unit {0}
Admitted i (p ∷ m) = (1 ≤ length p.key) × (length p.key ≤ (format_of i).keymax) × (length p.value ≤ (format_of i).valuemax) × Admitted i m

admitted_true : (i : ℕ) (m : List Pair) → admitted i m ≡ true → Admitted i m
admitted_true i [] e = tt
admitted_true i (p ∷ m) e =
    let a = all_true (pair_tests i p (admitted i m)) e in
    (leb-true _ _ a.0, leb-true _ _ a.1.0, leb-true _ _ a.1.1.0, admitted_true i m a.1.1.1.0)

true_admitted : (i : ℕ) (m : List Pair) → Admitted i m → admitted i m ≡ true
true_admitted i [] a = refl
true_admitted i (p ∷ m) a = rw (le-leb _ _ a.0, le-leb _ _ a.1, le-leb _ _ a.2, true_admitted i m a.3)

-- what numbers 3 to 5 let pass
pub record Permitted (i id n : ℕ) : Type 0 where
  pub index : i ≤ 15
  pub id_low : 1 ≤ id
  pub id_high : id < 0xffff_ffff
  pub size_low : 1 ≤ n
  pub size_high : n ≤ 65536

pub permits_of : (i id n : ℕ) → None (permit_steps i id n) → Permitted i id n
permits_of i id n r =
    let ids = neither (eqb id 0) (leb 0xffff_ffff id) r.1.0 in
    let sizes = neither (eqb n 0) (ltb 65536 n) r.1.1.0 in
    record {
      index = omega (arith, ltb-false);
      id_low = omega (arith, eqb-false);
      id_high = omega (arith, leb-false);
      size_low = omega (arith, eqb-false);
      size_high = omega (arith, ltb-false);
    }

pub permitted : (i id n : ℕ) → first_of (permit_steps i id n) ≡ 0 → Permitted i id n
permitted i id n e = permits_of i id n (none_holds (permit_steps i id n) tt e)

pub none_of : (i id n : ℕ) → Permitted i id n → None (permit_steps i id n)
none_of i id n p = (
  le-ltb 15 i p.index,
  (rw (ne_eqb id 0 (λ e. omega arith), lt-leb 0xffff_ffff id p.id_high), (rw (ne_eqb n 0 (λ e. omega arith), le-ltb 65536 n p.size_high), tt)),
)

pub no_number : (i id n : ℕ) → Permitted i id n → first_of (permit_steps i id n) ≡ 0
no_number i id n p = none_first (permit_steps i id n) [] (none_of i id n p)

pub record Within (s : Namespace) : Type 0 where
  pub permits : Permitted s.index s.id s.size
  pub rising : Rising (keys s.pairs)
  pub admitted : Admitted s.index s.pairs
  pub count : length s.pairs ≤ (format_of s.index).maxkeys
  pub room : used s.pairs ≤ s.size

pub within_true : (s : Namespace) → within s ≡ true → Within s
unfolding within
within_true s e =
    let a = all_true (limits s) e in
    record {
      permits = permitted _ _ _ (eqb-true _ _ a.0);
      rising = rising_true (keys s.pairs) a.1.0;
      admitted = admitted_true s.index s.pairs a.1.1.0;
      count = leb-true _ _ a.1.1.1.0;
      room = leb-true _ _ a.1.1.1.1.0;
    }

pub true_within : (s : Namespace) → Within s → within s ≡ true
unfolding within
true_within s w =
    rw (no_number _ _ _ w.permits, true_rising _ w.rising, true_admitted _ _ w.admitted, le-leb _ _ w.count, le-leb _ _ w.room)

pub fresh_within : (i id n : ℕ) → Permitted i id n → Within (fresh i id n)
fresh_within i id n p = record { permits = p; rising = tt; admitted = tt; count = omega arith; room = omega arith }

pub insert_admitted : (i : ℕ) (k : Key) (v : List ℕ) (m : List Pair) → 1 ≤ length k → length k ≤ (format_of i).keymax → length v ≤ (format_of i).valuemax
    → Admitted i m → Admitted i (insert k v m)
insert_admitted i k v [] a b c d = (a, b, c, tt)
insert_admitted i k v (p ∷ m) a b c d =
    let r = insert_admitted i k v m a b c d.3 in
    elim (compared k p.key) [ less e ↦ rw e (a, b, c, d) | equal e ↦ rw e (a, b, c, d.3) | greater e ↦ rw e (d.0, d.1, d.2, r) ]

pub erase_admitted : (i : ℕ) (k : Key) (m : List Pair) → Admitted i m → Admitted i (erase k m)
erase_admitted i k [] d = d
erase_admitted i k (p ∷ m) d =
    elim (compared k p.key) [ less e ↦ rw e d | equal e ↦ rw e d.3 | greater e ↦ rw e (d.0, d.1, d.2, erase_admitted i k m d.3) ]
