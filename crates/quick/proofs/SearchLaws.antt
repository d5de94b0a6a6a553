-- The search by halves: its steps, how many slots it looks at, which they are, and that nothing but them decides; among rising keys it finds
-- what is there. Assumes nothing.
use mathlib.Core.Path.{◌≡◌, refl, sym, ap, ◌∙◌}
use mathlib.Core.Bool.{Bool, true, false}
use mathlib.Core.List.{List, [], ◌∷◌}
use Prim.Native.Nat.{ℕ, zero, suc, ◌+◌, ◌-◌, ◌*◌, ◌/◌, ◌^◌, ◌≤◌, ◌<◌}
use native.Mathlib.Omega.{arith}
use lib.Dec.{ltb}
use lib.Pow.{pow-add}
use lib.ListN.{length, get_or}
use borrow.Author.Tests.{ltb-true, ltb-false}
use Rattle.octets.proofs.TestLaws.{refuted, contrary}
use Rattle.std.specs.declared.cmp.Ordering.{Ordering}
use Rattle.std.specs.declared.cmp.Ordering.TheVariants.{Less, Equal, Greater}
use Rattle.std.specs.Ordering.{is_lt, ordering_reverse}
use Rattle.keys.specs.Keys.{Key, order, three}
use Rattle.keys.proofs.OrderLaws.{Rising, order_eq, order_flip, below_greater}
use Rattle.store.specs.Finds.{rank, has_key}
use Rattle.store.proofs.RankLaws.{rank_lt, first_below, rank_test, has_at}
use Rattle.quick.specs.Search.{Search, here, beyond, search, search_keys}
use Rattle.quick.specs.Seen.{Each}

-- ---- a step

module _ (g : ℕ) (o : ℕ → Ordering) (low : ℕ) where
  pub search_less : (n : ℕ) → 0 < n → o (low + n / 2) ≡ Less → search (suc g) o low n ≡ beyond (low + n / 2) (search g o low (n / 2))
  search_less zero h e = absurd (omega arith)
  search_less (suc n) h e = rw e

  pub search_here : (n : ℕ) → 0 < n → o (low + n / 2) ≡ Equal → search (suc g) o low n ≡ here (low + n / 2)
  search_here zero h e = absurd (omega arith)
  search_here (suc n) h e = rw e

  pub search_greater : (n : ℕ) → 0 < n → o (low + n / 2) ≡ Greater
      → search (suc g) o low n ≡ beyond (low + n / 2) (search g o (low + n / 2 + 1) (n - (n / 2 + 1)))
  search_greater zero h e = absurd (omega arith)
  search_greater (suc n) h e =
      let l : low + suc n / 2 + 1 ≡ suc (low + suc n / 2) = omega arith in
      let r : suc n - (suc n / 2 + 1) ≡ n - suc n / 2 = omega arith in
      rw (e, l, r)

-- ---- where two searches compare alike, slot by slot, wherever each begins

pub record Alike (s t : Search) : Type 0 where
  pub known : s.known ≡ t.known
  pub looks : length s.slots ≡ length t.slots

alike_three : (x : Ordering) (i j : ℕ) {s t u v : Search} → Alike s t → Alike u v
    → Alike (three x (beyond i s) (here i) (beyond i u)) (three x (beyond j t) (here j) (beyond j v))
alike_three Less i j a b = record { known = a.known; looks = ap suc a.looks }
alike_three Equal i j a b = record { known = refl; looks = refl }
alike_three Greater i j a b = record { known = b.known; looks = ap suc b.looks }

pub search_alike : (g : ℕ) (o p : ℕ → Ordering) (a b n : ℕ) → ((j : ℕ) → j < n → o (a + j) ≡ p (b + j)) → Alike (search g o a n) (search g p b n)
search_alike zero o p a b n h = record { known = refl; looks = refl }
search_alike (suc g) o p a b zero h = record { known = refl; looks = refl }
search_alike (suc g) o p a b (suc n) h =
    let m = suc n / 2 in
    let right : (j : ℕ) → j < n - m → o (suc (a + m) + j) ≡ p (suc (b + m) + j) =
    λ j l.
    let x : suc (a + m) + j ≡ a + suc (m + j) = omega arith in
    let y : suc (b + m) + j ≡ b + suc (m + j) = omega arith in
    rw (x, y) (h (suc (m + j)) (omega arith)) in
    rw (h m (omega arith))
    (alike_three (p (b + m)) (a + m) (b + m) (search_alike g o p a b m (λ j l. h j (omega arith)))
    (search_alike g o p (suc (a + m)) (suc (b + m)) (n - m) right))

-- ---- how many slots it looks at

few_three : (x : Ordering) (i n : ℕ) (s u : Search) → length s.slots ≤ n → length u.slots ≤ n
    → length (three x (beyond i s) (here i) (beyond i u)).slots ≤ suc n
few_three Less i n s u a b = omega arith
few_three Equal i n s u a b = omega arith
few_three Greater i n s u a b = omega arith

-- fewer than 2^i slots take at most i looks
pub search_few : (g : ℕ) (o : ℕ → Ordering) (low n i : ℕ) → n < 2 ^ i → length (search g o low n).slots ≤ i
search_few zero o low n i h = omega arith
search_few (suc g) o low zero i h = omega arith
search_few (suc g) o low (suc n) zero h = absurd (omega arith)
search_few (suc g) o low (suc n) (suc i) h =
    let m = suc n / 2 in
    let e : 2 ^ suc i ≡ 2 * 2 ^ i = ap (◌^◌ 2) (omega arith) ∙ pow-add 2 1 i in
    few_three (o (low + m)) (low + m) i _ _ (search_few g o low m i (omega arith)) (search_few g o (suc (low + m)) (n - m) i (omega arith))

-- ---- which slots

pub each_map : {P Q : ℕ → Type 0} (js : List ℕ) → ((j : ℕ) → P j → Q j) → Each P js → Each Q js
each_map [] f e = tt
each_map (j ∷ js) f e = (f j e.0, each_map js f e.1)

pub record Among (low n j : ℕ) : Type 0 where
  pub from : low ≤ j
  pub to : j < low + n

lies_three : (P : ℕ → Type 0) (x : Ordering) (i : ℕ) (s u : Search) → P i → Each P s.slots → Each P u.slots
    → Each P (three x (beyond i s) (here i) (beyond i u)).slots
lies_three P Less i s u p a b = (p, a)
lies_three P Equal i s u p a b = (p, tt)
lies_three P Greater i s u p a b = (p, b)

pub search_lies : (g : ℕ) (o : ℕ → Ordering) (low n : ℕ) → Each (Among low n) (search g o low n).slots
search_lies zero o low n = tt
search_lies (suc g) o low zero = tt
search_lies (suc g) o low (suc n) =
    let m = suc n / 2 in
    let l = search g o low m in
    let r = search g o (suc (low + m)) (n - m) in
    let left : Each (Among low (suc n)) l.slots =
    each_map l.slots (λ j (a : Among low m j). record { from = a.from; to = omega (arith, a.to) }) (search_lies g o low m) in
    let right : Each (Among low (suc n)) r.slots =
    each_map r.slots (λ j (a : Among (suc (low + m)) (n - m) j). record { from = omega (arith, a.from); to = omega (arith, a.to) })
    (search_lies g o (suc (low + m)) (n - m)) in
    lies_three (Among low (suc n)) (o (low + m)) (low + m) l r (record { from = omega arith; to = omega arith }) left right

-- ---- and nothing but them

same_three : (o p : ℕ → Ordering) (i : ℕ) {s t u v : Search} (x : Ordering) → o i ≡ x → (Each (λ j. o j ≡ p j) s.slots → s ≡ t)
    → (Each (λ j. o j ≡ p j) u.slots → u ≡ v) → Each (λ j. o j ≡ p j) (three x (beyond i s) (here i) (beyond i u)).slots
    → three x (beyond i s) (here i) (beyond i u) ≡ three (p i) (beyond i t) (here i) (beyond i v)
same_three o p i Less e f g h = rw (sym h.0 ∙ e) (ap (beyond i) (f h.1))
same_three o p i Equal e f g h = rw (sym h.0 ∙ e)
same_three o p i Greater e f g h = rw (sym h.0 ∙ e) (ap (beyond i) (g h.1))

pub search_same : (g : ℕ) (o p : ℕ → Ordering) (low n : ℕ) → Each (λ j. o j ≡ p j) (search g o low n).slots → search g o low n ≡ search g p low n
search_same zero o p low n h = refl
search_same (suc g) o p low zero h = refl
search_same (suc g) o p low (suc n) h =
    let m = suc n / 2 in
    same_three o p (low + m) (o (low + m)) refl (search_same g o p low m) (search_same g o p (suc (low + m)) (n - m)) h

-- ---- among rising keys

met_has : (k : Key) (ks : List Key) (i : ℕ) → Rising ks → i < length ks → order k (get_or ks i []) ≡ Equal → has_key k ks ≡ true
met_has k [] i r h e = absurd (omega arith)
met_has k (j ∷ ks) zero r h e = rw e
met_has k (j ∷ ks) (suc i) r h e =
    let x = get_or ks i [] in
    let f : order k j ≡ Greater = rw (order_eq k x e) (below_greater j x (first_below j ks i r (omega arith))) in
    rw f (met_has k ks i r.1 (omega arith) e)

known_three : (x : Ordering) (i : ℕ) (s u : Search) {t : Bool} → (x ≡ Less → s.known ≡ t) → (x ≡ Equal → t ≡ true) → (x ≡ Greater → u.known ≡ t)
    → (three x (beyond i s) (here i) (beyond i u)).known ≡ t
known_three Less i s u f g h = f refl
known_three Equal i s u f g h = sym (g refl)
known_three Greater i s u f g h = h refl

module _ (k : Key) (ks : List Key) (r : Rising ks) where
  abbrev met : ℕ → Ordering
  met j = order k (get_or ks j [])

  -- if the key is there at all, its slot is among the n from low on
  abbrev Inside : ℕ → ℕ → Type 0
  Inside low n = has_key k ks ≡ true → Among low n (rank k ks)

  module _ (i : ℕ) (h : i < length ks) where
    less_means : met i ≡ Less → has_key k ks ≡ true → rank k ks < i
    less_means e t = go (ltb i (rank k ks)) refl
      where
        f : order (get_or ks i []) k ≡ Greater
        f = order_flip k (get_or ks i []) ∙ ap ordering_reverse e

        elsewhere : rank k ks ≡ i → ⊥
        elsewhere q = contrary (sym (rw (q, f) at (has_at k ks (omega arith))) ∙ t)

        go : (z : Bool) → ltb i (rank k ks) ≡ z → rank k ks < i
        go true z = absurd (contrary (sym (ap is_lt f) ∙ rank_test k ks i r h ∙ z))
        go false z = omega (arith, ltb-false i (rank k ks) z, elsewhere)

    greater_means : met i ≡ Greater → i < rank k ks
    greater_means e =
        let f : order (get_or ks i []) k ≡ Less = order_flip k (get_or ks i []) ∙ ap ordering_reverse e in
        ltb-true i (rank k ks) (sym (rank_test k ks i r h) ∙ ap is_lt f)

  none : (low : ℕ) → Inside low 0 → false ≡ has_key k ks
  none low w = sym (refuted (has_key k ks) (λ t. omega (arith, (w t).from, (w t).to)))

  finds : (g low n : ℕ) → n ≤ g → low + n ≤ length ks → Inside low n → (search g met low n).known ≡ has_key k ks
  finds zero low n a b w =
      let e : n ≡ 0 = omega arith in
      none low (rw e at w)
  finds (suc g) low zero a b w = none low w
  finds (suc g) low (suc n) a b w =
      let m = suc n / 2 in
      let i = low + m in
      let l : i < length ks = omega arith in
      known_three (met i) i _ _
      (λ e. finds g low m (omega arith) (omega arith) (λ t. record { from = (w t).from; to = less_means i l e t }))
      (λ e. met_has k ks i r l e)
      (λ e. finds g (suc i) (n - m) (omega arith) (omega arith) (λ t. record { from = greater_means i l e; to = omega (arith, (w t).to) }))

  pub search_finds : (search_keys k ks).known ≡ has_key k ks
  search_finds = finds (length ks) 0 (length ks) (omega arith) (omega arith) (λ t. record { from = omega arith; to = omega (arith, rank_lt k ks t) })
