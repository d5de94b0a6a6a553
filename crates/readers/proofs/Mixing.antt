-- The calls of two farms hand back and leave the same in whatever way they are mixed, on any device on which two of them do
-- (request [14]). Assumes nothing.
use mathlib.Core.Path.{◌≡◌, refl, sym, ap, ap₂, ◌∙◌}
use mathlib.Core.Bool.{true, false, cond}
use mathlib.Core.List.{List, [], ◌∷◌, ◌++◌}
use Prim.Native.Nat.{ℕ}
use native.Mathlib.Omega.{arith}
use borrow.Author.Tests.{eqb-true, ne_eqb}
use Rattle.octets.proofs.TestLaws.{contrary}
use Rattle.octets.specs.Octets.{zeros}
use Rattle.wire.specs.Entry.{read_command}
use Rattle.memory.specs.Memory.{Memory, legal}
use Rattle.maps.specs.Describe.{describe}
use Rattle.room.specs.Room.{room}
use Rattle.module.specs.History.{polling, id_of, filled, Call, formatting, commanding, asking}
use Rattle.farms.specs.Sides.{Device, real, next}
use Rattle.promises.specs.Requests.{call}
use Rattle.promises.proofs.Examples.{on_map, on_memory, start_two, two_begun, A, store, store_two}
use Rattle.readers.specs.Orders.{Given, returned, learnt, given, named, Commutes}
use Rattle.readers.specs.Mixing.{Mixed, ended, one, other, Only, goes, shown, Alike, Mixes, Keeps}
use Rattle.readers.proofs.Commuting.{legal_after, commutes, keeps, both}

-- a call names one farm
one_name : (i j : ℕ) (x : Call) → ¬ (i ≡ j) → named i x ≡ true → named j x ≡ false
one_name i j (formatting l) d f = absurd (contrary f)
one_name i j (commanding p e c b) d f = ne_eqb j (read_command e).nsid (λ g. d (eqb-true i (read_command e).nsid f ∙ sym g))
one_name i j (asking q) d f = ne_eqb j (id_of q) (λ g. d (eqb-true i (id_of q) f ∙ sym g))

module _ (d : Device) (kept : Keeps d) (two : Commutes d) where
  -- a call of j moves past calls of i
  past : (i j : ℕ) (m : Memory) (xs : List Call) (y : Call) → legal m ≡ true → ¬ (i ≡ j) → Only i xs → named j y ≡ true
      → (shown d i (next d m y) xs ≡ shown d i m xs) × (goes d (next d m y) xs ≡ next d (goes d m xs) y)
  past i j m [] y ok a o f = (refl, refl)
  past i j m (x ∷ xs) y ok a o f =
      let e = two m i j x y ok a o.0 f in
      let r = past i j (next d m x) xs y (kept m x ok) a o.1 f in (
        ap₂ (λ (v : Given) (vs : List Given). cond (named i x) (v ∷ []) [] ++ vs) e.first (ap (λ n. shown d i n xs) (sym e.left) ∙ r.0),
        ap (λ n. goes d n xs) (sym e.left) ∙ r.1,
      )

  -- in any mixing each farm is handed back what it is without the other; what is left is as if one had called behind the other
  module _ (i j : ℕ) (a : ¬ (i ≡ j)) where
    apart : {xs ys zs : List Call} (m : Memory) → legal m ≡ true → Only i xs → Only j ys → Mixed xs ys zs
        → (shown d i m zs ≡ shown d i m xs) × (shown d j m zs ≡ shown d j m ys) × (goes d m zs ≡ goes d (goes d m xs) ys)
    apart m ok o p ended = (refl, refl, refl)
    apart m ok o p (one {x = x} {ys = ys} q) =
        let r = apart (next d m x) (kept m x ok) o.1 p q in
        let b = past j i m ys x ok (λ e. a (sym e)) p o.0 in (
          ap (λ vs. cond (named i x) (given d m x ∷ []) [] ++ vs) r.0,
          rw (one_name i j x a o.0) (r.1 ∙ b.0),
          r.2,
        )
    apart m ok o p (other {y = y} {xs = xs} {ys = ys} q) =
        let r = apart (next d m y) (kept m y ok) o p.1 q in
        let b = past i j m xs y ok a o p.0 in (
          rw (one_name j i y (λ e. a (sym e)) p.0) (r.0 ∙ b.0),
          ap (λ vs. cond (named j y) (given d m y ∷ []) [] ++ vs) r.1,
          r.2 ∙ ap (λ n. goes d n ys) b.1,
        )

  pub any_mixes : Mixes d
  any_mixes m i j xs ys zs ws ok a o p q r =
      let s = apart i j a m ok o p q in
      let t = apart i j a m ok o p r in
      record { one = s.0 ∙ sym t.0; other = s.1 ∙ sym t.1; left = s.2 ∙ sym t.2 }

pub mixes : Mixes real
mixes = any_mixes real keeps commutes

-- ---- an instance: one farm stores and polls, the other stores the same key, in two mixings

abbrev ours : List Call
ours = call (store A (5 ∷ [])) ∷ asking (polling 1) ∷ []

abbrev theirs : List Call
theirs = call (store_two A (6 ∷ 6 ∷ [])) ∷ []

abbrev first : List Call
first = call (store_two A (6 ∷ 6 ∷ [])) ∷ call (store A (5 ∷ [])) ∷ asking (polling 1) ∷ []

abbrev between : List Call
between = call (store A (5 ∷ [])) ∷ call (store_two A (6 ∷ 6 ∷ [])) ∷ asking (polling 1) ∷ []

mixed : Alike real 1 2 both first between
unfolding on_map
mixed =
    mixes both 1 2 ours theirs first between (legal_after (start_two 7) [] (two_begun 7)) (λ e. omega arith) (refl, (refl, tt)) (refl, tt)
    (other (one (one ended))) (one (other (one ended)))

first_shown : shown real 1 both first ≡ returned 0 (zeros 16) (5 ∷ []) ∷ learnt (filled (record { number = 0; used = 2; keys = 1 })) ∷ []
unfolding on_memory room describe
first_shown = refl

between_shown : shown real 1 both between ≡ returned 0 (zeros 16) (5 ∷ []) ∷ learnt (filled (record { number = 0; used = 2; keys = 1 })) ∷ []
between_shown = sym mixed.one ∙ first_shown
