-- What is known of tests that hold or fail, and of tables of them: where all hold, or none. Assumes nothing.
use mathlib.Core.Path.{◌≡◌, refl, sym, ap, ◌∙◌}
use mathlib.Core.Bool.{Bool, true, false, cond, not, ◌&&◌, ◌||◌, and-true, and_assoc}
use mathlib.Core.List.{List, [], ◌∷◌, ◌++◌}
use Prim.Native.Nat.{ℕ}
use native.Mathlib.Omega.{arith}
use lib.Dec.{T, eqb}
use Rattle.octets.specs.Tests.{and, all, Row, first_of}

-- a test holds or fails: the split that keeps the equation
pub data Known (b : Bool) : Type 0 where
  holds : b ≡ true → Known b
  fails : b ≡ false → Known b

pub known : (b : Bool) → Known b
known true = holds refl
known false = fails refl

pub refuted : (b : Bool) → (b ≡ true → ⊥) → b ≡ false
refuted true h = absurd (h refl)
refuted false h = refl

pub contrary : false ≡ true → ⊥
contrary e = let z : ◌≡◌ {A = ℕ} 0 1 = cc in omega arith

pub both : (a b : Bool) → (a && b) ≡ true → (a ≡ true) × (b ≡ true)
both true b e = (refl, e)
both false b e = (e, cc)

pub neither : (a b : Bool) → (a || b) ≡ false → (a ≡ false) × (b ≡ false)
neither true b e = (e, cc)
neither false b e = (refl, e)

-- ---- all hold

abbrev pub All : List Bool → Type 0
All [] = Unit {0}
All (b ∷ bs) = (b ≡ true) × All bs

pub and_all : (b : Bool) (bs : List Bool) → and b bs ≡ (b && all bs)
and_all b [] = sym (and-true b)
and_all b (c ∷ bs) = and_all (b && c) bs ∙ and_assoc b c (all bs) ∙ ap (◌&&◌ b) (sym (and_all c bs))

pub all_true : (bs : List Bool) → all bs ≡ true → All bs
all_true [] e = tt
all_true (b ∷ bs) e =
    let p = both b (all bs) (rw and_all at e) in
    (p.0, all_true bs p.1)

pub true_all : (bs : List Bool) → All bs → all bs ≡ true
true_all [] a = refl
true_all (b ∷ bs) a = rw (and_all b bs, a.0) (true_all bs a.1)

-- ---- none holds

abbrev pub None : List Row → Type 0
None [] = Unit {0}
None (r ∷ rs) = (r.when ≡ false) × None rs

-- a test of the table's numbers
abbrev pub each : (ℕ → Bool) → List Row → Bool
each f [] = true
each f (r ∷ rs) = f r.number && each f rs

t_both : (a b : Bool) → T (a && b) → T a × T b
t_both true b t = (tt, t)
t_both false b t = absurd t

-- no number of the table is 0
abbrev pub named : List Row → Bool
named rs = each (λ n. not (eqb n 0)) rs

passed : (b : Bool) (n m : ℕ) → T (not (eqb n 0)) → cond b n m ≡ 0 → (b ≡ false) × (m ≡ 0)
passed true n m t e = absurd (rw e at t)
passed false n m t e = (refl, e)

pub none_holds : (rs : List Row) → T (named rs) → first_of rs ≡ 0 → None rs
none_holds [] t e = tt
none_holds (r ∷ rs) t e =
    let u = t_both (not (eqb r.number 0)) (named rs) t in
    let p = passed r.when r.number (first_of rs) u.0 e in
    (p.0, none_holds rs u.1 p.1)

-- rows of which none holds leave it to those behind them
pub none_first : (rs qs : List Row) → None rs → first_of (rs ++ qs) ≡ first_of qs
none_first [] qs n = refl
none_first (r ∷ rs) qs n = rw n.0 (none_first rs qs n.1)

-- and where one of them holds, they decide
pub some_first : (rs qs : List Row) → (first_of rs ≡ 0 → ⊥) → first_of (rs ++ qs) ≡ first_of rs
some_first [] qs h = absurd (h refl)
some_first (r ∷ rs) qs h = elim (known r.when) [ holds e ↦ rw e | fails e ↦ rw e (some_first rs qs (rw e at h)) ]

pub none_parts : (rs qs : List Row) → None (rs ++ qs) → None rs × None qs
none_parts [] qs n = (tt, n)
none_parts (r ∷ rs) qs n =
    let p = none_parts rs qs n.1 in
    ((n.0, p.0), p.1)

-- what 0 and each number of the table pass, the first one passes
pub first_each : (f : ℕ → Bool) (rs : List Row) → T (f 0) → T (each f rs) → T (f (first_of rs))
first_each f [] z t = z
first_each f (r ∷ rs) z t =
    let u = t_both (f r.number) (each f rs) t in
    elim (known r.when) [ holds e ↦ rw e u.0 | fails e ↦ rw e (first_each f rs z u.1) ]
