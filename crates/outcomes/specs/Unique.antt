-- A contract leaves one outcome: said of the contract itself, as the prover reads it off the source. Assumes nothing.
use Rattle.std.specs.Prelude.{◌≡◌, List, ℕ}
use borrow.Fn.Kinds.{ParamKind, ResultKind, Dens, Out, res_t, ended_of}
use contract.Lifetimes.{Lfts}
use denote.Triple.Clauses.{Lasts, at_exit}

-- P is what a caller learns of a function with parameters ps and result r. Whatever the arguments a: two answers x and y, with what
-- the lent slices hold at exit, u and v, are the same. A parameter that is no `&mut` stays as it was passed and has `tt` there.
abbrev pub Determines : {n : ℕ} (ps : List (ParamKind n)) (r : ResultKind n) → Out n ps r → Type 0
Determines {n} ps r P =
    (κs : Lfts n) (a : Dens κs ps) (x y : (res_t r κs).Denot) (u v : Lasts (ended_of n ps r) κs a)
    → P κs a x (at_exit (ended_of n ps r) κs a u) → P κs a y (at_exit (ended_of n ps r) κs a v) → (x ≡ y) × (u ≡ v)

-- Of the answers alone, where the type of a parameter is open: what such a type lends, the function's contract cannot name.
abbrev pub Answers : {n : ℕ} (ps : List (ParamKind n)) (r : ResultKind n) → Out n ps r → Type 0
Answers {n} ps r P =
    (κs : Lfts n) (a : Dens κs ps) (x y : (res_t r κs).Denot) (u v : Lasts (ended_of n ps r) κs a)
    → P κs a x (at_exit (ended_of n ps r) κs a u) → P κs a y (at_exit (ended_of n ps r) κs a v) → x ≡ y
