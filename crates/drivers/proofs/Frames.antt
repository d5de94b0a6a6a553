-- Calls of which none formats leave each namespace its id, its format and its size. Assumes nothing.
use mathlib.Core.Path.{◌≡◌, refl, ◌∙◌}
use mathlib.Core.Bool.{Bool, true, false, cond, not}
use mathlib.Core.List.{List, [], ◌∷◌}
use Prim.Native.Nat.{ℕ}
use lib.Dec.{eqb}
use Rattle.octets.proofs.TestLaws.{both}
use borrow.Author.Tests.{not-true}
use Rattle.wire.specs.Entry.{read_command}
use Rattle.store.specs.Maps.{Pair}
use Rattle.store.specs.Namespace.{Namespace, with_pairs}
use Rattle.memory.specs.Namespaces.{held, at, with}
use Rattle.memory.specs.Memory.{Memory}
use Rattle.module.specs.History.{begin, Call, formatting, commanding, asking, run, succeeded, told, stored, formats}
use Rattle.promises.specs.Histories.{never}

-- of the namespace that n names
pub record Framed (n : ℕ) (ss ts : List Namespace) : Type 0 where
  pub held : held n ss ≡ held n ts
  pub index : (at n ss).index ≡ (at n ts).index
  pub size : (at n ss).size ≡ (at n ts).size

framed_same : (n : ℕ) (ss : List Namespace) → Framed n ss ss
framed_same n ss = record { held = refl; index = refl; size = refl }

framed_then : {n : ℕ} {ss ts us : List Namespace} → Framed n ss ts → Framed n ts us → Framed n ss us
framed_then f g = record { held = f.held ∙ g.held; index = f.index ∙ g.index; size = f.size ∙ g.size }

framed_behind : (n : ℕ) (s : Namespace) (ss ts : List Namespace) → Framed n ss ts → Framed n (s ∷ ss) (s ∷ ts)
framed_behind n s ss ts f = go (eqb n s.id) refl
  where
    go : (z : Bool) → eqb n s.id ≡ z → Framed n (s ∷ ss) (s ∷ ts)
    go true e = record { held = rw e; index = rw e; size = rw e }
    go false e = record { held = rw e f.held; index = rw e f.index; size = rw e f.size }

framed_first : (n : ℕ) (s : Namespace) (ps : List Pair) (ss : List Namespace) → Framed n (with_pairs s ps ∷ ss) (s ∷ ss)
framed_first n s ps ss = go (eqb n s.id) refl
  where
    go : (z : Bool) → eqb n s.id ≡ z → Framed n (with_pairs s ps ∷ ss) (s ∷ ss)
    go true e = record { held = refl; index = rw e; size = rw e }
    go false e = record { held = refl; index = rw e; size = rw e }

framed_with : (n k : ℕ) (ps : List Pair) (ss : List Namespace) → Framed n (with k ps ss) ss
framed_with n k ps [] = framed_same n []
framed_with n k ps (s ∷ ss) = go (eqb k s.id) (framed_with n k ps ss)
  where
    go : (z : Bool) → Framed n (with k ps ss) ss → Framed n (cond z (with_pairs s ps ∷ ss) (s ∷ with k ps ss)) (s ∷ ss)
    go true f = framed_first n s ps ss
    go false f = framed_behind n s (with k ps ss) ss f

-- one call, and any
framed_call : (n : ℕ) (ss : List Namespace) (m : Memory) (x : Call) → not (formats x (run m x)) ≡ true → Framed n (told ss x (run m x)) ss
framed_call n ss m (asking q) h = framed_same n ss
framed_call n ss m (formatting l) h = let e : eqb (begin l m).number 0 ≡ false = not-true _ h in rw e (framed_same n ss)
framed_call n ss m (commanding p e c b) h = go (succeeded (run m (commanding p e c b))) _
  where
    go : (z : Bool) (ps : List Pair) → Framed n (cond z (with (read_command e).nsid ps ss) ss) ss
    go true ps = framed_with n (read_command e).nsid ps ss
    go false ps = framed_same n ss

pub framed : (n : ℕ) (ss : List Namespace) (m : Memory) (xs : List Call) → never formats m xs ≡ true → Framed n (stored ss m xs) ss
framed n ss m [] h = framed_same n ss
framed n ss m (x ∷ xs) h =
    let b = both _ _ h in
    framed_then (framed n (told ss x (run m x)) (run m x).after.memory xs b.1) (framed_call n ss m x b.0)
