use mathlib.Core.Path.{ap, ◌∙◌}
use Prim.Native.Nat.{ℕ}
use native.Mathlib.Omega.{arith}
use lib.ListN.{replicate, length-replicate, length-take, length-drop}
use Rattle.octets.proofs.PartLaws.{lent_all}
use Rattle.octets.proofs.runs.clear.Goals as goal

pub returns : goal.returns
returns c =
    lent_all _ _ _ _ (c.fill.ensures.after (λ y e. e) ∙ ap (λ (n : ℕ). replicate n 0) (simp (length-take, length-drop) (omega arith)))
    (rw length-replicate (omega arith))
