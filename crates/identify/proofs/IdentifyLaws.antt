-- What `create` answers. Assumes nothing.
use mathlib.Core.Path.{◌≡◌}
use mathlib.Core.Bool.{false}
use mathlib.Core.List.{List, [], ◌∷◌}
use Prim.Native.Nat.{ℕ}
use native.Mathlib.Omega.{arith}
use lib.Dec.{eqb}
use lib.ListN.{length}
use Rattle.octets.proofs.TestLaws.{known, holds, fails}
use Rattle.memory.specs.Memory.{Memory}
use Rattle.formatting.specs.Formatting.{format}
use Rattle.formatting.proofs.FormatLaws.{format_refused}
use Rattle.identify.specs.Identify.{asked, create}

module _ (s : List ℕ) (id : ℕ) (m : Memory) where
  pub create_is : (create s id m).number ≡ 0 → create s id m ≡ format (asked s id ∷ []) m
  unfolding create
  create_is e = elim (known (eqb (length s) 512)) [ holds q ↦ rw q | fails q ↦ absurd (omega (arith, rw q at e)) ]

  pub create_refused : eqb (create s id m).number 0 ≡ false → (create s id m).after ≡ m
  unfolding create format
  create_refused e = elim (known (eqb (length s) 512)) [ holds q ↦ rw q (format_refused (asked s id ∷ []) m (rw q at e)) | fails q ↦ rw q ]
