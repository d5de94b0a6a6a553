-- What a look goes by. Assumes nothing.
use Rattle.std.specs.Prelude.{◌≡◌, List, [], ◌∷◌, ℕ, length, take}
use Rattle.memory.specs.Memory.{Memory}
use Rattle.quick.specs.Known.{record_at}

abbrev pub Each : (ℕ → Type 0) → List ℕ → Type 0
Each P [] = Unit {0}
Each P (j ∷ js) = P j × Each P js

-- two memories of the same lengths that agree in the head and in the slots js
pub record SameSeen (js : List ℕ) (m n : Memory) : Type 0 where
  pub directory : length m.directory ≡ length n.directory
  pub values : length m.values ≡ length n.values
  pub head : take 64 m.directory ≡ take 64 n.directory
  pub records : Each (λ j. record_at j m.directory ≡ record_at j n.directory) js
