-- The device in which one farm's full store makes the other's Store 81h is told from the module by document 02's sentence (request [7]).
-- Assumes nothing.
use mathlib.Core.Path.{◌≡◌, refl, sym, ap, ◌∙◌}
use mathlib.Core.List.{List, [], ◌∷◌}
use Prim.Native.Nat.{ℕ}
use native.Mathlib.Omega.{arith}
use Rattle.formatting.specs.Formatting.{format, format_steps}
use Rattle.module.specs.History.{Call}
use Rattle.farms.specs.Sides.{real, own, Seen, answered, learnt, Side, sees, Follows, Isolates}
use Rattle.farms.specs.Shared.{shared}
use Rattle.farms.proofs.Isolation.{two_histories}
use Rattle.farms.proofs.Examples.{on_map, on_memory, start, A, call}

-- the Store of one farm, and the same behind a Store that fills the other's two bytes
abbrev single : List Call
single = call 0x01 1 A (5 ∷ []) ∷ []

abbrev behind : List Call
behind = call 0x01 2 A (9 ∷ []) ∷ single

single_follows : Follows shared 1 (start 64 2) single
unfolding format format_steps
single_follows = record { formatted = refl; held = refl; unformatted = refl }

behind_follows : Follows shared 1 (start 64 2) behind
unfolding format format_steps
behind_follows = record { formatted = refl; held = refl; unformatted = refl }

-- the first status that a farm is shown
abbrev first_status : Side → ℕ
first_status t = go t.shown
  where
    go : List Seen → ℕ
    go [] = 0
    go (answered k st w b ∷ vs) = st
    go (learnt r ∷ vs) = 0

statuses : (first_status (sees shared 1 (start 64 2) single) ≡ 0x00) × (first_status (sees shared 1 (start 64 2) behind) ≡ 0x81)
    × (first_status (sees real 1 (start 64 2) behind) ≡ 0x00)
unfolding on_memory
statuses = (refl, refl, refl)

same_asked : own 1 single ≡ own 1 behind
unfolding on_map
same_asked = refl

pub told_apart : Isolates real × ¬ Isolates shared
told_apart = (
  two_histories,
  λ i.
      let e = ap first_status (i 1 (start 64 2) (start 64 2) single behind single_follows behind_follows refl same_asked) in
      let z : ◌≡◌ {A = ℕ} 0x00 0x81 = sym statuses.0 ∙ e ∙ statuses.1 in
      omega arith,
)
