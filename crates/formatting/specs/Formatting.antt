-- Formatting for one namespace or for two: numbers 3 to 6 and 19, and the image of empty maps over the needed part of both slices.
-- Assumes nothing.
use Rattle.std.specs.Prelude.{cond, not, ◌||◌, Option, List, [], ◌∷◌, ◌++◌, ℕ, ◌-◌, ◌≤◌, length, ltb, eqb}
use Rattle.std.specs.Option.{option_to_list}
use Rattle.octets.specs.Octets.{put, zeros}
use Rattle.octets.specs.Tests.{Row, row, first_of}
use Rattle.store.specs.declared.namespaces.Label.{Label}
use Rattle.store.specs.Namespace.{Namespace, fresh, permit_steps}
use Rattle.memory.specs.Namespaces.{total, size_of, apart}
use Rattle.memory.specs.Memory.{Memory, memory, needed, needed_values, half_of, image_over}
use Rattle.formatting.specs.declared.measures.Half.{Half}
use Rattle.formatting.specs.declared.measures.Reach.{Reach}

abbrev pub half : ℕ → ℕ → ℕ → Half
half i id n = record { index = i; id = id; size = n }

-- of one namespace, or of two
abbrev pub halves : Half → Option Half → List Half
halves h o = h ∷ option_to_list o

-- what is asked for, with empty maps
abbrev pub blanks : List Half → List Namespace
blanks [] = []
blanks (h ∷ hs) = fresh h.index h.id h.size ∷ blanks hs

-- numbers 3 to 5 of each
abbrev pub permit_all : List Half → List Row
permit_all [] = []
permit_all (h ∷ hs) = permit_steps h.index h.id h.size ++ permit_all hs

-- those of all together; d and v are the lengths of directory and value slice
abbrev pub last_rows : List Namespace → ℕ → ℕ → List Row
last_rows ss d v =
    row (not (apart ss)) 19 ∷ row (ltb 65536 (total size_of ss)) 5 ∷ row (ltb d (needed ss) || ltb v (needed_values ss)) 6 ∷ []

-- in the order they are tried
unfoldable pub format_steps : List Half → ℕ → ℕ → List Row
format_steps hs d v = permit_all hs ++ last_rows (blanks hs) d v

pub record Formatted : Type 0 where
  pub number : ℕ
  pub after : Memory

abbrev pub formatted : ℕ → Memory → Formatted
formatted n m = record { number = n; after = m }

-- a refusal writes nothing
unfoldable pub format : List Half → Memory → Formatted
format hs m =
    let k = first_of (format_steps hs (length m.directory) (length m.values)) in
    record { number = k; after = cond (eqb k 0) (image_over (blanks hs) m) m }

-- ---- what the code finds and writes

-- the ends of the needed parts
abbrev pub reach_of : List Half → Reach
reach_of hs = record { records = needed (blanks hs); values = needed_values (blanks hs) }

pub record CanBlank (end stop d v : ℕ) : Type 0 where
  pub head : 64 ≤ end
  pub lies : end ≤ d
  pub fits : stop ≤ v

-- two halves, and zeros behind them up to `end`; zeros in the value slice up to `stop`
unfoldable pub blanked : Label → Label → ℕ → ℕ → Memory → Memory
blanked a b end stop m = memory (put 0 (half_of a ++ half_of b ++ zeros (end - 64)) m.directory) (put 0 (zeros stop) m.values)
