-- What the two halves of the head ask of the slices, and where the records of a namespace lie by them. Nothing else is asked of memory.
-- Assumes nothing.
use Rattle.std.specs.Prelude.{Bool, cond, ◌||◌, Result, Ok, Err, List, [], ◌∷◌, ℕ, ◌+◌, ◌*◌, length, leb, eqb}
use Rattle.refusals.specs.declared.numbers.Refusal.{Refusal}
use Rattle.refusals.specs.declared.numbers.Refusal.TheVariants.{SliceLength}
use Rattle.refusals.specs.Refusals.{number_of}
use Rattle.octets.specs.Tests.{all}
use Rattle.table.specs.Formats.{slots}
use Rattle.store.specs.declared.namespaces.Label.{Label}
use Rattle.memory.specs.Memory.{Memory, label_at}
use Rattle.quick.specs.declared.heads.Claim.{Claim}
use Rattle.quick.specs.declared.heads.Span.{Span}

-- ---- one half: where its id is 0 it asks for nothing

abbrev pub slots_by : Label → ℕ
slots_by h = cond (eqb h.id 0) 0 (slots h.index)

abbrev pub size_by : Label → ℕ
size_by h = cond (eqb h.id 0) 0 h.size

-- a format and a size that there are, and no more keys than the format allows
abbrev pub sound_tests : Label → List Bool
sound_tests h = leb h.index 15 ∷ leb 1 h.size ∷ leb h.size 65536 ∷ leb h.count (slots h.index) ∷ []

abbrev pub sound : Label → Bool
sound h = eqb h.id 0 || all (sound_tests h)

unfoldable pub claim_of : Label → Result Claim Refusal
claim_of h = cond (sound h) (Ok (record { slots = slots_by h; size = size_by h })) (Err SliceLength)

-- ---- both

-- what slices of d and v bytes must have, else 6
abbrev pub need_tests : Label → Label → ℕ → ℕ → List Bool
need_tests h t d v = leb 64 d ∷ sound h ∷ sound t ∷ leb (64 + 32 * (slots_by h + slots_by t)) d ∷ leb (size_by h + size_by t) v ∷ []

-- a number; the first slot, counted over the whole directory, and how many hold keys
pub record Run : Type 0 where
  pub number : ℕ
  pub first : ℕ
  pub count : ℕ

abbrev pub no_run : ℕ → Run
no_run n = record { number = n; first = 0; count = 0 }

-- what code answers
abbrev pub run_in : Result Span Refusal → Run
run_in (Ok s) = record { number = 0; first = s.first; count = s.count }
run_in (Err r) = no_run (number_of r)

abbrev pub run_from : ℕ → Label → Run
run_from first h = record { number = 0; first = first; count = h.count }

-- the records of the half that id names, the first where both have it; those of the second stand behind what the first asks for
abbrev pub chosen : ℕ → Label → Label → Run
chosen id h t =
    cond (eqb id 0) (no_run 23) (cond (eqb id h.id) (run_from 0 h) (cond (eqb id t.id) (run_from (slots_by h) t) (no_run 23)))

unfoldable pub run_by : ℕ → Label → Label → ℕ → ℕ → Run
run_by id h t d v = cond (all (need_tests h t d v)) (chosen id h t) (no_run 6)

unfoldable pub run_of : ℕ → Memory → Run
run_of id m = run_by id (label_at 0 m.directory) (label_at 32 m.directory) (length m.directory) (length m.values)
