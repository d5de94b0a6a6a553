-- What the check of the memory answers. Assumes nothing.
use Rattle.std.specs.Prelude.{Bool, cond, Option, Some, None, List, [], ◌∷◌, ℕ, ◌+◌, ◌*◌, ◌≤◌, eqb, length}
use Rattle.octets.specs.Octets.{part, all_zero}
use Rattle.octets.specs.Tests.{all}
use Rattle.table.specs.Formats.{format_of}
use Rattle.store.specs.Maps.{values, used}
use Rattle.store.specs.Namespace.{Namespace}
use Rattle.store.specs.Records.{pairs_in}
use Rattle.legal.specs.Checks.{part_legal}
use Rattle.memory.specs.Namespaces.{total, slots_of, size_of}
use Rattle.memory.specs.Memory.{Memory, label_of, label_at, records_in, values_in, namespace_at, namespaces_of, legal}
use Rattle.checking.specs.declared.checks.Checked.{Checked}

-- ---- what is told of a namespace

abbrev pub numbers_at : ℕ → ℕ → ℕ → Namespace → Checked
numbers_at half start base s =
    record {
      label = label_of s;
      format = format_of s.index;
      half = half;
      start = start;
      end = start + 32 * slots_of s;
      base = base;
      total = length (values s.pairs);
    }

-- of the one that stands behind those in a
abbrev pub numbers_after : List Namespace → Namespace → Checked
numbers_after a s = numbers_at (32 * length a) (64 + 32 * total slots_of a) (total size_of a) s

-- of the one that n names, else of the first
abbrev pub numbers_of : ℕ → List Namespace → Option Checked
numbers_of n [] = None
numbers_of n (s ∷ []) = Some (numbers_after [] s)
numbers_of n (s ∷ t ∷ ss) = Some (cond (eqb t.id n) (numbers_after (s ∷ []) t) (numbers_after [] s))

-- of memory that is not legal nothing
unfoldable pub checked : ℕ → Memory → Option Checked
checked n m = cond (legal m) (numbers_of n (namespaces_of m)) None

-- ---- one half by itself

-- the half lies in the head, and records and values begin within the slices
pub record CanSee (half start base : ℕ) (d v : List ℕ) : Type 0 where
  pub head : half ≤ 32
  pub directory : 64 ≤ length d
  pub records : start ≤ length d
  pub values : base ≤ length v

-- zeros stand behind the numbers, the sum is that of the pairs, and the parts are their image
abbrev pub half_tests : ℕ → ℕ → ℕ → Memory → List Bool
half_tests half start base m =
    let h = label_at half m.directory in
    let s = records_in h start m.directory in
    let vs = values_in h base m.values in
    all_zero (part (half + 20) 12 m.directory) ∷ part_legal h s vs ∷ eqb (used (pairs_in h.count s vs)) h.used ∷ []

unfoldable pub half_checked : ℕ → ℕ → ℕ → Memory → Option Checked
half_checked half start base m =
    cond (all (half_tests half start base m)) (Some (numbers_at half start base (namespace_at half start base m))) None
