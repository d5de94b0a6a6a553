-- The two slices whole: the image of one or two namespaces in them, what stands in any bytes, and legal memory. The arrangement is the team's.
-- Directory: a head of two halves of 32 bytes, then the records part of each. Value slice: the values part of each.
-- Half: namespace id 0-3, format index 4-7, size 8-11, key count 12-15, used room 16-19, zeros to 31. The half of a namespace that is not there
-- is all zero, and so has id 0. Assumes nothing.
use Rattle.std.specs.Prelude.{Bool, cond, List, [], ◌∷◌, ◌++◌, ℕ, ◌+◌, ◌*◌, length, take, eqb}
use Rattle.octets.specs.Octets.{part, put, number, bytes, zeros, filled, same}
use Rattle.octets.specs.Tests.{all}
use Rattle.store.specs.declared.namespaces.Label.{Label}
use Rattle.table.specs.Formats.{slots}
use Rattle.store.specs.Maps.{Pair, used}
use Rattle.store.specs.Namespace.{Namespace}
use Rattle.store.specs.Records.{records_part, values_part, pairs_in}
use Rattle.store.specs.Parts.{labelled}
use Rattle.memory.specs.Namespaces.{joined, total, slots_of, size_of, at, with, all_within}

pub record Memory : Type 0 where
  pub directory : List ℕ
  pub values : List ℕ

abbrev pub memory : List ℕ → List ℕ → Memory
memory d v = record { directory = d; values = v }

-- bytes needed: of the directory the head and 32 bytes for each key allowed, of the value slice all sizes
abbrev pub needed : List Namespace → ℕ
needed ss = 64 + 32 * total slots_of ss

abbrev pub needed_values : List Namespace → ℕ
needed_values ss = total size_of ss

-- ---- the image

unfoldable pub half_of : Label → List ℕ
half_of h = bytes 4 h.id ++ bytes 4 h.index ++ bytes 4 h.size ++ bytes 4 h.count ++ bytes 4 h.used ++ zeros 12

abbrev pub label_of : Namespace → Label
label_of s = record { id = s.id; index = s.index; size = s.size; count = length s.pairs; used = used s.pairs }

-- what each has: a half of the head, a records part and a values part
abbrev pub half_for : Namespace → List ℕ
half_for s = half_of (label_of s)

abbrev pub records_for : Namespace → List ℕ
records_for s = records_part s.id (32 * slots s.index) s.pairs

abbrev pub values_for : Namespace → List ℕ
values_for s = values_part s.size s.pairs

unfoldable pub head_of : List Namespace → List ℕ
head_of ss = filled 64 (joined half_for ss)

unfoldable pub directory_of : List Namespace → List ℕ
directory_of ss = head_of ss ++ joined records_for ss

unfoldable pub values_of : List Namespace → List ℕ
values_of ss = joined values_for ss

-- bytes past the needed part stay as they were
abbrev pub image_over : List Namespace → Memory → Memory
image_over ss m = memory (put 0 (directory_of ss) m.directory) (put 0 (values_of ss) m.values)

-- ---- what stands in any bytes, asking nothing

-- the numbers in a half
unfoldable pub label_in : List ℕ → Label
label_in x =
    record {
      id = number (part 0 4 x);
      index = number (part 4 4 x);
      size = number (part 8 4 x);
      count = number (part 12 4 x);
      used = number (part 16 4 x);
    }

abbrev pub label_at : ℕ → List ℕ → Label
label_at half d = label_in (part half 32 d)

-- the parts that a label names, where they begin at these places
abbrev pub records_in : Label → ℕ → List ℕ → List ℕ
records_in h start d = part start (32 * slots h.index) d

abbrev pub values_in : Label → ℕ → List ℕ → List ℕ
values_in h base v = part base h.size v

-- the namespace whose half, records and values begin at these places
unfoldable pub namespace_at : ℕ → ℕ → ℕ → Memory → Namespace
namespace_at half start base m =
    let h = label_at half m.directory in
    labelled h (pairs_in h.count (records_in h start m.directory) (values_in h base m.values))

-- the first; and behind it the second, where its id is not 0
unfoldable pub namespaces_of : Memory → List Namespace
namespaces_of m =
    let s = namespace_at 0 64 0 m in
    let t = namespace_at 32 (64 + 32 * slots_of s) s.size m in
    s ∷ cond (eqb t.id 0) [] (t ∷ [])

-- the one that n names
abbrev pub pairs_at : ℕ → Memory → List Pair
pairs_at n m = (at n (namespaces_of m)).pairs

-- the image of what stands there, with other pairs in the one that n names
abbrev pub image_with : ℕ → (List Pair → List Pair) → Memory → Memory
image_with n f m = image_over (with n (f (pairs_at n m)) (namespaces_of m)) m

-- ss are within the limits, and the needed part of the slices is their image
abbrev pub image_tests : List Namespace → Memory → List Bool
image_tests ss m =
    all_within ss ∷ same (directory_of ss) (take (needed ss) m.directory) ∷ same (values_of ss) (take (needed_values ss) m.values) ∷ []

unfoldable pub legal : Memory → Bool
legal m = all (image_tests (namespaces_of m) m)
