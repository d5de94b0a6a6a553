-- Legal memory is the image of one or two maps within the limits, of one list of them only; and one map has the bytes that it had before there
-- could be two (request [7]). Assumes nothing.
use mathlib.Core.Path.{◌≡◌, refl}
use mathlib.Core.Bool.{true, false}
use mathlib.Core.List.{List, [], ◌∷◌, ◌++◌}
use Prim.Native.Nat.{ℕ, ◌*◌}
use Rattle.octets.specs.Octets.{put, zeros}
use Rattle.table.specs.Formats.{slots}
use Rattle.store.specs.Namespace.{Namespace, fresh}
use Rattle.store.specs.Records.{records_part, values_part}
use Rattle.memory.specs.Memory.{Memory, memory, half_of, label_of, directory_of, values_of, namespaces_of, legal}
use Rattle.memory.proofs.LimitLaws.{all_within_law, within_all}
use Rattle.memory.proofs.ImageLaws.{Holds, holds_legal, legal_holds, image_one, one_directory, one_values}
use Rattle.promises.specs.Histories.{begun, Shows}
use Rattle.promises.proofs.Examples.{on_memory, start, start_two}

holds_of : {ss : List Namespace} {m : Memory} → Shows ss m → Holds ss m
holds_of {ss} s = record { within = all_within_law ss s.within; directory = s.directory; values = s.values }

-- ---- legal exactly if some list within the limits has this image

pub legal_shows : (m : Memory) → legal m ≡ true → Shows (namespaces_of m) m
legal_shows m e =
    let h = legal_holds m e in
    record { within = within_all (namespaces_of m) h.within; directory = h.directory; values = h.values }

pub shows_legal : (ss : List Namespace) (m : Memory) → Shows ss m → legal m ≡ true
shows_legal ss m s = holds_legal (holds_of s)

-- and no other list has
pub shows_one : (ss ts : List Namespace) (m : Memory) → Shows ss m → Shows ts m → ss ≡ ts
shows_one ss ts m s t = image_one (holds_of s) (holds_of t)

-- ---- one namespace: its half, zeros up to 64, and its two parts

pub one_as_before : (s : Namespace) → (directory_of (s ∷ []) ≡ (half_of (label_of s) ++ zeros 32) ++ records_part s.id (32 * slots s.index) s.pairs)
    × (values_of (s ∷ []) ≡ values_part s.size s.pairs)
one_as_before s = (one_directory s, one_values s)

-- ---- instances: memory that was just formatted for two, and for one

abbrev two : Memory
two = (begun (start_two 7)).after

abbrev one : Memory
one = (begun (start 7)).after

stands : (legal two ≡ true) × (namespaces_of two ≡ fresh 15 1 64 ∷ fresh 15 2 64 ∷ []) × (namespaces_of one ≡ fresh 15 1 64 ∷ [])
unfolding on_memory
stands = (refl, refl, refl)

shown : Shows (namespaces_of two) two
shown = legal_shows two stands.0

-- the bytes vs at an index of the directory
abbrev damaged : ℕ → List ℕ → Memory → Memory
damaged at vs m = memory (put at vs m.directory) m.values

-- not legal: two equal ids; only the second half used; a second half that is not all zero beside id 0, in its first byte behind the id or its last
refused : (legal (damaged 32 (1 ∷ []) two) ≡ false) × (legal (damaged 0 (zeros 32) two) ≡ false)
    × (legal (damaged 36 (15 ∷ []) one) ≡ false) × (legal (damaged 63 (1 ∷ []) one) ≡ false)
unfolding on_memory
refused = (refl, refl, refl, refl)
