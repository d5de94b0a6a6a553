-- What the check of two parts answers, and the pass over the records that finds it. Assumes nothing.
use Rattle.std.specs.Prelude.{◌≡◌, Bool, cond, List, [], ◌∷◌, ℕ, zero, suc, ◌+◌, ◌*◌, ◌≤◌, Option, Some, None, length, drop, leb, eqb}
use Rattle.keys.specs.declared.orders.Wide.{Wide}
use Rattle.octets.specs.Octets.{same}
use Rattle.std.specs.Ordering.{is_lt}
use Rattle.keys.specs.Keys.{order_wide, clear_wide}
use Rattle.octets.specs.Tests.{all, first_of}
use Rattle.table.specs.declared.formats.Format.{Format}
use Rattle.store.specs.declared.namespaces.Label.{Label}
use Rattle.store.specs.declared.records.Record.{Record}
use Rattle.legal.specs.declared.checks.Sums.{Sums}
use Rattle.table.specs.Formats.{format_of, slots}
use Rattle.store.specs.Maps.{Pair, values, used}
use Rattle.store.specs.Namespace.{permit_steps, within}
use Rattle.store.specs.Records.{records_part, values_part, slot_in, pairs_in}
use Rattle.store.specs.Parts.{labelled}

-- ---- two parts

-- parts of the lengths that permitted numbers ask for
pub record Checkable (h : Label) (f : Format) (s vs : List ℕ) : Type 0 where
  pub permitted : first_of (permit_steps h.index h.id h.size) ≡ 0
  pub format : f ≡ format_of h.index
  pub records : length s ≡ 32 * slots h.index
  pub values : length vs ≡ h.size

abbrev pub part_tests : Label → List Pair → List ℕ → List ℕ → List Bool
part_tests h m s vs =
    within (labelled h m) ∷ same (records_part h.id (32 * slots h.index) m) s ∷ same (values_part h.size m) vs ∷ []

-- s and vs are the image of the pairs that stand in them, which are within the limits
unfoldable pub part_legal : Label → List ℕ → List ℕ → Bool
part_legal h s vs = all (part_tests h (pairs_in h.count s vs) s vs)

abbrev pub sums_of : List Pair → Sums
sums_of m = record { total = length (values m); used = used m }

-- of parts that are not legal there are none
unfoldable pub part_sums : Label → List ℕ → List ℕ → Option Sums
part_sums h s vs = cond (part_legal h s vs) (Some (sums_of (pairs_in h.count s vs))) None

-- ---- the pass

-- the tests of a record, behind values of `total` bytes and the key `before`
abbrev pub slot_tests : ℕ → Format → ℕ → Wide → Record → List Bool
slot_tests id f total before r =
    leb 1 r.key_length
    ∷ leb r.key_length f.keymax
    ∷ leb r.value_length f.valuemax
    ∷ eqb r.place total
    ∷ eqb r.owner id
    ∷ is_lt (order_wide before r.key)
    ∷ clear_wide r.key
    ∷ []

-- the empty key
abbrev pub first_wide : Wide
first_wide = record { high = 0; low = 0; len = 0 }

-- n records from the front of s on, with the sums up to there
unfoldable pub pass_over : ℕ → ℕ → Format → ℕ → ℕ → Wide → List ℕ → Option Sums
pass_over zero id f t u w s = Some (record { total = t; used = u })
pass_over (suc n) id f t u w s =
    let r = slot_in s in
    cond (all (slot_tests id f t w r)) (pass_over n id f (t + r.value_length) (u + (r.key_length + r.value_length)) r.key (drop 32 s)) None

-- the bounds of a format, and a records part that has the records
pub record Readable (n : ℕ) (f : Format) (s : List ℕ) : Type 0 where
  pub keys : f.keymax ≤ 16
  pub values : f.valuemax ≤ 4096
  pub count : n ≤ 1024
  pub records : 32 * n ≤ length s
