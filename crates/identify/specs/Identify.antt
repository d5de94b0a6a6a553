-- The Identify page of a namespace with the sixteen formats, and formatting from a host's fields. Assumes nothing.
use Rattle.std.specs.Prelude.{cond, List, [], ◌∷◌, ℕ, eqb}
use Rattle.octets.specs.Tests.{first_of}
use Rattle.sheets.specs.declared.identify.Limits.{Limits}
use Rattle.sheets.specs.Identify.{identify_page, not_page, not_fields, asked_index, asked_size}
use Rattle.table.specs.declared.formats.Format.{Format}
use Rattle.table.specs.Formats.{format_of}
use Rattle.memory.specs.Memory.{Memory}
use Rattle.maps.specs.Describe.{Described, describe}
use Rattle.formatting.specs.declared.measures.Half.{Half}
use Rattle.formatting.specs.Formatting.{half, Formatted, formatted, format}

-- ---- the page

abbrev pub limits_of : Format → Limits
limits_of f = record { keymax = f.keymax; valuemax = f.valuemax; maxkeys = f.maxkeys }

-- those of format i
abbrev pub limits : ℕ → Limits
limits i = limits_of (format_of i)

abbrev pub page_of : Described → List ℕ
page_of d = identify_page d.size d.used d.index limits 16

-- the number, and the page's slice afterwards
pub record Identified : Type 0 where
  pub number : ℕ
  pub page : List ℕ

abbrev pub identified : ℕ → List ℕ → Identified
identified n p = record { number = n; page = p }

-- number 14, then that of what is told; a refusal leaves the slice
abbrev pub identify_of : Described → List ℕ → Identified
identify_of d p =
    let first = first_of (not_page p ∷ []) in
    cond (eqb first 0) (identified d.number (cond (eqb d.number 0) (page_of d) p)) (identified first p)

-- of the namespace that id names
unfoldable pub identify : ℕ → List ℕ → Memory → Identified
identify id p m = identify_of (describe id m) p

-- ---- the fields

abbrev pub asked : List ℕ → ℕ → Half
asked s id = half (asked_index s) id (asked_size s)

-- number 14, then what formatting does with the numbers that are asked for
unfoldable pub create : List ℕ → ℕ → Memory → Formatted
create s id m =
    let first = first_of (not_fields s ∷ []) in
    cond (eqb first 0) (format (asked s id ∷ []) m) (formatted first m)
