-- How many bytes a List page takes in the data buffer. Assumes nothing.
use Rattle.std.specs.Prelude.{cond, List, ℕ, zero, suc, ◌+◌, leb, ltb, length, drop}
use Rattle.octets.specs.Octets.{part, number}
use Rattle.sheets.specs.Page.{entry_size}

-- n entries at the beginning of s, as far as they lie in it
abbrev pub span : ℕ → List ℕ → ℕ
span zero s = 0
span (suc n) s =
    let size = entry_size (number (part 0 2 s)) in
    cond (leb size (length s)) (size + span n (drop size s)) 0

-- no page stands in fewer than 4 bytes
unfoldable pub page_span : List ℕ → ℕ
page_span s = cond (ltb (length s) 4) 0 (4 + span (number (part 0 4 s)) (drop 4 s))
