-- What the reader of Identify pages gives. Assumes nothing.
use Rattle.std.specs.Prelude.{cond, List, [], ◌∷◌, ℕ, eqb}
use Rattle.octets.specs.Tests.{first_of}
use Rattle.sheets.specs.declared.identify.Limits.{Limits}
use Rattle.sheets.specs.Identify.{not_page, size_in, used_in, formats_in, index_in, limits_at}
use Rattle.host.specs.declared.identities.Identity.{Identity}

-- number 14 comes with zeros
abbrev pub unidentified : ℕ → Identity
unidentified n = record { number = n; formats = 0; index = 0; keymax = 0; valuemax = 0; maxkeys = 0; size = 0; used = 0 }

-- so many formats, the namespace's format index, size and used room, and the limits of one format
abbrev pub identifying : ℕ → ℕ → ℕ → ℕ → Limits → Identity
identifying n index size used l =
    record {
      number = 0;
      formats = n;
      index = index;
      keymax = l.keymax;
      valuemax = l.valuemax;
      maxkeys = l.maxkeys;
      size = size;
      used = used;
    }

-- of a page p and an ordinal from 0
unfoldable pub identity : List ℕ → ℕ → Identity
identity p o =
    let first = first_of (not_page p ∷ []) in
    cond (eqb first 0) (identifying (formats_in p) (index_in p) (size_in p) (used_in p) (limits_at p o)) (unidentified first)
