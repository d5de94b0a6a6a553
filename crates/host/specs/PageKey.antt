-- What the reader of List pages gives. Assumes nothing.
use Rattle.std.specs.Prelude.{[], ℕ, Result, Ok, Err, length, get_or}
use Rattle.octets.specs.Octets.{zeros, filled}
use Rattle.keys.specs.Keys.{Key}
use Rattle.refusals.specs.Refusals.{number_of}
use Rattle.refusals.specs.declared.numbers.Refusal.{Refusal}
use Rattle.sheets.specs.Page.{Reading, refused, keys}
use Rattle.host.specs.declared.pages.PageKey.{PageKey}

-- numbers 7 to 11 come with count 0, length 0 and zero key bytes
abbrev pub refusal : ℕ → PageKey
refusal n = record { number = n; count = 0; len = 0; key = zeros 16 }

-- what C is told
abbrev pub told : Result PageKey Refusal → PageKey
told (Ok k) = k
told (Err r) = refusal (number_of r)

abbrev pub given : ℕ → Key → PageKey
given n k = record { number = 0; count = n; len = length k; key = filled 16 k }

-- the key of an ordinal from 0; past the last key it is the empty one, of length 0
abbrev pub page_key : Reading → ℕ → PageKey
page_key (refused n) o = refusal n
page_key (keys ks) o = given (length ks) (get_or ks o [])
