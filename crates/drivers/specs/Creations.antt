-- The bytes of a host's fields that are looked at. Assumes nothing.
use Rattle.std.specs.Prelude.{◌≡◌, List, ℕ, ◌%◌, length, get_or}
use Rattle.octets.specs.Octets.{part}

-- s and t are of one length, and the same in bytes 0 to 7 and in bits 3:0 of byte 31
pub record Agree (s t : List ℕ) : Type 0 where
  pub long : length s ≡ length t
  pub size : part 0 8 s ≡ part 0 8 t
  pub index : get_or s 31 0 % 16 ≡ get_or t 31 0 % 16
