-- What is looked at of an entry; all else may differ. Assumes nothing.
use Rattle.std.specs.Prelude.{◌≡◌, Bool, true, ◌||◌, List, ◌++◌, ℕ, ◌%◌, length, get_or}
use Rattle.octets.specs.Octets.{part}
use Rattle.wire.specs.Entry.{is_store, is_retrieve, is_list}

-- Store, Retrieve and List read Dword 10
abbrev pub reads_amount : ℕ → Bool
reads_amount op = is_store op || is_retrieve op || is_list op

-- the sixteen key bytes of an entry: those behind the key are asked to be zero
abbrev pub key_bytes : List ℕ → List ℕ
key_bytes e = part 8 8 e ++ part 56 8 e

-- two entries that differ only in bytes, or bits of them, that are not looked at
pub record Agree (e f : List ℕ) : Type 0 where
  pub long : length e ≡ length f
  pub opcode : get_or e 0 0 ≡ get_or f 0 0
  pub fused : get_or e 1 0 % 4 ≡ get_or f 1 0 % 4
  pub cid : part 2 2 e ≡ part 2 2 f
  pub nsid : part 4 4 e ≡ part 4 4 f
  pub len : get_or e 44 0 ≡ get_or f 44 0
  pub key : key_bytes e ≡ key_bytes f
  pub options : is_store (get_or e 0 0) ≡ true → get_or e 45 0 % 4 ≡ get_or f 45 0 % 4
  pub amount : reads_amount (get_or e 0 0) ≡ true → part 40 4 e ≡ part 40 4 f
