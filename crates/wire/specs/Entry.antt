-- The entry, 64 bytes, and the table of opcodes. Assumes nothing.
use Rattle.std.specs.Prelude.{◌≡◌, Bool, false, not, ◌&&◌, ◌||◌, List, [], ◌∷◌, ◌++◌, ℕ, ◌/◌, ◌%◌, eqb, length, take, drop, get_or, Result, MatchResult}
use Rattle.octets.specs.Octets.{part, number, bytes, zeros, all_zero}
use Rattle.keys.specs.Keys.{Key}
use Rattle.octets.specs.Tests.{Row, row}
use Rattle.wire.specs.declared.entries.Command.{Command}
use Rattle.wire.specs.declared.entries.Opcode.{Opcode}
use Rattle.wire.specs.declared.entries.Opcode.TheVariants.{Store, Retrieve, List as ListKeys, Delete, Exist}
use Rattle.wire.specs.declared.entries.UnknownOpcode.{UnknownOpcode}

-- what an entry says
unfoldable pub read_command : List ℕ → Command
read_command e =
    record {
      opcode = get_or e 0 0;
      fused = get_or e 1 0 % 4;
      cid = number (part 2 2 e);
      nsid = number (part 4 4 e);
      key = part 8 8 e ++ part 56 8 e;
      len = get_or e 44 0;
      options = get_or e 45 0;
      amount = number (part 40 4 e);
    }

-- bytes 0 to 7 of the entry that says it, and its bytes 40 to 55
abbrev pub front_of : Command → List ℕ
front_of c = (c.opcode ∷ []) ++ (c.fused ∷ []) ++ bytes 2 c.cid ++ bytes 4 c.nsid

abbrev pub dwords_of : Command → List ℕ
dwords_of c = bytes 4 c.amount ++ (c.len ∷ []) ++ (c.options ∷ []) ++ zeros 10

-- the whole entry, with zeros in every field not named
unfoldable pub write_command : Command → List ℕ
write_command c = front_of c ++ part 0 8 c.key ++ zeros 24 ++ dwords_of c ++ part 8 8 c.key

-- what stands behind the key length is no part of the key
abbrev pub key_of : Command → Key
key_of c = take c.len c.key

-- a byte other than zero stands there
abbrev pub stale : Command → Bool
stale c = not (all_zero (drop c.len c.key))

-- ---- the table of opcodes

abbrev pub is_store : ℕ → Bool
is_store op = eqb op 0x01

abbrev pub is_retrieve : ℕ → Bool
is_retrieve op = eqb op 0x02

abbrev pub is_list : ℕ → Bool
is_list op = eqb op 0x06

abbrev pub is_delete : ℕ → Bool
is_delete op = eqb op 0x10

abbrev pub is_exist : ℕ → Bool
is_exist op = eqb op 0x14

abbrev pub known : ℕ → Bool
known op = is_store op || is_retrieve op || is_list op || is_delete op || is_exist op

-- the byte that stands for an opcode
abbrev pub byte_of : Opcode → ℕ
byte_of Store = 0x01
byte_of Retrieve = 0x02
byte_of ListKeys = 0x06
byte_of Delete = 0x10
byte_of Exist = 0x14

-- the result is the opcode that the byte stands for, or the byte stands for none
abbrev pub Names : ℕ → Result Opcode UnknownOpcode → Type 0
Names op r = MatchResult r (λ o. byte_of o ≡ op) (λ _. known op ≡ false)

-- options of a Store: bit 0 wants the key to be there, bit 1 wants it not to be
abbrev pub if_present : Command → Bool
if_present c = is_store c.opcode && eqb (c.options % 2) 1

abbrev pub if_absent : Command → Bool
if_absent c = is_store c.opcode && eqb (c.options / 2 % 2) 1

-- house number 1
abbrev pub not_entry : List ℕ → Row
not_entry e = row (not (eqb (length e) 64)) 1
