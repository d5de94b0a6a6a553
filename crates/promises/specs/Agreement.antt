-- What host and module agree on: what a host asks for, what the module is to read of it, and what a completion is to say. Assumes
-- nothing.
use Rattle.std.specs.Prelude.{◌≡◌, true, false, ◌||◌, List, ℕ, ◌%◌, ◌^◌, ◌≤◌, ◌<◌, length}
use Rattle.octets.specs.Octets.{filled}
use Rattle.keys.specs.Keys.{Key}
use Rattle.wire.specs.declared.entries.Command.{Command}
use Rattle.wire.specs.declared.completions.Completion.{Completion}
use Rattle.wire.specs.Entry.{key_of, known, is_store, is_retrieve, is_list, is_delete, is_exist}
use Rattle.host.specs.Build.{Built, build}
use Rattle.wire.specs.Completion.{Post}
use Rattle.commands.specs.Command.{Response}

-- ---- from host to module

-- what the builder is given beside the entry's slice
pub record Ask : Type 0 where
  pub opcode : ℕ
  pub cid : ℕ
  pub nsid : ℕ
  pub key : Key
  pub dword10 : ℕ
  pub options : ℕ

abbrev pub builds : List ℕ → Ask → Built
builds e a = build e a.opcode a.cid a.nsid a.key a.dword10 a.options

-- one of the five opcodes, a key of at most 16 bytes, and numbers of C's types
pub record Askable (a : Ask) : Type 0 where
  pub five : known a.opcode ≡ true
  pub few : length a.key ≤ 16
  pub cid_in : a.cid < 2 ^ 16
  pub nsid_in : a.nsid < 2 ^ 32
  pub dword10_in : a.dword10 < 2 ^ 32

-- c is the command that was asked for, and what it does not have is zero: fused bits, key bytes behind the length, Dword 10 and options
-- where the opcode has none
pub record Asked (a : Ask) (c : Command) : Type 0 where
  pub opcode : c.opcode ≡ a.opcode
  pub fused : c.fused ≡ 0
  pub cid : c.cid ≡ a.cid
  pub nsid : c.nsid ≡ a.nsid
  pub len : c.len ≡ length a.key
  pub key : key_of c ≡ a.key
  pub padded : c.key ≡ filled 16 a.key
  pub options : is_store a.opcode ≡ true → c.options ≡ a.options
  pub no_options : is_store a.opcode ≡ false → c.options ≡ 0
  pub dword10 : (is_store a.opcode || is_retrieve a.opcode || is_list a.opcode) ≡ true → c.amount ≡ a.dword10
  pub no_dword10 : (is_delete a.opcode || is_exist a.opcode) ≡ true → c.amount ≡ 0

-- ---- from module to host

pub record Postable (p : Post) : Type 0 where
  pub head_in : p.head < 2 ^ 16
  pub queue_in : p.queue < 2 ^ 16

-- what the completion is to say of a response to a command with identifier i
abbrev pub posted : Post → ℕ → Response → Completion
posted p i r = record { dword0 = r.dword0; head = p.head; queue = p.queue; cid = i; phase = p.phase % 2; status = r.status; kind = 0 }
