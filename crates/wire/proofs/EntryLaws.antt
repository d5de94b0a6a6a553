-- The puts that make a key of two halves, and an entry; a command that was written is read back; an opcode's byte is known. Assumes nothing.
use mathlib.Core.Path.{◌≡◌, refl, sym, subst, ◌∙◌}
use mathlib.Core.Bool.{true}
use mathlib.Core.List.{List, [], ◌∷◌, ◌++◌}
use Prim.Native.Nat.{ℕ, ◌%◌, ◌^◌, ◌≤◌, ◌<◌}
use native.Mathlib.Omega.{arith}
use lib.ListN.{length, length-append}
use Rattle.octets.specs.Octets.{part, put, zeros}
use Rattle.octets.proofs.PartLaws.{each, part_each, length_part, part_whole, puts_whole}
use Rattle.octets.proofs.NumberLaws.{number_bytes}
use Rattle.wire.specs.declared.entries.Command.{Command}
use Rattle.wire.specs.declared.entries.Opcode.{Opcode}
use Rattle.wire.specs.declared.entries.Opcode.TheVariants.{Store, Retrieve, List as ListKeys, Delete, Exist}
use Rattle.wire.specs.Entry.{read_command, front_of, dwords_of, write_command, stale, byte_of, known}

pub key_puts : (e : List ℕ) → length e ≡ 64 → put 8 (part 56 8 e) (put 0 (part 8 8 e) (zeros 16)) ≡ part 8 8 e ++ part 56 8 e
key_puts e h =
    let a = length_part 8 8 e (omega arith) in
    rw a at (puts_whole (part 8 8 e) (part 56 8 e ∷ []) (zeros 16) (simp length-append (omega (arith, length_part 56 8 e (omega arith)))))

module _ (c : Command) (k : length c.key ≡ 16) where
  half : (i : ℕ) → i ≤ 8 → length (part i 8 c.key) ≡ 8
  half i h = length_part i 8 c.key (omega arith)

  pub length_command : length (write_command c) ≡ 64
  unfolding write_command
  length_command = simp length-append (omega (arith, half 0 (omega arith), half 8 (omega arith)))

  pub entry_puts : (xs : List ℕ) → length xs ≡ 64
      → put 56 (part 8 8 c.key) (put 40 (dwords_of c) (put 16 (zeros 24) (put 8 (part 0 8 c.key) (put 0 (front_of c) xs)))) ≡ write_command c
  unfolding write_command
  entry_puts xs h =
      let vs = part 0 8 c.key ∷ zeros 24 ∷ dwords_of c ∷ part 8 8 c.key ∷ [] in
      rw (half 0 (omega arith)) at (puts_whole (front_of c) vs xs (length_command ∙ sym h))

-- each field within its bytes
pub record Sound (c : Command) : Type 0 where
  pub fused_in : c.fused < 4
  pub cid_in : c.cid < 256 ^ 2
  pub nsid_in : c.nsid < 256 ^ 4
  pub amount_in : c.amount < 256 ^ 4
  pub key_in : length c.key ≡ 16

-- c with another key
abbrev at : Command → List ℕ → Command
at c k = record { opcode = c.opcode; fused = c.fused; cid = c.cid; nsid = c.nsid; key = k; len = c.len; options = c.options; amount = c.amount }

sixteen : (k : List ℕ) → length k ≡ 16 → each 16 0 k ≡ k
sixteen k h = sym (part_each 16 0 k (omega arith)) ∙ part_whole 16 k h

pub command_back : (c : Command) → Sound c → read_command (write_command c) ≡ c
unfolding read_command write_command part
command_back c s =
    let f : c.fused % 4 ≡ c.fused = omega arith in
    subst (λ (k : List ℕ). read_command (write_command (at c k)) ≡ at c k) (sixteen c.key s.key_in)
    (rw (f, number_bytes 2 c.cid s.cid_in, number_bytes 4 c.nsid s.nsid_in, number_bytes 4 c.amount s.amount_in))

-- what stands behind the key, whatever the numbers beside it
pub stale_back : (c : Command) → length c.key ≡ 16 → stale (read_command (write_command c)) ≡ stale c
unfolding read_command write_command part
stale_back c h = subst (λ (k : List ℕ). stale (read_command (write_command (at c k))) ≡ stale (at c k)) (sixteen c.key h) refl

pub known_byte : (o : Opcode) → known (byte_of o) ≡ true
known_byte Store = refl
known_byte Retrieve = refl
known_byte ListKeys = refl
known_byte Delete = refl
known_byte Exist = refl
