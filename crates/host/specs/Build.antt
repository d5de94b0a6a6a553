-- What the builder of entries gives. Assumes nothing.
use Rattle.std.specs.Prelude.{cond, not, ◌||◌, List, [], ◌∷◌, ℕ, ltb, eqb, length}
use Rattle.octets.specs.Octets.{filled}
use Rattle.keys.specs.Keys.{Key}
use Rattle.octets.specs.Tests.{Row, row, first_of}
use Rattle.wire.specs.declared.entries.Command.{Command}
use Rattle.wire.specs.Entry.{write_command, known, is_store, is_delete, is_exist, not_entry}

-- fields that a command does not have are zero
abbrev pub amount_of : ℕ → ℕ → ℕ
amount_of o n = cond (is_delete o || is_exist o) 0 n

abbrev pub options_of : ℕ → ℕ → ℕ
options_of o n = cond (is_store o) n 0

unfoldable pub command : ℕ → ℕ → ℕ → Key → ℕ → ℕ → Command
command o cid nsid k dword10 options =
    record {
      opcode = o;
      fused = 0;
      cid = cid;
      nsid = nsid;
      key = filled 16 k;
      len = length k;
      options = options_of o options;
      amount = amount_of o dword10;
    }

-- numbers 1, 12 and 13, in the order they are tried
abbrev pub build_steps : List ℕ → ℕ → Key → List Row
build_steps e o k =
    not_entry e
    ∷ row (ltb 16 (length k)) 12
    ∷ row (not (known o)) 13
    ∷ []

-- the number, and the entry's slice afterwards
pub record Built : Type 0 where
  pub number : ℕ
  pub entry : List ℕ

abbrev pub built : ℕ → List ℕ → Built
built n e = record { number = n; entry = e }

unfoldable pub build : List ℕ → ℕ → ℕ → ℕ → Key → ℕ → ℕ → Built
build e o cid nsid k dword10 options =
    let first = first_of (build_steps e o k) in
    built first (cond (eqb first 0) (write_command (command o cid nsid k dword10 options)) e)
