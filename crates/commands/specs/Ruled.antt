-- What a command leans on that steps a to h let pass, and one that no step refused. Assumes nothing.
use Rattle.std.specs.Prelude.{◌≡◌, true, List, ℕ, length}
use Rattle.octets.specs.Tests.{first_of}
use Rattle.wire.specs.declared.entries.Command.{Command}
use Rattle.wire.specs.Entry.{key_of}
use Rattle.store.specs.declared.finds.Found.{Found}
use Rattle.store.specs.Maps.{keys}
use Rattle.store.specs.Finds.{found_key}
use Rattle.checking.specs.declared.checks.Checked.{Checked}
use Rattle.memory.specs.Namespaces.{at}
use Rattle.memory.specs.Memory.{memory, namespaces_of, pairs_at}
use Rattle.maps.specs.Asks.{Legal, Looked}
use Rattle.rules.specs.Steps.{view_of, steps_to_h, status_of}

-- n is the length of the data buffer, d and v are the two slices
pub record Admitted (c : Command) (k : Checked) (n : ℕ) (d v : List ℕ) : Type 0 where
  pub legal : Legal k d v
  pub named : c.nsid ≡ k.label.id
  pub early : first_of (steps_to_h (view_of true (at k.label.id (namespaces_of (memory d v))) n) c) ≡ 0

pub record Ruled (c : Command) (k : Checked) (f : Found) (n : ℕ) (d v : List ℕ) : Type 0 where
  pub legal : Legal k d v
  pub named : c.nsid ≡ k.label.id
  pub looked : Looked f (keys (pairs_at k.label.id (memory d v)))
  pub key : found_key f ≡ key_of c
  pub given : length c.key ≡ 16
  pub status : status_of true (at k.label.id (namespaces_of (memory d v))) c n ≡ 0
