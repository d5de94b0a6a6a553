use mathlib.Core.Path.{◌≡◌}
use Prim.Native.Nat.{◌≤◌}
use lib.ListN.{length}
use Rattle.octets.specs.Octets.{put}
use Rattle.sheets.specs.Identify.{descriptors}
use Rattle.identify.specs.Identify.{limits}
use Rattle.identify.proofs.pages.write_descriptors.Given as goal

-- the descriptors before i are written
abbrev pub invariant-loop-i : goal.invariant-loop-i
invariant-loop-i l = (328 ≤ length l.initial.page) × (length l.page ≡ length l.initial.page) × (l.page ≡ put 72 (descriptors limits l.i) l.initial.page)
