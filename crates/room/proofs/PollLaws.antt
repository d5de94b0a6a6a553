-- Memory that holds namespaces says how full each is. Assumes nothing.
use mathlib.Core.Path.{◌≡◌, refl, ap, ◌∙◌}
use mathlib.Core.Bool.{Bool, true, false, cond}
use mathlib.Core.List.{List}
use Prim.Native.Nat.{ℕ}
use Rattle.store.specs.Namespace.{Namespace}
use Rattle.memory.specs.Namespaces.{held, at}
use Rattle.memory.specs.Memory.{Memory}
use Rattle.memory.proofs.ImageLaws.{Holds}
use Rattle.maps.specs.Describe.{described, undescribed}
use Rattle.maps.proofs.DescribeLaws.{describe_held}
use Rattle.room.specs.Room.{filled_by, no_room, room_of, room}

pub room_held : {ss : List Namespace} {m : Memory} (id : ℕ) → Holds ss m → room id m ≡ cond (held id ss) (filled_by (at id ss).pairs) (no_room 23)
unfolding room
room_held {ss} id h = ap room_of (describe_held id h) ∙ go (held id ss)
  where
    go : (z : Bool) → room_of (cond z (described (at id ss)) (undescribed 23)) ≡ cond z (filled_by (at id ss).pairs) (no_room 23)
    go true = refl
    go false = refl
