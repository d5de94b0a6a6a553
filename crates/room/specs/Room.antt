-- How full a namespace is. Assumes nothing.
use Rattle.std.specs.Prelude.{List, ℕ, length}
use Rattle.store.specs.Maps.{Pair, used}
use Rattle.memory.specs.Memory.{Memory}
use Rattle.maps.specs.Describe.{Described, describe}
use Rattle.room.specs.declared.polls.Room.{Room}

-- the used room of a map, and how many keys it has
abbrev pub filled_by : List Pair → Room
filled_by m = record { number = 0; used = used m; keys = length m }

-- a number, and zeros beside it
abbrev pub no_room : ℕ → Room
no_room n = record { number = n; used = 0; keys = 0 }

-- of what is told of a namespace
abbrev pub room_of : Described → Room
room_of d = record { number = d.number; used = d.used; keys = d.keys }

unfoldable pub room : ℕ → Memory → Room
room id m = room_of (describe id m)
