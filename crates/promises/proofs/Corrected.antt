-- An instance of `store_again`: the store is full to the last byte, and the value has other bytes. Assumes nothing.
use mathlib.Core.Path.{◌≡◌, refl}
use mathlib.Core.List.{List, [], ◌∷◌}
use mathlib.Core.Option.{some}
use native.Mathlib.Omega.{arith}
use lib.ListN.{replicate}
use Rattle.store.specs.Maps.{lookup, used}
use Rattle.module.specs.History.{Call}
use Rattle.promises.specs.Histories.{memory_after, stored_in}
use Rattle.promises.specs.Requests.{Request, call, sends, PassesI, Gives}
use Rattle.promises.proofs.Examples.{on_map, on_memory, start, start_begun, A, store}
use Rattle.promises.proofs.StoreAgain.{store_again}

abbrev full : List Call
full = call (store A (replicate 63 1)) ∷ []

abbrev other : Request
other = store A (replicate 63 2)

met : (lookup A (stored_in 1 (start 7) full).pairs ≡ some (replicate 63 1)) × (used (stored_in 1 (start 7) full).pairs ≡ 64)
    × PassesI 1 (stored_in 1 (start 7) full) 0x01 A other
unfolding on_memory
met = (refl, refl, record { proper = record { nsid = refl; opcode = refl; key = refl; passes = refl }; keyed = refl })

corrected : Gives 0x00 0 (replicate 63 2) (sends (memory_after (start 7) full) other)
unfolding on_map
corrected = store_again (start 7) full 1 A (replicate 63 1) other (start_begun 7) met.0 met.2 (omega arith)
