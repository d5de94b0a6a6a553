-- After any calls since a formatting, the value of a held key can be stored again: one no longer than what is held has room. Assumes nothing.
use mathlib.Core.Path.{◌≡◌}
use mathlib.Core.List.{List}
use mathlib.Core.Option.{some}
use Prim.Native.Nat.{ℕ, ◌≤◌}
use native.Mathlib.Omega.{arith}
use lib.ListN.{length}
use Rattle.keys.specs.Keys.{Key}
use Rattle.store.specs.Maps.{lookup}
use Rattle.module.specs.History.{Call}
use Rattle.promises.specs.Histories.{Start, begun, memory_after, stored_after, stored_in}
use Rattle.promises.specs.Requests.{Request, sends, asked, PassesI, Gives}
use Rattle.promises.proofs.RequestLaws.{holds_after}
use Rattle.promises.proofs.RoomAgain.{spare, again}

pub store_again : (a : Start) (xs : List Call) (n : ℕ) (k : Key) (v : List ℕ) (x : Request) → (begun a).number ≡ 0
    → lookup k (stored_in n a xs).pairs ≡ some v → PassesI n (stored_in n a xs) 0x01 k x → (asked x).amount ≤ length v
    → Gives 0x00 0 x.buffer (sends (memory_after a xs) x)
store_again a xs n k v x ok held p shorter =
    let ss = stored_after a xs in
    let m = memory_after a xs in
    let h = holds_after a xs ok in
    let room = spare n ss m h k v x held p in
    again n ss m h k v x held p (omega arith)
