-- A Store of a held key: the room that there is once the key's pair is taken off, and the answer where that is enough. Assumes nothing.
use mathlib.Core.Path.{◌≡◌, ◌∙◌}
use mathlib.Core.Bool.{true}
use mathlib.Core.List.{List}
use mathlib.Core.Option.{some}
use Prim.Native.Nat.{ℕ, ◌+◌, ◌-◌, ◌≤◌}
use native.Mathlib.Omega.{arith}
use lib.ListN.{length, take, length-take}
use borrow.Author.Tests.{le-ltb}
use Rattle.keys.specs.Keys.{Key}
use Rattle.octets.proofs.TestLaws.{none_holds, none_first}
use Rattle.wire.specs.Entry.{key_of}
use Rattle.store.specs.Maps.{lookup, used, held_room, insert}
use Rattle.store.specs.Namespace.{Namespace}
use Rattle.store.proofs.CountLaws.{erase_used}
use Rattle.memory.specs.Namespaces.{at}
use Rattle.memory.specs.Memory.{Memory}
use Rattle.memory.proofs.ImageLaws.{Holds}
use Rattle.rules.specs.Steps.{step_i, step_j, status_of}
use Rattle.commands.specs.Answer.{answer}
use Rattle.commands.proofs.CommandLaws.{entry_key}
use Rattle.promises.specs.Requests.{Request, sends, asked, stock_at, PassesI, Gives}
use Rattle.promises.proofs.RequestLaws.{entry_64, early, later_steps, named_one, gives}

module _ (n : ℕ) (ss : List Namespace) (m : Memory) (h : Holds ss m) (k : Key) (v : List ℕ) (x : Request) (held : lookup k (at n ss).pairs ≡ some v)
    (p : PassesI n (at n ss) 0x01 k x) where
  abbrev pub s : Namespace
  s = at n ss

  -- the used room without the key's pair
  abbrev pub rest : ℕ
  rest = used s.pairs - held_room (key_of (asked x)) s.pairs

  pub spare : rest + (asked x).len + length v ≤ s.size
  spare =
      let c = asked x in
      let e = p.proper.passes in
      let room : held_room (key_of c) s.pairs ≡ length (key_of c) + length v = rw (p.proper.key, held) in
      let long : length (key_of c) ≡ c.len = omega (arith, length-take c.len c.key, (early s x e).sixteen, entry_key x.entry (entry_64 s x e)) in
      omega (arith, room, long, erase_used (key_of c) s.pairs, (named_one n ss m x h p.proper.nsid e).room)

  module _ (enough : rest + (asked x).len + (asked x).amount ≤ s.size) where
    -- step j: the key has its slot, and the room that is taken off is enough
    roomy : status_of true s (asked x) (length x.buffer) ≡ 0
    roomy =
        let c = asked x in
        let e = p.proper.passes in
        let fits = le-ltb s.size (rest + c.len + c.amount) enough in
        later_steps s x e ∙ none_first (step_i (stock_at s x) c) (step_j (stock_at s x) c) (none_holds (step_i (stock_at s x) c) tt p.keyed)
        ∙ rw (p.proper.opcode, fits, p.proper.key, held)

    pub again : Gives 0x00 0 x.buffer (sends m x)
    unfolding answer
    again =
        gives n ss m x h p.proper.nsid p.proper.passes
        (record { status = 0; dword0 = 0; buffer = x.buffer; pairs = insert (key_of (asked x)) (take (asked x).amount x.buffer) s.pairs })
        (rw (roomy, p.proper.opcode)) (omega arith)
