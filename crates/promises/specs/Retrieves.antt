-- A Store or Delete that succeeds, and calls after it that leave its key alone. Assumes nothing.
use Rattle.std.specs.Prelude.{◌≡◌, true, List, [], ◌∷◌, ℕ, take}
use Rattle.keys.specs.Keys.{Key}
use Rattle.wire.specs.Entry.{key_of}
use Rattle.module.specs.History.{Call, succeeded}
use Rattle.promises.specs.Histories.{Start, begun, memory_after, System, own, never_on, touches}
use Rattle.promises.specs.Requests.{Request, call, asked}

-- what a Store takes for its value: the data buffer's first bytes
abbrev pub value_in : Request → List ℕ
value_in x = take (asked x).amount x.buffer

-- a formatting with number r led to q; there x, of opcode op, namespace n and key k, succeeds, and none of the calls ys after it formats, or
-- stores or deletes k of n, with success
pub record SinceOn {Q : Type 0} (w : System Q) (r : ℕ) (q : Q) (x : Request) (ys : List Call) (op n : ℕ) (k : Key) : Type 0 where
  pub formatted : r ≡ 0
  pub nsid : (asked x).nsid ≡ n
  pub opcode : (asked x).opcode ≡ op
  pub key : key_of (asked x) ≡ k
  pub done : succeeded (w.does q (call x)) ≡ true
  pub spared : never_on w (touches n k) (w.goes q (call x ∷ [])) ys ≡ true

-- of the module, after the calls xs
abbrev pub Since : Start → List Call → Request → List Call → ℕ → ℕ → Key → Type 0
Since a xs = SinceOn own (begun a).number (memory_after a xs)
