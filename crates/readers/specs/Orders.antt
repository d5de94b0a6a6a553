-- Two calls in one order and in the other: what each hands back, and what both leave. A call has its own data buffer, and the queue
-- numbers that its caller gives are its own in either order. Assumes nothing.
use Rattle.std.specs.Prelude.{◌≡◌, Bool, true, false, List, ℕ, eqb}
use Rattle.keys.specs.Keys.{Key}
use Rattle.wire.specs.Entry.{read_command, key_of}
use Rattle.memory.specs.Memory.{Memory, legal}
use Rattle.commands.specs.Command.{Outcome}
use Rattle.module.specs.History.{id_of, Told, Call, formatting, commanding, asking, succeeded, status}
use Rattle.farms.specs.Sides.{Device, next}
use Rattle.promises.specs.Histories.{writes}
use Rattle.promises.specs.Requests.{Request, call, asked}

-- what a call hands back: the number, and completion and data buffer as they stand afterwards, whole; a question, its answer
pub data Given : Type 0 where
  returned : ℕ → List ℕ → List ℕ → Given
  learnt : Told → Given

abbrev pub handed : Outcome → Given
handed o = returned o.number o.after.completion o.after.buffer

abbrev pub given : Device → Memory → Call → Given
given d m (formatting l) = handed (d.does m (formatting l))
given d m (commanding p e c b) = handed (d.does m (commanding p e c b))
given d m (asking q) = learnt (d.tells m q)

-- x before y, or y before x: each hands back the same, and memory is left the same, byte by byte
pub record EitherOrder (d : Device) (m : Memory) (x y : Call) : Type 0 where
  pub first : given d (next d m y) x ≡ given d m x
  pub second : given d (next d m x) y ≡ given d m y
  pub left : next d (next d m x) y ≡ next d (next d m y) x

-- ---- on one namespace

-- a Store or a Delete, of key k in the namespace n
pub record Changes (n : ℕ) (k : Key) (x : Request) : Type 0 where
  pub nsid : (asked x).nsid ≡ n
  pub key : key_of (asked x) ≡ k
  pub writes : writes (asked x).opcode ≡ true

-- two of these, on different keys of one namespace
pub record Apart (x y : Request) : Type 0 where
  pub nsid : ℕ
  pub key : Key
  pub other : Key
  pub differ : ¬ (key ≡ other)
  pub one : Changes nsid key x
  pub two : Changes nsid other y

-- x and behind it y, both with number 0 and status 00h
pub record Succeed (d : Device) (m : Memory) (x y : Call) : Type 0 where
  pub first : succeeded (d.does m x) ≡ true
  pub second : succeeded (d.does (next d m x) y) ≡ true

-- x and behind it y, and no completion says 81h
pub record HaveRoom (d : Device) (m : Memory) (x y : Call) : Type 0 where
  pub first : ¬ (status (d.does m x) ≡ 0x81)
  pub second : ¬ (status (d.does (next d m x) y) ≡ 0x81)

-- request [14]: with success in either order
abbrev pub Swaps : Device → Type 0
Swaps d =
    (m : Memory) (x y : Request) → legal m ≡ true → Apart x y → Succeed d m (call x) (call y) → Succeed d m (call y) (call x)
    → EitherOrder d m (call x) (call y)

-- and more: by nothing but room can the orders be told apart
abbrev pub RoomTells : Device → Type 0
RoomTells d =
    (m : Memory) (x y : Request) → legal m ≡ true → Apart x y → HaveRoom d m (call x) (call y) → HaveRoom d m (call y) (call x)
    → EitherOrder d m (call x) (call y)

-- ---- on different namespaces

-- a command or a question that names n; a formatting names none
abbrev pub named : ℕ → Call → Bool
named n (formatting l) = false
named n (commanding p e c b) = eqb n (read_command e).nsid
named n (asking q) = eqb n (id_of q)

-- request [14]: whether they succeed or not, and whether there are namespaces i and j or not
abbrev pub Commutes : Device → Type 0
Commutes d = (m : Memory) (i j : ℕ) (x y : Call) → legal m ≡ true → ¬ (i ≡ j) → named i x ≡ true → named j y ≡ true → EitherOrder d m x y
