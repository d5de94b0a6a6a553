-- Stand-ins for the module, as kinds of devices, and a device of each kind; each kind lacks one of the demands in `Demands.antt`.
-- Assumes nothing.
use Rattle.std.specs.Prelude.{◌≡◌, Bool, true, false, cond, ◌&&◌, List, [], ◌∷◌, ℕ, eqb}
use Rattle.octets.specs.Octets.{part, put, number, bytes}
use Rattle.wire.specs.Entry.{read_command, is_list}
use Rattle.sheets.specs.Page.{page, keys, read_page}
use Rattle.memory.specs.Namespaces.{at as named}
use Rattle.memory.specs.Memory.{Memory}
use Rattle.wire.specs.Completion.{Post}
use Rattle.commands.specs.Command.{completion_of, outcome}
use Rattle.module.specs.History.{Call, formatting, commanding, asking, lend, run, succeeded, status}
use Rattle.promises.specs.Histories.{Start}
use Rattle.promises.specs.Requests.{Request, call, asked}
use Rattle.standins.specs.Devices.{Device, at, opens, reached}
use Rattle.standins.specs.Demands.{shown_to}

-- ---- kinds

-- one status for all commands, 81h say, or 00h
abbrev pub Says : ℕ → Device → Type 0
Says st d = (before : List Call) (m : Memory) (p : Post) (e c b : List ℕ) → (d before m (commanding p e c b)).number ≡ 0
    → status (d before m (commanding p e c b)) ≡ st

-- no command changes the memory
abbrev pub Leaves : Device → Type 0
Leaves d = (before : List Call) (m : Memory) (p : Post) (e c b : List ℕ) → (d before m (commanding p e c b)).after.memory ≡ m

-- a device that keeps nothing of its own: it goes by what it is lent, and not by the calls before
abbrev pub Forgets : Device → Type 0
Forgets d = (before earlier : List Call) (m : Memory) (x : Call) → d before m x ≡ d earlier m x

-- a command is among the calls
abbrev pub commanded : List Call → Bool
commanded [] = false
commanded (formatting l ∷ xs) = commanded xs
commanded (commanding p e c b ∷ xs) = true
commanded (asking q ∷ xs) = commanded xs

-- after the first command each has status 00h and its data buffer back; what formattings do is free, and so are numbers 1 and 2
abbrev pub Idles : Device → Type 0
Idles d = (before : List Call) (m : Memory) (p : Post) (e c b : List ℕ) → commanded before ≡ true → (d before m (commanding p e c b)).number ≡ 0
    → (status (d before m (commanding p e c b)) ≡ 0) × ((d before m (commanding p e c b)).after.buffer ≡ b)

-- the same of the status alone
abbrev pub Posts : Device → Type 0
Posts d = (before : List Call) (m : Memory) (p : Post) (e c b : List ℕ) → commanded before ≡ true → (d before m (commanding p e c b)).number ≡ 0
    → status (d before m (commanding p e c b)) ≡ 0

-- the count of a page
abbrev pub count_of : List ℕ → ℕ
count_of b = number (part 0 4 b)

-- each List that succeeds counts n keys
abbrev pub Counts : ℕ → Device → Type 0
Counts n d = (before : List Call) (m : Memory) (p : Post) (e c b : List ℕ) → is_list (read_command e).opcode ≡ true
    → succeeded (d before m (commanding p e c b)) ≡ true → count_of (d before m (commanding p e c b)).after.buffer ≡ n

-- in some history a List that succeeds has another count than the page of the keys that fit, whatever it makes that count of
pub record Invents (d : Device) : Type 0 where
  pub start : Start
  pub calls : List Call
  pub list : Request
  pub formatted : (opens d start).number ≡ 0
  pub opcode : is_list (asked list).opcode ≡ true
  pub done : succeeded (at d (reached d start calls) (call list)) ≡ true
  pub wrong : (let s = named (asked list).nsid (reached d start calls).stored in
      ¬ (count_of (at d (reached d start calls) (call list)).after.buffer ≡ count_of (page (shown_to s list))))

-- each List that succeeds has a page with no key
abbrev pub Empties : Device → Type 0
Empties d = (before : List Call) (m : Memory) (p : Post) (e c b : List ℕ) → is_list (read_command e).opcode ≡ true
    → succeeded (d before m (commanding p e c b)) ≡ true → read_page (d before m (commanding p e c b)).after.buffer ≡ keys []

-- ---- one device of each kind: the module,

-- but for the completion
abbrev pub saying : ℕ → Device
saying st before m (formatting l) = run m (formatting l)
saying st before m (asking q) = run m (asking q)
saying st before m (commanding p e c b) =
    let o = run m (commanding p e c b) in
    outcome o.number (lend (completion_of p (read_command e) st 0) o.after.buffer o.after.memory)

-- but for the memory after a command
abbrev pub staying : Device
staying before m (formatting l) = run m (formatting l)
staying before m (asking q) = run m (asking q)
staying before m (commanding p e c b) =
    let o = run m (commanding p e c b) in
    outcome o.number (lend o.after.completion o.after.buffer m)

-- until a command was among the calls
abbrev pub resting : Device
resting before m (formatting l) = run m (formatting l)
resting before m (asking q) = run m (asking q)
resting before m (commanding p e c b) =
    let o = run m (commanding p e c b) in
    cond (commanded before && eqb o.number 0) (outcome 0 (lend (completion_of p (read_command e) 0 0) b m)) o

-- but for the count in a page, which is made of the right one
abbrev pub counting : (ℕ → ℕ) → Device
counting f before m x =
    let o = run m x in
    let b = o.after.buffer in
    outcome o.number (lend o.after.completion (put 0 (bytes 4 (f (count_of b))) b) o.after.memory)
