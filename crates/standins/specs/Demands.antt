-- What is demanded over a history, said of any device: it may have each demand or lack it. Assumes nothing.
use Rattle.std.specs.Prelude.{◌≡◌, Bool, true, ◌||◌, List, ◌∷◌, ◌++◌, ℕ, length, take}
use Rattle.std.proofs.Math.Option.{none}
use Rattle.octets.specs.Octets.{put}
use Rattle.keys.specs.Keys.{Key}
use Rattle.wire.specs.Entry.{key_of, is_retrieve, is_list, is_delete, is_exist}
use Rattle.sheets.specs.Page.{page, shown, Reading}
use Rattle.store.specs.Maps.{lookup, keys as keys_of}
use Rattle.store.specs.Namespace.{Namespace}
use Rattle.memory.specs.Namespaces.{at as named}
use Rattle.rules.specs.Steps.{status_of}
use Rattle.module.specs.History.{Call, succeeded}
use Rattle.promises.specs.Histories.{Start, begun, Shows}
use Rattle.promises.specs.Requests.{Request, call, asked, Proper, Gives}
use Rattle.promises.specs.Retrieves.{value_in, SinceOn}
use Rattle.walks.specs.Walks.{WalkOn, Finds}
use Rattle.standins.specs.Devices.{Device, at, on, opens, reached}

-- ---- that calls are carried out

-- a formatting that no number refuses
abbrev pub Opens : Device → Type 0
Opens d = (a : Start) → (begun a).number ≡ 0 → (opens d a).number ≡ 0

-- after the calls xs, a command that neither numbers 1 and 2 nor steps a to j refuse
abbrev pub Accepts : List Call → Device → Type 0
Accepts xs d = (a : Start) (x : Request) → (opens d a).number ≡ 0 → length x.entry ≡ 64 → length x.completion ≡ 16
    → status_of true (named (asked x).nsid (reached d a xs).stored) (asked x) (length x.buffer) ≡ 0 → succeeded (at d (reached d a xs) (call x)) ≡ true

-- ---- Retrieve after Store

-- after a Store of k in n that succeeded, and calls that leave it alone, the value is handed over
abbrev pub Retrieves : Device → Type 0
Retrieves d = (a : Start) (xs : List Call) (x : Request) (ys : List Call) (n : ℕ) (k : Key) (r : Request)
    → SinceOn (on d) (opens d a).number (reached d a xs) x ys 0x01 n k
    → Proper n (named n (reached d a (xs ++ call x ∷ ys)).stored) 0x02 k r
    → Gives 0x00 (length (value_in x)) (put 0 (take (asked r).amount (value_in x)) r.buffer) (at d (reached d a (xs ++ call x ∷ ys)) (call r))

-- a key that is not stored is answered with 87h
abbrev pub Misses : Device → Type 0
Misses d = (a : Start) (xs : List Call) (op n : ℕ) (k : Key) (r : Request) → (opens d a).number ≡ 0
    → lookup k (named n (reached d a xs).stored).pairs ≡ none
    → (is_retrieve op || is_delete op || is_exist op) ≡ true → Proper n (named n (reached d a xs).stored) op k r
    → Gives 0x87 0 r.buffer (at d (reached d a xs) (call r))

-- ---- the memory

-- it is the image of what numbers and statuses tell
abbrev pub Images : Device → Type 0
Images d = (a : Start) (xs : List Call) → (opens d a).number ≡ 0 → Shows (reached d a xs).stored (reached d a xs).memory

-- ---- the page of a List

abbrev pub shown_to : Namespace → Request → List Key
shown_to s r = shown (asked r).amount (key_of (asked r)) (keys_of s.pairs)

-- each List that succeeds writes the page of the keys that fit
abbrev pub Pages : Device → Type 0
Pages d = (a : Start) (xs : List Call) (r : Request) → (opens d a).number ≡ 0 → is_list (asked r).opcode ≡ true
    → succeeded (at d (reached d a xs) (call r)) ≡ true
    → (at d (reached d a xs) (call r)).after.buffer ≡ put 0 (page (shown_to (named (asked r).nsid (reached d a xs).stored) r)) r.buffer

-- ---- the walk

-- a walk finds all keys that the history stored in n
abbrev pub Walks : Device → Type 0
Walks d = (a : Start) (xs : List Call) (n : ℕ) (f : Bool) (pages : List Reading) → (opens d a).number ≡ 0
    → WalkOn (on d) n (named n (reached d a xs).stored) (reached d a xs) f pages
    → Finds f (keys_of (named n (reached d a xs).stored).pairs) pages
