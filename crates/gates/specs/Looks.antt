-- What a gate reader is promised of the quick look (request [4]), and devices that are to be told from the module by it. Assumes nothing.
use Rattle.std.specs.Prelude.{◌≡◌, true, false, cond, List, ℕ, suc, ◌^◌, ◌≤◌, ◌<◌, length}
use Rattle.keys.specs.Keys.{Key}
use Rattle.store.specs.Maps.{Pair, present}
use Rattle.memory.specs.Namespaces.{held}
use Rattle.memory.specs.Memory.{Memory, namespaces_of, pairs_at, legal}
use Rattle.quick.specs.declared.looks.Look.{Look}
use Rattle.quick.specs.Known.{no_key, run_for, search_for, no_look, known}
use Rattle.quick.specs.Seen.{SameSeen}
use Rattle.module.specs.History.{Call}
use Rattle.promises.specs.Histories.{Start, begun, memory_after, stored_after, stored_in}

-- what a device makes of a key, an id and memory
abbrev pub Looker : Type 0
Looker = Key → ℕ → Memory → Look

-- done, with a yes exactly if k is among the pairs, after at most i looks where these are fewer than 2^i
pub record Says (k : Key) (m : List Pair) (l : Look) : Type 0 where
  pub number : l.number ≡ 0
  pub known : l.known ≡ cond (present k m) 1 0
  pub looked : (i : ℕ) → length m < 2 ^ i → l.looked ≤ i

-- on legal memory: of the pairs that stand in the namespace
abbrev pub SaysLegal : Looker → Type 0
SaysLegal f =
    (k : Key) (n : ℕ) (m : Memory) → legal m ≡ true → held n (namespaces_of m) ≡ true → no_key k ≡ false → Says k (pairs_at n m) (f k n m)

-- over any history: of the pairs that numbers and statuses tell
abbrev pub SaysHistory : Looker → Type 0
SaysHistory f =
    (a : Start) (xs : List Call) (k : Key) (n : ℕ) → (begun a).number ≡ 0 → held n (stored_after a xs) ≡ true → no_key k ≡ false
    → Says k (stored_in n a xs).pairs (f k n (memory_after a xs))

-- on any memory: the slots that the definition names are as many as are said, at most i where the half says fewer than 2^i keys, never more than
-- eleven; and no byte but theirs and the head's decides, where the lengths are the same
pub record GoesBy (f : Looker) : Type 0 where
  pub counts : (k : Key) (n : ℕ) (m : Memory) → (f k n m).looked ≡ length (search_for k n m).slots
  pub few : (k : Key) (n : ℕ) (m : Memory) (i : ℕ) → (run_for k n m).count < 2 ^ i → (f k n m).looked ≤ i
  pub eleven : (k : Key) (n : ℕ) (m : Memory) → (f k n m).looked ≤ 11
  pub same : (k : Key) (n : ℕ) (m o : Memory) → SameSeen (search_for k n m).slots m o → f k n m ≡ f k n o

-- ---- devices that are not the module

-- it says yes to every key
abbrev pub always : Looker
always k n m = let l = known k n m in record { number = l.number; known = 1; looked = l.looked }

-- it looks in the namespace j
abbrev pub elsewhere : ℕ → Looker
elsewhere j k n m = known k j m

-- it looks once more to see whether the slot that it came to has the key
abbrev pub late : Looker
late k n m = let l = known k n m in record { number = l.number; known = l.known; looked = suc l.looked }

-- it makes the pass that a command makes, and refuses memory that is not legal
abbrev pub checking : Looker
checking k n m = cond (legal m) (known k n m) (no_look 18)
