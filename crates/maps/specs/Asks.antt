-- What the calls on the map of a namespace ask for. Assumes nothing.
use Rattle.std.specs.Prelude.{◌≡◌, true, cond, List, ◌∷◌, ◌++◌, ℕ, ◌+◌, ◌*◌, ◌-◌, ◌≤◌, ◌<◌, length, take, drop}
use Rattle.keys.specs.Keys.{Key}
use Rattle.store.specs.declared.finds.Found.{Found}
use Rattle.store.specs.Maps.{keys, insert}
use Rattle.store.specs.Namespace.{Namespace, with_pairs, within}
use Rattle.store.specs.Records.{value_length}
use Rattle.store.specs.Finds.{rank, has_key, keys_in, found_key, KeysFit}
use Rattle.checking.specs.declared.checks.Checked.{Checked}
use Rattle.memory.specs.Namespaces.{at}
use Rattle.memory.specs.Memory.{memory, namespaces_of, pairs_at, legal}
use Rattle.checking.specs.Checks.{numbers_after}

-- f is where its key stands among ks. `found` makes one of any length, and the laws know no arrays, so that both lengths are said here
pub record Looked (f : Found) (ks : List Key) : Type 0 where
  pub held : f.held ≡ has_key (found_key f) ks
  pub slot : f.slot ≡ rank (found_key f) ks
  pub short : f.len ≤ 16
  pub sixteen : length f.key ≡ 16

-- the parts that k names, and the keys in them
abbrev pub records_at : Checked → List ℕ → List ℕ
records_at k d = take (k.end - k.start) (drop k.start d)

abbrev pub values_at : Checked → List ℕ → List ℕ
values_at k v = take (k.base + k.label.size - k.base) (drop k.base v)

abbrev pub keys_at : Checked → List ℕ → List Key
keys_at k d = keys_in k.label.count (records_at k d)

pub record CanLook (k : Checked) (d : List ℕ) : Type 0 where
  pub order : k.start ≤ k.end
  pub lies : k.end ≤ length d
  pub fit : KeysFit k.label.count (records_at k d)

-- this memory is legal, and k are the numbers of one of its namespaces
pub record Legal (k : Checked) (d v : List ℕ) : Type 0 where
  pub before : List Namespace
  pub space : Namespace
  pub behind : List Namespace
  pub all : namespaces_of (memory d v) ≡ before ++ space ∷ behind
  pub is : k ≡ numbers_after before space
  pub legal : legal (memory d v) ≡ true
  pub look : CanLook k d
  pub head : k.half + 32 ≤ length d
  pub fits : k.base + k.label.size ≤ length v

-- the keys from a slot on are to be shown in the first n bytes of b
pub record Listing (count slot n : ℕ) (s b : List ℕ) : Type 0 where
  pub keys : KeysFit count s
  pub begins : slot ≤ count
  pub counted : 4 ≤ n
  pub lent : n ≤ length b

-- the page is to stand in the first n bytes of b
pub record CanList (k : Checked) (f : Found) (n : ℕ) (d b : List ℕ) : Type 0 where
  pub look : CanLook k d
  pub looked : Looked f (keys_at k d)
  pub counted : 4 ≤ n
  pub lent : n ≤ length b

pub record CanErase (k : Checked) (f : Found) (d v : List ℕ) : Type 0 where
  pub legal : Legal k d v
  pub looked : Looked f (keys (pairs_at k.label.id (memory d v)))
  pub held : f.held ≡ true

-- the room of the pair that the key of f holds, as its slot says
abbrev pub room_at : Checked → Found → List ℕ → ℕ
room_at k f d = cond f.held (f.len + value_length (drop (32 * f.slot) (records_at k d))) 0

-- it can be read, and taken off the sum
pub record CanWeigh (k : Checked) (f : Found) (d : List ℕ) : Type 0 where
  pub look : CanLook k d
  pub slot : f.held ≡ true → f.slot < k.label.count
  pub sum : room_at k f d ≤ k.label.used

pub record CanHand (k : Checked) (f : Found) (n : ℕ) (d v b : List ℕ) : Type 0 where
  pub erases : CanErase k f d v
  pub lent : n ≤ length b

-- the map with the pair is within the limits
pub record CanPut (k : Checked) (f : Found) (x d v : List ℕ) : Type 0 where
  pub legal : Legal k d v
  pub looked : Looked f (keys (pairs_at k.label.id (memory d v)))
  pub within : within (with_pairs (at k.label.id (namespaces_of (memory d v))) (insert (found_key f) x (pairs_at k.label.id (memory d v)))) ≡ true
