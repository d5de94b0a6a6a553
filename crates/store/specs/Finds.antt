-- A key among the keys of the records. Assumes nothing.
use Rattle.std.specs.Prelude.{◌≡◌, ℕ, zero, suc, ◌*◌, ◌<◌, ◌≤◌, Bool, true, false, List, [], ◌∷◌, length, take, drop}
use Rattle.octets.specs.Octets.{part}
use Rattle.keys.specs.Keys.{Key, order, three, rising, Padded}
use Rattle.store.specs.declared.finds.Found.{Found}
use Rattle.store.specs.Records.{key_length}

-- how many keys from the front are below k
abbrev pub rank : Key → List Key → ℕ
rank k [] = 0
rank k (j ∷ ks) = three (order k j) 0 0 (suc (rank k ks))

abbrev pub has_key : Key → List Key → Bool
has_key k [] = false
has_key k (j ∷ ks) = three (order k j) false true (has_key k ks)

-- the keys of n records, asking nothing
abbrev pub keys_in : ℕ → List ℕ → List Key
keys_in zero s = []
keys_in (suc n) s = take (key_length s) s ∷ keys_in n (drop 32 s)

-- the key that was looked for, and where it stands among ks
abbrev pub found_key : Found → Key
found_key f = take f.len f.key

abbrev pub found : List ℕ → ℕ → List Key → Found
found key n ks = record { key = key; len = n; held = has_key (take n key) ks; slot = rank (take n key) ks }

-- so stands the key of the record at the front of s
abbrev pub KeyFits : List ℕ → Type 0
KeyFits s = Padded (key_length s) (part 0 16 s)

-- n records lie in s, whose keys fit and rise
pub record KeysFit (n : ℕ) (s : List ℕ) : Type 0 where
  pub lie : 32 * n ≤ length s
  pub few : n ≤ 1024
  pub fit : (j : ℕ) → j < n → KeyFits (drop (32 * j) s)
  pub rise : rising (keys_in n s) ≡ true
