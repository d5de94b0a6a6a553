-- The List page: a 4-byte count, then an entry for each key; and how a host reads it. Assumes nothing.
use Rattle.std.specs.Prelude.{cond, not, ◌||◌, List, [], ◌∷◌, ◌++◌, Result, Ok, Err, ℕ, zero, suc, ◌+◌, ◌-◌, ◌*◌, ◌/◌, leb, ltb, eqb, length, drop}
use Rattle.octets.specs.Octets.{part, number, bytes, zeros, all_zero}
use Rattle.keys.specs.Keys.{Key, below, from}
use Rattle.octets.specs.Tests.{Row, row, first_of}
use Rattle.refusals.specs.Refusals.{number_of}
use Rattle.refusals.specs.declared.numbers.Refusal.{Refusal}

-- the length of an entry whose key has n bytes: 2 + n, rounded up to a multiple of 4; and the zeros behind the key
abbrev pub entry_size : ℕ → ℕ
entry_size n = (n + 5) / 4 * 4

abbrev pub padding : ℕ → ℕ
padding n = entry_size n - (2 + n)

unfoldable pub page_entry : Key → List ℕ
page_entry k = bytes 2 (length k) ++ k ++ zeros (padding (length k))

abbrev pub entries : List Key → List ℕ
entries [] = []
entries (k ∷ ks) = page_entry k ++ entries ks

unfoldable pub page : List Key → List ℕ
page ks = bytes 4 (length ks) ++ entries ks

-- the first keys whose entries fit in r bytes, up to the first that does not
abbrev pub fits : ℕ → List Key → List Key
fits r [] = []
fits r (k ∷ ks) =
    let size = entry_size (length k) in
    cond (leb size r) (k ∷ fits (r - size) ks) []

-- the keys that a List from k shows, with n the host buffer size: those that fit behind the count
abbrev pub shown : ℕ → Key → List Key → List Key
shown n k ks = fits (n - 4) (from k ks)

-- ---- reading

-- numbers 8 to 11 of the first entry of s, in the order they are tried, the key before it being j
unfoldable pub entry_steps : Key → List ℕ → List Row
entry_steps j s =
    let n = number (part 0 2 s) in
    row (ltb (length s) 2) 8
    ∷ row (eqb n 0 || ltb 16 n) 9
    ∷ row (ltb (length s) (entry_size n)) 8
    ∷ row (not (all_zero (part (2 + n) (padding n) s))) 10
    ∷ row (not (below j (part 2 n s))) 11
    ∷ []

-- that number, and the length of the entry's key where it is 0
pub record Entry : Type 0 where
  pub number : ℕ
  pub len : ℕ

unfoldable pub first_entry : Key → List ℕ → Entry
first_entry j s =
    let first = first_of (entry_steps j s) in
    record { number = first; len = cond (eqb first 0) (number (part 0 2 s)) 0 }

-- what a function that reads an entry says of it
abbrev pub entry_in : Result ℕ Refusal → Entry
entry_in (Ok n) = record { number = 0; len = n }
entry_in (Err r) = record { number = number_of r; len = 0 }

-- what a page reads as: refused with a number, or its keys
pub data Reading : Type 0 where
  refused : ℕ → Reading
  keys : List Key → Reading

-- the keys js, and behind them those of a reading; one that is refused stays so
abbrev pub behind : List Key → Reading → Reading
behind js (refused n) = refused n
behind js (keys ks) = keys (js ++ ks)

-- n entries, the key before the first one being j
abbrev pub read_entries : ℕ → Key → List ℕ → Reading
read_entries zero j s = keys []
read_entries (suc n) j s =
    let e = first_entry j s in
    let k = part 2 e.len s in
    cond (eqb e.number 0) (behind (k ∷ []) (read_entries n k (drop (entry_size e.len) s))) (refused e.number)

-- the empty key is below every key that a page may hold
unfoldable pub read_page : List ℕ → Reading
read_page s = cond (ltb (length s) 4) (refused 7) (read_entries (number (part 0 4 s)) [] (drop 4 s))
