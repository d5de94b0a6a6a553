-- Whether a key is stored, by a search that is defined on any bytes (request [4]). Assumes nothing.
use Rattle.std.specs.Prelude.{Bool, cond, ◌||◌, Result, Ok, Err, List, ℕ, ◌+◌, ◌*◌, length, ltb, eqb}
use Rattle.refusals.specs.declared.numbers.Refusal.{Refusal}
use Rattle.refusals.specs.Refusals.{number_of}
use Rattle.octets.specs.Octets.{part, filled}
use Rattle.std.specs.declared.cmp.Ordering.{Ordering}
use Rattle.std.specs.Ordering.{nat_cmp, ordering_then}
use Rattle.keys.specs.Keys.{Key, order}
use Rattle.store.specs.Maps.{keys}
use Rattle.store.specs.Namespace.{Namespace}
use Rattle.store.specs.Records.{key_length}
use Rattle.memory.specs.Memory.{Memory}
use Rattle.quick.specs.declared.looks.Look.{Look}
use Rattle.quick.specs.Search.{Search, search, search_keys}
use Rattle.quick.specs.Heads.{Run, no_run, run_of}

-- the record at a slot, counted over the whole directory
unfoldable pub record_at : ℕ → List ℕ → List ℕ
record_at j d = part (64 + 32 * j) 32 d

-- a key beside the one in a record, whatever bytes stand there: the sixteen bytes decide, then the lengths
unfoldable pub compare : Key → List ℕ → Ordering
compare k r = ordering_then (order (filled 16 k) (part 0 16 r)) (nat_cmp (length k) (key_length r))

-- number 15
abbrev pub no_key : Key → Bool
no_key k = eqb (length k) 0 || ltb 16 (length k)

unfoldable pub run_for : Key → ℕ → Memory → Run
run_for k id m = cond (no_key k) (no_run 15) (run_of id m)

-- the search: a refusal has no slots to look at
abbrev pub search_for : Key → ℕ → Memory → Search
search_for k id m =
    let r = run_for k id m in
    search r.count (λ j. compare k (record_at j m.directory)) r.first r.count

abbrev pub look_of : ℕ → Search → Look
look_of n s = record { number = n; known = cond s.known 1 0; looked = length s.slots }

unfoldable pub known : Key → ℕ → Memory → Look
known k id m = look_of (run_for k id m).number (search_for k id m)

abbrev pub no_look : ℕ → Look
no_look n = record { number = n; known = 0; looked = 0 }

-- what code answers
abbrev pub look_in : Result Look Refusal → Look
look_in (Ok l) = l
look_in (Err r) = no_look (number_of r)

-- the same of a namespace and its map, with no memory
abbrev pub known_in : Key → ℕ → Namespace → Look
known_in k id s = cond (no_key k) (no_look 15) (cond (eqb id s.id) (look_of 0 (search_keys k (keys s.pairs))) (no_look 23))
