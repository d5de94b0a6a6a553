-- Slots of the two parts: places raised, the pair at a slot, and what the verbs and the reading of a value find there. Assumes nothing.
use Rattle.std.specs.Prelude.{◌≡◌, ℕ, zero, suc, ◌+◌, ◌*◌, ◌%◌, ◌^◌, ◌≤◌, List, [], length, drop, slice_index_or}
use Rattle.octets.specs.Octets.{put, bytes}
use Rattle.store.specs.Maps.{Pair, pair, values}
use Rattle.store.specs.Records.{place, value_length, pairs_in}
use Rattle.store.specs.Parts.{Holds}

-- d is added, modulo 2^32, to the places of n records from slot j on
unfoldable pub raised : ℕ → ℕ → ℕ → List ℕ → List ℕ
raised d j zero s = s
raised d j (suc n) s = raised d (suc j) n (put (32 * j + 20) (bytes 4 ((place (drop (32 * j) s) + d) % 2 ^ 32)) s)

abbrev pub pair_at : List Pair → ℕ → Pair
pair_at m i = slice_index_or m i (pair [] [])

-- n pairs stand in s and vs, whose value lengths sum up to t
pub record Standing (id n t : ℕ) (s vs : List ℕ) : Type 0 where
  pub holds : Holds id (length s) (length vs) (pairs_in n s vs) s vs
  pub total : t ≡ length (values (pairs_in n s vs))

-- the slot at the front of s has its value in vs, and n bytes have room in the buffer b
pub record CanCopy (i n : ℕ) (s vs b : List ℕ) : Type 0 where
  pub lies : 32 * i + 32 ≤ length s
  pub value : place (drop (32 * i) s) + value_length (drop (32 * i) s) ≤ length vs
  pub room : n ≤ length b
