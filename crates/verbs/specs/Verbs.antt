-- What the verbs on two parts ask for, and what they do to the records. Assumes nothing.
use Rattle.std.specs.Prelude.{ℕ, ◌+◌, ◌*◌, ◌<◌, ◌≤◌, cond, List, ◌++◌, length, drop, nat_lt}
use Rattle.octets.specs.Octets.{part, put, zeros}
use Rattle.store.specs.Maps.{Pair}
use Rattle.store.specs.Records.{record_of, place, value_length}
use Rattle.store.specs.Slots.{raised, Standing}
use Rattle.verbs.specs.declared.slots.Spot.{Spot}

-- the record of p put in at slot i before n others, whose places are raised by its value's length
unfoldable pub record_in : ℕ → ℕ → Pair → ℕ → ℕ → List ℕ → List ℕ
record_in id at p i n s = raised (length p.value) (i + 1) n (put (32 * i) (record_of id at p ++ part (32 * i) (32 * n) s) s)

-- the record at slot i taken out before n others, to whose places d is added
unfoldable pub record_out : ℕ → ℕ → ℕ → List ℕ → List ℕ
record_out d i n s =
    let t = raised d (i + 1) n s in
    put (32 * i) (part (32 * i + 32) (32 * n) t ++ zeros 32) t

-- where the value of a slot begins or, behind the last slot, would
unfoldable pub place_for : List ℕ → Spot → ℕ
place_for s a = cond (nat_lt a.slot a.count) (place (drop (32 * a.slot) s)) a.total

-- the record of a pair with the value v can go in at a slot
pub record CanRecord (a : Spot) (v s : List ℕ) : Type 0 where
  pub slot : a.slot ≤ a.count
  pub free : 32 * a.count + 32 ≤ length s
  pub few : length s ≤ 32768
  pub value : length v ≤ 65536

-- a pair with the value v can go in before a slot
pub record CanInsert (a : Spot) (v s vs : List ℕ) : Type 0 where
  pub standing : Standing a.id a.count a.total s vs
  pub slot : a.slot ≤ a.count
  pub free : 32 * a.count + 32 ≤ length s
  pub fits : a.total + length v ≤ length vs

-- the pair at a slot can go out
pub record CanRemove (a : Spot) (s vs : List ℕ) : Type 0 where
  pub standing : Standing a.id a.count a.total s vs
  pub slot : a.slot < a.count

-- and then one with the value v in
pub record CanReplace (a : Spot) (v s vs : List ℕ) : Type 0 where
  pub removes : CanRemove a s vs
  pub fits : a.total + length v ≤ length vs + value_length (drop (32 * a.slot) s)
