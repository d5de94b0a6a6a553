-- What a look goes by, on any memory: the numbers in the head, whether the slices are long enough for them, and the records at the slots of its
-- search, which are among those that the head asks for. Assumes nothing.
use mathlib.Core.Path.{◌≡◌, sym, ap, ap₂, ◌∙◌}
use mathlib.Core.List.{List}
use Prim.Native.Nat.{ℕ, ◌+◌, ◌^◌, ◌≤◌, ◌<◌}
use native.Mathlib.Omega.{arith}
use lib.Dec.{eqb}
use lib.ListN.{length, take}
use borrow.Author.Tests.{eqb-true, eqb-false}
use Rattle.octets.specs.Octets.{part}
use Rattle.octets.proofs.TestLaws.{known as split, holds, fails}
use Rattle.octets.proofs.PartLaws.{part_take}
use Rattle.keys.specs.Keys.{Key}
use Rattle.memory.specs.Memory.{Memory, label_in, label_at}
use Rattle.quick.specs.Search.{Search, search}
use Rattle.quick.specs.Heads.{Run, slots_by, run_of}
use Rattle.quick.specs.Known.{record_at, compare, no_key, run_for, search_for, look_of, known}
use Rattle.quick.specs.Seen.{Each, SameSeen}
use Rattle.quick.proofs.SearchLaws.{search_few, search_same, search_lies, each_map, Among}
use Rattle.quick.proofs.HeadLaws.{run_refused, run_inside}

-- ---- on any memory

-- the slots that the two halves ask for
abbrev pub slots_asked : Memory → ℕ
slots_asked m = slots_by (label_at 0 m.directory) + slots_by (label_at 32 m.directory)

record Few (n : ℕ) (r : Run) : Type 0 where
  count : r.count ≤ 1024
  slots : r.first + r.count ≤ n

run_few : (id : ℕ) (m : Memory) → Few (slots_asked m) (run_of id m)
run_few id m =
    elim (split (eqb (run_of id m).number 0)) [
      | holds e ↦
          let i = run_inside id m (eqb-true _ 0 e) in
          record { count = i.count; slots = i.slots }
      | fails e ↦ rw (run_refused id m (eqb-false _ 0 e)) (record { count = omega arith; slots = omega arith })
    ]

module _ (k : Key) (id : ℕ) (m : Memory) where
  for_few : Few (slots_asked m) (run_for k id m)
  unfolding run_for
  for_few = elim (split (no_key k)) [ holds e ↦ rw e (record { count = omega arith; slots = omega arith }) | fails e ↦ rw e (run_few id m) ]

  -- fewer than 2^i keys take at most i looks
  pub looked_few : (i : ℕ) → (run_for k id m).count < 2 ^ i → (known k id m).looked ≤ i
  unfolding known
  looked_few i h = search_few (run_for k id m).count _ (run_for k id m).first (run_for k id m).count i h

  pub looked_eleven : (known k id m).looked ≤ 11
  looked_eleven = looked_few 11 (omega (arith, for_few.count))

  pub seen_lies : Each (λ j. j < slots_asked m) (search_for k id m).slots
  seen_lies =
      let r = run_for k id m in
      let below : (j : ℕ) → Among r.first r.count j → j < slots_asked m = λ j a. omega (arith, a.to, for_few.slots) in
      each_map (search_for k id m).slots below (search_lies r.count _ r.first r.count)

-- ---- on two

module _ (k : Key) (id : ℕ) (m n : Memory) where
  same_for : run_of id m ≡ run_of id n → run_for k id m ≡ run_for k id n
  unfolding run_for
  same_for e = rw e

  pub seen_known : run_of id m ≡ run_of id n → Each (λ j. record_at j m.directory ≡ record_at j n.directory) (search_for k id m).slots
      → (search_for k id m ≡ search_for k id n) × (known k id m ≡ known k id n)
  unfolding known
  seen_known e s =
      let r = run_for k id m in
      let js = (search_for k id m).slots in
      let c : Each (λ j. compare k (record_at j m.directory) ≡ compare k (record_at j n.directory)) js = each_map js (λ j. ap (compare k)) s in
      let f = same_for e in
      let g : search_for k id m ≡ search_for k id n =
      search_same r.count _ (λ j. compare k (record_at j n.directory)) r.first r.count c
      ∙ ap (λ (x : Run). search x.count (λ j. compare k (record_at j n.directory)) x.first x.count) f in
      (g, ap₂ (λ (x : Run) (y : Search). look_of x.number y) f g)

-- the numbers in a half stand in the head
label_same : (half : ℕ) (d e : List ℕ) → half + 32 ≤ 64 → take 64 d ≡ take 64 e → label_at half d ≡ label_at half e
label_same half d e l h = ap label_in (sym (part_take half 32 64 d l) ∙ ap (part half 32) h ∙ part_take half 32 64 e l)

run_same : (id : ℕ) (m n : Memory) → length m.directory ≡ length n.directory → length m.values ≡ length n.values
    → take 64 m.directory ≡ take 64 n.directory → run_of id m ≡ run_of id n
unfolding run_of
run_same id m n d v h = rw (d, v, label_same 0 m.directory n.directory (omega arith) h, label_same 32 m.directory n.directory (omega arith) h)

pub same_seen : (k : Key) (id : ℕ) (m n : Memory) → SameSeen (search_for k id m).slots m n
    → (search_for k id m ≡ search_for k id n) × (known k id m ≡ known k id n)
same_seen k id m n s = seen_known k id m n (run_same id m n s.directory s.values s.head) s.records
