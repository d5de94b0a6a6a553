use Rattle.std.proofs.Common.{◌≡◌, ℕ, List, length, true, take, drop, ◌∙◌, arith, rules, le-ltb}
use Rattle.std.proofs.lemmas.Fn.{always_returns_same}
use Rattle.octets.specs.Octets.{part, all_zero}
use Rattle.keys.specs.declared.orders.Wide.{Wide}
use Rattle.keys.specs.Keys.{wide_of, Padded}
use Rattle.octets.proofs.NumberLaws.{Bytes, array_bytes}
use Rattle.octets.proofs.PartLaws.{part_whole}
use Rattle.keys.proofs.WideLaws.{Widened, widened_part, wide_less, wide_equal}
use Rattle.store.proofs.finds.Rows.{lower, divided, held, past}
use Rattle.store.proofs.finds.find.Goals as goal

-- what is looked for is the key that was given
wanted_given : (n : ℕ) (k : List ℕ) {m : ℕ} {w : Wide} → m ≡ n → w ≡ wide_of (part 0 16 k) m → Bytes k → length k ≡ 16 → Padded n k → Widened w (take n k)
unfolding part
wanted_given n k d e b l p =
    let z : all_zero (drop n (part 0 16 k)) ≡ true = rw (part_whole 16 k l) p.padded in
    rw (e, d) (widened_part 0 n k b (omega arith) p.short z)

pub returns-then-slot-count : goal.returns-then-slot-count
returns-then-slot-count c =
    let bytes = array_bytes _ c.well_formed.1.1.0.0 c.well_formed.1.1.0.1.1 in
    let key = wanted_given _ _ c.from.ensures c.widen-wanted.ensures bytes c.well_formed.1.1.0.1.0.1 c.requires.1 in
    let fits : Bytes c.args.records.now = λ i l. (c.type_inv.records i).fits in
    let point = c.partition_point-slot.ensures.partitioned (lower c.widen-wanted.result) (always_returns_same _ _ _ (λ a t q k. search (rules, wide_less))) in
    let slot = divided c.requires.0 fits key c.as_chunks.ensures.front c.as_chunks.ensures.front_len _ c.partition_point-slot.ensures.bound point in
    let equal = c.eq.ensures ∙ wide_equal c.read.result.key c.widen-wanted.result in
    rw (slot, held c.requires.0 fits key slot (omega arith) (λ i. (c.read.ensures i).key) equal)

pub returns-else-slot-count : goal.returns-else-slot-count
returns-else-slot-count c =
    let bytes = array_bytes _ c.well_formed.1.1.0.0 c.well_formed.1.1.0.1.1 in
    let key = wanted_given _ _ c.from.ensures c.widen-wanted.ensures bytes c.well_formed.1.1.0.1.0.1 c.requires.1 in
    let fits : Bytes c.args.records.now = λ i l. (c.type_inv.records i).fits in
    let point = c.partition_point-slot.ensures.partitioned (lower c.widen-wanted.result) (always_returns_same _ _ _ (λ a t q k. search (rules, wide_less))) in
    let slot = divided c.requires.0 fits key c.as_chunks.ensures.front c.as_chunks.ensures.front_len _ c.partition_point-slot.ensures.bound point in
    rw (le-ltb _ _ c.if-slot-count.false, slot, past c.requires.0 fits key slot (omega arith))
