-- At most one outcome satisfies a contract: the public functions of `refusals`, `octets`, `keys`, `wire`, `sheets`, `ranges`, `scratch`, `table`,
-- `store`, `legal` and `verbs`. Assumes nothing.
use mathlib.Core.Path.{◌≡◌, refl, sym, ap, ◌∙◌}
use mathlib.Core.List.{List}
use denote.RattleType.{RattleType}
use denote.Param.Laws.{Laws}
use mir.Val.{Fits}
use mir.Syntax.{Dict, w64}
use Prim.Native.Nat.{ℕ}
use lib.Dec.{eqb}
use Rattle.std.specs.Prelude.{Bool, Result, Ok, Err}
use Rattle.octets.proofs.TestLaws.{contrary}
use Rattle.refusals.specs.declared.numbers.Refusal.{Refusal}
use Rattle.refusals.proofs.Counted.{number_counts, number_one}
use Rattle.sheets.specs.Page.{Entry, entry_in}
use Rattle.refusals.proofs.numbers as numbers
use Rattle.refusals.proofs.statuses as statuses
use Rattle.keys.proofs.orders as orders
use Rattle.keys.proofs.wide as wide
use Rattle.octets.proofs.runs as runs
use Rattle.octets.proofs.words as words
use Rattle.wire.proofs.completions as completions
use Rattle.wire.proofs.entries as entries
use Rattle.sheets.proofs.entries as readings
use Rattle.sheets.proofs.identify as identify
use Rattle.sheets.proofs.pages as pages
use Rattle.scratch.specs.Calls.{Task, Tried, tried, Slices, slices, Ended, ended, memory_call}
use Rattle.wire.specs.Completion.{Post}
use Rattle.ranges.proofs.requests as requests
use Rattle.outcomes.proofs.Refused.{done_one, coded, names_one}
use Rattle.scratch.proofs.calls as memoryCalls
use Rattle.store.specs.Maps.{Pair}
use Rattle.store.specs.Parts.{Holds}
use Rattle.table.proofs.formats as formats
use Rattle.legal.proofs.checks as checks
use Rattle.store.proofs.finds as finds
use Rattle.store.proofs.records as records
use Rattle.store.proofs.reads as reads
use Rattle.verbs.proofs.slots as slots
use Rattle.outcomes.specs.Unique.{Determines, Answers}
use Rattle.outcomes.proofs.Unique.{one, value, slice}

-- ---- refusals::numbers, statuses

pub refusal_number_one : Determines numbers.Refusal.number.Kinds.ps numbers.Refusal.number.Kinds.r numbers.Refusal.number.Reads.Learnt
refusal_number_one κs a x y u v p q = value p q

pub outcome_number_one : Determines numbers.number.Kinds.ps numbers.number.Kinds.r numbers.number.Reads.Learnt
outcome_number_one κs a x y u v p q = value p q

-- whatever stands in an `Ok`
pub code_one : (T : RattleType) (l : Laws T) (d : Dict)
    → Answers (statuses.code.Kinds.ps T l) (statuses.code.Kinds.r T l) (statuses.code.Reads.Learnt T l d)
code_one T l d κs a x y u v p q = p ∙ sym q

pub status_code_one : Determines statuses.Status.code.Kinds.ps statuses.Status.code.Kinds.r statuses.Status.code.Reads.Learnt
status_code_one κs a x y u v p q = value p q

-- ---- keys::orders, wide

pub wide_eq_one : Determines orders.WidePartialEq.eq.Kinds.ps orders.WidePartialEq.eq.Kinds.r orders.WidePartialEq.eq.Reads.Learnt
wide_eq_one κs a x y u v p q = value p q

pub wide_partial_cmp_one : Determines orders.WidePartialOrd.partial_cmp.Kinds.ps orders.WidePartialOrd.partial_cmp.Kinds.r
    orders.WidePartialOrd.partial_cmp.Reads.Learnt
wide_partial_cmp_one κs a x y u v p q = value p q

pub wide_cmp_one : Determines orders.WideOrd.cmp.Kinds.ps orders.WideOrd.cmp.Kinds.r orders.WideOrd.cmp.Reads.Learnt
wide_cmp_one κs a x y u v p q = value p q

pub compare_one : Determines orders.compare.Kinds.ps orders.compare.Kinds.r orders.compare.Reads.Learnt
compare_one κs a x y u v p q = value p q

pub read_big_one : Determines wide.read_big.Kinds.ps wide.read_big.Kinds.r wide.read_big.Reads.Learnt
read_big_one κs a x y u v p q = value p q

pub widen_one : Determines orders.widen.Kinds.ps orders.widen.Kinds.r orders.widen.Reads.Learnt
widen_one κs a x y u v p q = value p q

pub pad_one : Determines orders.ShortKey.pad.Kinds.ps orders.ShortKey.pad.Kinds.r orders.ShortKey.pad.Reads.Learnt
pad_one κs a x y u v p q = value p q

pub is_clear_one : Determines orders.Wide.is_clear.Kinds.ps orders.Wide.is_clear.Kinds.r orders.Wide.is_clear.Reads.Learnt
is_clear_one κs a x y u v p q = value p q

pub ends_clear_one : Determines orders.ends_clear.Kinds.ps orders.ends_clear.Kinds.r orders.ends_clear.Reads.Learnt
ends_clear_one κs a x y u v p q = value p q

-- ---- octets::runs

pub copy_at_one : Determines runs.copy_at.Kinds.ps runs.copy_at.Kinds.r runs.copy_at.Reads.Learnt
copy_at_one κs a x y u v p q = slice p q (λ s. (tt, (s, (tt, tt))))

pub slide_one : Determines runs.slide.Kinds.ps runs.slide.Kinds.r runs.slide.Reads.Learnt
slide_one κs a x y u v p q = slice p q (λ s. (s, (tt, (tt, (tt, tt)))))

pub clear_one : Determines runs.clear.Kinds.ps runs.clear.Kinds.r runs.clear.Reads.Learnt
clear_one κs a x y u v p q = slice p q (λ s. (s, (tt, (tt, tt))))

pub all_zero_one : Determines runs.all_zero.Kinds.ps runs.all_zero.Kinds.r runs.all_zero.Reads.Learnt
all_zero_one κs a x y u v p q = value p q

-- ---- octets::words

-- however many
pub bytes_at_one : (N : ℕ) (f : Fits w64 N)
    → Determines (words.bytes_at.Kinds.ps N f) (words.bytes_at.Kinds.r N f) (words.bytes_at.Reads.Learnt N f)
bytes_at_one N f κs a x y u v p q = value p q

pub read16_one : Determines words.read16.Kinds.ps words.read16.Kinds.r words.read16.Reads.Learnt
read16_one κs a x y u v p q = value p q

pub read32_one : Determines words.read32.Kinds.ps words.read32.Kinds.r words.read32.Reads.Learnt
read32_one κs a x y u v p q = value p q

pub read64_one : Determines words.read64.Kinds.ps words.read64.Kinds.r words.read64.Reads.Learnt
read64_one κs a x y u v p q = value p q

pub write8_one : Determines words.write8.Kinds.ps words.write8.Kinds.r words.write8.Reads.Learnt
write8_one κs a x y u v p q = slice p q (λ s. (s, (tt, (tt, tt))))

pub write16_one : Determines words.write16.Kinds.ps words.write16.Kinds.r words.write16.Reads.Learnt
write16_one κs a x y u v p q = slice p q (λ s. (s, (tt, (tt, tt))))

pub write32_one : Determines words.write32.Kinds.ps words.write32.Kinds.r words.write32.Reads.Learnt
write32_one κs a x y u v p q = slice p q (λ s. (s, (tt, (tt, tt))))

-- ---- wire::completions

pub write_completion_one : Determines completions.write_completion.Kinds.ps completions.write_completion.Kinds.r completions.write_completion.Reads.Learnt
write_completion_one κs a x y u v p q = slice p q (λ s. (s, (tt, tt)))

pub read_completion_one : Determines completions.read_completion.Kinds.ps completions.read_completion.Kinds.r completions.read_completion.Reads.Learnt
read_completion_one κs a x y u v p q = value p q

pub completion_one : Determines completions.Post.completion.Kinds.ps completions.Post.completion.Kinds.r completions.Post.completion.Reads.Learnt
completion_one κs a x y u v p q = value p q

-- ---- wire::entries

pub try_from_one : Determines entries.OpcodeTryFromU8.try_from.Kinds.ps entries.OpcodeTryFromU8.try_from.Kinds.r entries.OpcodeTryFromU8.try_from.Reads.Learnt
try_from_one κs a x y u v p q = (names_one _ x y p q, refl)

pub is_one : Determines entries.Command.is.Kinds.ps entries.Command.is.Kinds.r entries.Command.is.Reads.Learnt
is_one κs a x y u v p q = value p q

pub read_entry_one : Determines entries.read_entry.Kinds.ps entries.read_entry.Kinds.r entries.read_entry.Reads.Learnt
read_entry_one κs a x y u v p q = value p q

pub write_entry_one : Determines entries.write_entry.Kinds.ps entries.write_entry.Kinds.r entries.write_entry.Reads.Learnt
write_entry_one κs a x y u v p q = slice p q (λ s. (s, (tt, tt)))

-- ---- sheets::entries

-- whether nothing is refused; and what an entry says tells the result
abbrev none : Entry → Bool
none i = eqb i.number 0

entry_one : (x y : Result ℕ Refusal) → entry_in x ≡ entry_in y → x ≡ y
entry_one (Ok m) (Ok n) e = ap (λ (i : Entry). Ok i.len) e
entry_one (Ok m) (Err s) e = absurd (contrary (sym (number_counts s) ∙ sym (ap none e)))
entry_one (Err r) (Ok n) e = absurd (contrary (sym (number_counts r) ∙ ap none e))
entry_one (Err r) (Err s) e = ap Err (number_one r s (ap (λ (i : Entry). i.number) e))

pub read_page_entry_one : Determines readings.read_page_entry.Kinds.ps readings.read_page_entry.Kinds.r readings.read_page_entry.Reads.Learnt
read_page_entry_one κs a x y u v p q = (entry_one x y (p.0 ∙ sym q.0), refl)

-- ---- sheets::identify

pub index_in_one : Determines identify.index_in.Kinds.ps identify.index_in.Kinds.r identify.index_in.Reads.Learnt
index_in_one κs a x y u v p q = value p q

-- ---- sheets::pages

pub page_entry_size_one : Determines pages.page_entry_size.Kinds.ps pages.page_entry_size.Kinds.r pages.page_entry_size.Reads.Learnt
page_entry_size_one κs a x y u v p q = value p q

pub write_page_entry_one : Determines pages.Field.write_page_entry.Kinds.ps pages.Field.write_page_entry.Kinds.r pages.Field.write_page_entry.Reads.Learnt
write_page_entry_one κs a x y u v p q = slice p q (λ s. (tt, (s, tt)))

-- ---- ranges::requests, scratch::calls

pub read_request_one : Determines requests.Request.read.Kinds.ps requests.Request.read.Kinds.r requests.Request.read.Reads.Learnt
read_request_one κs a x y u v p q = value p q

pub check_length_one : Determines requests.check_length.Kinds.ps requests.check_length.Kinds.r requests.check_length.Reads.Learnt
check_length_one κs a x y u v p q = (done_one x y (p ∙ sym q), refl)

pub admit_one : Determines requests.Request.admit.Kinds.ps requests.Request.admit.Kinds.r requests.Request.admit.Reads.Learnt
admit_one κs a x y u v p q = (coded x y (p ∙ sym q), refl)

pub memory_read_one : Determines memoryCalls.memory_read.Kinds.ps memoryCalls.memory_read.Kinds.r memoryCalls.memory_read.Reads.Learnt
memory_read_one κs a x y u v p q =
    let e = one p q (λ (o : Ended). o.number) (λ o. (tt, (o.after.completion, (o.after.buffer, (tt, (tt, (tt, tt))))))) in
    (done_one x y e.0, e.1)

pub memory_write_one : Determines memoryCalls.memory_write.Kinds.ps memoryCalls.memory_write.Kinds.r memoryCalls.memory_write.Reads.Learnt
memory_write_one κs a x y u v p q =
    let e = one p q (λ (o : Ended). o.number) (λ o. (tt, (o.after.completion, (tt, (o.after.memory, (tt, (tt, tt))))))) in
    (done_one x y e.0, e.1)

pub memory_fill_one : Determines memoryCalls.memory_fill.Kinds.ps memoryCalls.memory_fill.Kinds.r memoryCalls.memory_fill.Reads.Learnt
memory_fill_one κs a x y u v p q =
    let e = one p q (λ (o : Ended). o.number) (λ o. (tt, (o.after.completion, (tt, (o.after.memory, (tt, (tt, tt))))))) in
    (done_one x y e.0, e.1)

pub memory_parts : (t : Task) (p : Post) (id : ℕ) (e : List ℕ) (s : Slices) (r r' : ℕ) (c c' b b' m m' : List ℕ)
    → ended r (slices c b m) ≡ memory_call t p id e s → ended r' (slices c' b' m') ≡ memory_call t p id e s
    → (r ≡ r') × (c ≡ c') × (b ≡ b') × (m ≡ m')
memory_parts t p id e s r r' c c' b b' m m' x y =
    let f = x ∙ sym y in
    (λ i. (f i).number, λ i. (f i).after.completion, λ i. (f i).after.buffer, λ i. (f i).after.memory)

-- read_out, write_in and fill_up of scratch::effects, which is not `pub`
pub tried_one : (a : Tried) (r r' : ℕ) (b b' m m' : List ℕ) → tried r b m ≡ a → tried r' b' m' ≡ a → (r ≡ r') × (b ≡ b') × (m ≡ m')
tried_one a r r' b b' m m' p q =
    let e = p ∙ sym q in
    (λ i. (e i).status, λ i. (e i).buffer, λ i. (e i).memory)

-- ---- table::formats; legal::checks; store::finds

pub format_at_one : Determines formats.format_at.Kinds.ps formats.format_at.Kinds.r formats.format_at.Reads.Learnt
format_at_one κs a x y u v p q = value p q

pub check_part_one : Determines checks.check_part.Kinds.ps checks.check_part.Kinds.r checks.check_part.Reads.Learnt
check_part_one κs a x y u v p q = value p q

pub find_one : Determines finds.find.Kinds.ps finds.find.Kinds.r finds.find.Reads.Learnt
find_one κs a x y u v p q = value p q

-- ---- store::records

pub record_read_one : Determines records.Record.read.Kinds.ps records.Record.read.Kinds.r records.Record.read.Reads.Learnt
record_read_one κs a x y u v p q = value p q

pub write_record_one : Determines records.write_record.Kinds.ps records.write_record.Kinds.r records.write_record.Reads.Learnt
write_record_one κs a x y u v p q = slice p q (λ s. (s, (tt, (tt, (tt, (tt, (tt, tt)))))))

pub raise_places_one : Determines records.raise_places.Kinds.ps records.raise_places.Kinds.r records.raise_places.Reads.Learnt
raise_places_one κs a x y u v p q = slice p q (λ s. (s, (tt, (tt, (tt, tt)))))

-- ---- store::reads

pub copy_value_one : Determines reads.copy_value.Kinds.ps reads.copy_value.Kinds.r reads.copy_value.Reads.Learnt
copy_value_one κs a x y u v p q = (p.0 ∙ sym q.0, ap (λ (b : List ℕ). (tt, (tt, (tt, (b, (tt, tt)))))) (p.1 ∙ sym q.1))

-- ---- verbs::slots: an equation for each of the two parts

parts : {U : Type 0} {id n l : ℕ} {m : List Pair} {s t vs ws : List ℕ} → Holds id n l m s vs → Holds id n l m t ws
    → (slices : List ℕ → List ℕ → U) → (◌≡◌ {A = Unit {0}} tt tt) × (slices s vs ≡ slices t ws)
parts p q slices = (refl, λ i. slices ((p.records ∙ sym q.records) i) ((p.values ∙ sym q.values) i))

pub insert_one : Determines slots.Spot.insert.Kinds.ps slots.Spot.insert.Kinds.r slots.Spot.insert.Reads.Learnt
insert_one κs a x y u v p q = parts p q (λ s vs. (tt, (s, (vs, (tt, (tt, tt))))))

pub remove_one : Determines slots.Spot.remove.Kinds.ps slots.Spot.remove.Kinds.r slots.Spot.remove.Reads.Learnt
remove_one κs a x y u v p q = parts p q (λ s vs. (tt, (s, (vs, tt))))

pub replace_one : Determines slots.Spot.replace.Kinds.ps slots.Spot.replace.Kinds.r slots.Spot.replace.Reads.Learnt
replace_one κs a x y u v p q = parts p q (λ s vs. (tt, (s, (vs, (tt, (tt, tt))))))
