-- At most one outcome satisfies a contract: the law, then the public functions, those that are exported to C first; those of `refusals`,
-- `octets`, `keys`, `wire`, `sheets`, `ranges`, `scratch`, `table`, `store`, `legal` and `verbs` are in `UniqueBelow.antt`. Assumes nothing.
use mathlib.Core.Path.{◌≡◌, refl, sym, ap, ◌∙◌}
use mathlib.Core.List.{List}
use Prim.Native.Nat.{ℕ, ◌≤◌}
use Rattle.keys.specs.Keys.{Key}
use Rattle.memory.specs.Memory.{Memory, memory}
use Rattle.memory.proofs.labels as labels
use Rattle.memory.proofs.permits as permits
use Rattle.checking.proofs.checks as checks
use Rattle.maps.proofs.describes as describes
use Rattle.maps.proofs.looks as looks
use Rattle.changes.proofs.pairs as pairs
use Rattle.rules.proofs.steps as steps
use Rattle.formatting.specs.declared.measures.Half.{Half}
use Rattle.formatting.specs.Formatting.{Formatted, formatted, format}
use Rattle.formatting.proofs.measures as measures
use Rattle.formatting.proofs.formats as formats
use Rattle.wire.specs.Completion.{Post}
use Rattle.commands.specs.Command.{Lent, lent, Response, response, Outcome, outcome, command}
use Rattle.commands.proofs.commands as commands
use Rattle.room.proofs.polls as polls
use Rattle.identify.specs.Identify.{Identified, identified, identify}
use Rattle.identify.proofs.creations as creations
use Rattle.identify.proofs.pages as identifyPages
use Rattle.scratch.specs.Calls.{Ended}
use Rattle.quick.proofs.heads as heads
use Rattle.quick.proofs.searches as searches
use Rattle.quick.proofs.tags as tags
use Rattle.quick.proofs.looks as quickLooks
use Rattle.host.specs.Build.{Built, built, build}
use Rattle.module.proofs.kv_format as kv_format
use Rattle.module.proofs.kv_format_two as kv_format_two
use Rattle.module.proofs.kv_format_fields as kv_format_fields
use Rattle.module.proofs.kv_command as kv_command
use Rattle.module.proofs.kv_used as kv_used
use Rattle.module.proofs.kv_identify as kv_identify
use Rattle.module.proofs.kv_known as kv_known
use Rattle.module.proofs.kv_memory_read as kv_memory_read
use Rattle.module.proofs.kv_memory_write as kv_memory_write
use Rattle.module.proofs.kv_memory_fill as kv_memory_fill
use Rattle.host.proofs.builder as builder
use Rattle.host.proofs.replies as replies
use Rattle.host.proofs.pages as hostPages
use Rattle.host.proofs.identities as identities
use Rattle.outcomes.specs.Unique.{Determines}
use Rattle.outcomes.proofs.Refused.{result_one, done_one, run_one, coded, told_one}

-- a contract that is an equation, with all that the function yields on its left: b and c are that side for two outcomes, and what
-- can be read out of it is the same
pub one : {B X U : Type 0} {b c d : B} → b ≡ d → c ≡ d → (answer : B → X) (slices : B → U) → (answer b ≡ answer c) × (slices b ≡ slices c)
one p q answer slices = (ap answer (p ∙ sym q), ap slices (p ∙ sym q))

-- where nothing is lent by `&mut`, the left side is the answer
pub value : {X U : Type 0} {u : U} {x y d : X} → x ≡ d → y ≡ d → (x ≡ y) × (u ≡ u)
value {u = u} p q = one p q (λ z. z) (λ z. u)

-- where there is no answer, it is what the slices hold at exit
pub slice : {B U : Type 0} {s t d : B} → s ≡ d → t ≡ d → (slices : B → U) → (◌≡◌ {A = Unit {0}} tt tt) × (slices s ≡ slices t)
slice p q slices = one p q (λ z. tt) slices

-- ---- exported

pub kv_format_one : Determines kv_format.Kinds.ps kv_format.Kinds.r kv_format.Reads.Learnt
kv_format_one κs a x y u v p q = one p q (λ (o : Formatted). o.number) (λ o. (tt, (tt, (tt, (o.after.directory, (o.after.values, tt))))))

pub kv_format_two_one : Determines kv_format_two.Kinds.ps kv_format_two.Kinds.r kv_format_two.Reads.Learnt
kv_format_two_one κs a x y u v p q =
    one p q (λ (o : Formatted). o.number) (λ o. (tt, (tt, (tt, (tt, (tt, (tt, (o.after.directory, (o.after.values, tt)))))))))

pub kv_format_fields_one : Determines kv_format_fields.Kinds.ps kv_format_fields.Kinds.r kv_format_fields.Reads.Learnt
kv_format_fields_one κs a x y u v p q = one p q (λ (o : Formatted). o.number) (λ o. (tt, (tt, (o.after.directory, (o.after.values, tt)))))

pub kv_command_one : Determines kv_command.Kinds.ps kv_command.Kinds.r kv_command.Reads.Learnt
kv_command_one κs a x y u v p q =
    one p q (λ (o : Outcome). o.number)
    (λ o. let l = o.after in (tt, (l.completion, (l.buffer, (l.memory.directory, (l.memory.values, (tt, (tt, (tt, tt)))))))))

pub kv_used_one : Determines kv_used.Kinds.ps kv_used.Kinds.r kv_used.Reads.Learnt
kv_used_one κs a x y u v p q = value p q

pub kv_identify_one : Determines kv_identify.Kinds.ps kv_identify.Kinds.r kv_identify.Reads.Learnt
kv_identify_one κs a x y u v p q = one p q (λ (i : Identified). i.number) (λ i. (i.page, (tt, (tt, (tt, tt)))))

pub kv_known_one : Determines kv_known.Kinds.ps kv_known.Kinds.r kv_known.Reads.Learnt
kv_known_one κs a x y u v p q = value p q

pub kv_memory_read_one : Determines kv_memory_read.Kinds.ps kv_memory_read.Kinds.r kv_memory_read.Reads.Learnt
kv_memory_read_one κs a x y u v p q =
    one p q (λ (o : Ended). o.number) (λ o. (tt, (o.after.completion, (o.after.buffer, (tt, (tt, (tt, (tt, (tt, tt)))))))))

pub kv_memory_write_one : Determines kv_memory_write.Kinds.ps kv_memory_write.Kinds.r kv_memory_write.Reads.Learnt
kv_memory_write_one κs a x y u v p q =
    one p q (λ (o : Ended). o.number) (λ o. (tt, (o.after.completion, (tt, (o.after.memory, (tt, (tt, (tt, (tt, tt)))))))))

pub kv_memory_fill_one : Determines kv_memory_fill.Kinds.ps kv_memory_fill.Kinds.r kv_memory_fill.Reads.Learnt
kv_memory_fill_one κs a x y u v p q =
    one p q (λ (o : Ended). o.number) (λ o. (tt, (o.after.completion, (tt, (o.after.memory, (tt, (tt, (tt, (tt, tt)))))))))

pub kv_build_one : Determines builder.kv_build.Kinds.ps builder.kv_build.Kinds.r builder.kv_build.Reads.Learnt
kv_build_one κs a x y u v p q = one p q (λ (b : Built). b.number) (λ b. (b.entry, (tt, (tt, (tt, (tt, (tt, (tt, tt))))))))

pub kv_read_completion_one : Determines replies.kv_read_completion.Kinds.ps replies.kv_read_completion.Kinds.r replies.kv_read_completion.Reads.Learnt
kv_read_completion_one κs a x y u v p q = value p q

pub kv_read_page_one : Determines hostPages.kv_read_page.Kinds.ps hostPages.kv_read_page.Kinds.r hostPages.kv_read_page.Reads.Learnt
kv_read_page_one κs a x y u v p q = value p q

pub kv_read_identify_one : Determines identities.kv_read_identify.Kinds.ps identities.kv_read_identify.Kinds.r identities.kv_read_identify.Reads.Learnt
kv_read_identify_one κs a x y u v p q = value p q

-- ---- memory::labels, permits; checking::checks

pub read_label_one : Determines labels.read_label.Kinds.ps labels.read_label.Kinds.r labels.read_label.Reads.Learnt
read_label_one κs a x y u v p q = value p q

pub write_label_one : Determines labels.write_label.Kinds.ps labels.write_label.Kinds.r labels.write_label.Reads.Learnt
write_label_one κs a x y u v p q = slice p q (λ s. (s, (tt, tt)))

pub write_counts_one : Determines labels.write_counts.Kinds.ps labels.write_counts.Kinds.r labels.write_counts.Reads.Learnt
write_counts_one κs a x y u v p q = slice p q (λ s. (s, (tt, (tt, (tt, tt)))))

pub permit_one : Determines permits.permit.Kinds.ps permits.permit.Kinds.r permits.permit.Reads.Learnt
permit_one κs a x y u v p q = (result_one _ x y p.0 p.1 q.0 q.1, refl)

pub check_one : Determines checks.check.Kinds.ps checks.check.Kinds.r checks.check.Reads.Learnt
check_one κs a x y u v p q = value p q

-- ---- maps::describes, looks

pub describe_one : Determines describes.describe.Kinds.ps describes.describe.Kinds.r describes.describe.Reads.Learnt
describe_one κs a x y u v p q = (told_one x y (p ∙ sym q), refl)

pub look_up_one : Determines looks.look_up.Kinds.ps looks.look_up.Kinds.r looks.look_up.Reads.Learnt
look_up_one κs a x y u v p q = value p q

pub held_room_one : Determines looks.held_room.Kinds.ps looks.held_room.Kinds.r looks.held_room.Reads.Learnt
held_room_one κs a x y u v p q = value p q

pub hand_over_one : Determines looks.hand_over.Kinds.ps looks.hand_over.Kinds.r looks.hand_over.Reads.Learnt
hand_over_one κs a x y u v p q = (p.0 ∙ sym q.0, ap (λ (b : List ℕ). (tt, (tt, (tt, (tt, (b, (tt, tt))))))) (p.1 ∙ sym q.1))

pub list_keys_one : Determines looks.list_keys.Kinds.ps looks.list_keys.Kinds.r looks.list_keys.Reads.Learnt
list_keys_one κs a x y u v p q = slice p q (λ s. (tt, (tt, (tt, (s, (tt, tt))))))

-- ---- changes::pairs: both slices are one record

pub put_one : Determines pairs.put.Kinds.ps pairs.put.Kinds.r pairs.put.Reads.Learnt
put_one κs a x y u v p q = slice p q (λ m. (m.directory, (m.values, (tt, (tt, (tt, tt))))))

pub erase_one : Determines pairs.erase.Kinds.ps pairs.erase.Kinds.r pairs.erase.Reads.Learnt
erase_one κs a x y u v p q = slice p q (λ m. (m.directory, (m.values, (tt, (tt, tt)))))

-- ---- rules::steps

pub decide_early_one : Determines steps.decide_early.Kinds.ps steps.decide_early.Kinds.r steps.decide_early.Reads.Learnt
decide_early_one κs a x y u v p q = (coded x y (p ∙ sym q), refl)

pub decide_late_one : Determines steps.decide_late.Kinds.ps steps.decide_late.Kinds.r steps.decide_late.Reads.Learnt
decide_late_one κs a x y u v p q = (coded x y (p ∙ sym q), refl)

-- ---- formatting

pub measure_one : Determines measures.measure.Kinds.ps measures.measure.Kinds.r measures.measure.Reads.Learnt
measure_one κs a x y u v p q = (result_one _ x y p.0 p.1 q.0 q.1, refl)

pub label_one : Determines measures.Half.label.Kinds.ps measures.Half.label.Kinds.r measures.Half.label.Reads.Learnt
label_one κs a x y u v p q = value p q

pub format_one : Determines formats.format.Kinds.ps formats.format.Kinds.r formats.format.Reads.Learnt
format_one κs a x y u v p q =
    let e = one p q (λ (o : Formatted). o.number) (λ o. (tt, (tt, (o.after.directory, (o.after.values, tt))))) in
    (done_one x y e.0, e.1)

-- ---- commands

pub step_one : Determines commands.step.Kinds.ps commands.step.Kinds.r commands.step.Reads.Learnt
step_one κs a x y u v p q = slice p q (λ l. (tt, (l.completion, (l.buffer, (l.memory.directory, (l.memory.values, (tt, tt)))))))

pub command_one : Determines commands.command.Kinds.ps commands.command.Kinds.r commands.command.Reads.Learnt
command_one κs a x y u v p q =
    let e = one p q (λ (o : Outcome). o.number) (λ o. let l = o.after in (tt, (l.completion, (l.buffer, (l.memory.directory, (l.memory.values, (tt, tt))))))) in
    (done_one x y e.0, e.1)

-- ---- identify::creations, pages

pub create_one : Determines creations.create.Kinds.ps creations.create.Kinds.r creations.create.Reads.Learnt
create_one κs a x y u v p q =
    let e = one p q (λ (o : Formatted). o.number) (λ o. (tt, (tt, (o.after.directory, (o.after.values, tt))))) in
    (done_one x y e.0, e.1)

pub identify_one : Determines identifyPages.identify.Kinds.ps identifyPages.identify.Kinds.r identifyPages.identify.Reads.Learnt
identify_one κs a x y u v p q =
    let e = one p q (λ (i : Identified). i.number) (λ i. (i.page, (tt, (tt, (tt, tt))))) in
    (done_one x y e.0, e.1)

-- ---- room

pub used_room_one : Determines polls.used_room.Kinds.ps polls.used_room.Kinds.r polls.used_room.Reads.Learnt
used_room_one κs a x y u v p q = value p q

-- ---- quick::heads, searches, tags, looks

pub find_run_one : Determines heads.find_run.Kinds.ps heads.find_run.Kinds.r heads.find_run.Reads.Learnt
find_run_one κs a x y u v p q = (run_one x y p q, refl)

pub search_one : Determines searches.search.Kinds.ps searches.search.Kinds.r searches.search.Reads.Learnt
search_one κs a x y u v p q = value p q

pub widen_key_one : Determines tags.widen_key.Kinds.ps tags.widen_key.Kinds.r tags.widen_key.Reads.Learnt
widen_key_one κs a x y u v p q = value p q

pub known_one : Determines quickLooks.known.Kinds.ps quickLooks.known.Kinds.r quickLooks.known.Reads.Learnt
known_one κs a x y u v p q = value p q

-- ---- the structs that C is given, of what a `Result` has

pub room_refused_one : Determines polls.RoomFromRefusal.from.Kinds.ps polls.RoomFromRefusal.from.Kinds.r polls.RoomFromRefusal.from.Reads.Learnt
room_refused_one κs a x y u v p q = value p q

pub room_told_one : Determines polls.RoomFromDescription.from.Kinds.ps polls.RoomFromDescription.from.Kinds.r polls.RoomFromDescription.from.Reads.Learnt
room_told_one κs a x y u v p q = value p q

pub look_refused_one : Determines quickLooks.LookFromRefusal.from.Kinds.ps quickLooks.LookFromRefusal.from.Kinds.r quickLooks.LookFromRefusal.from.Reads.Learnt
look_refused_one κs a x y u v p q = value p q

pub page_key_refused_one : Determines hostPages.PageKeyFromRefusal.from.Kinds.ps hostPages.PageKeyFromRefusal.from.Kinds.r hostPages.PageKeyFromRefusal.from.Reads.Learnt
page_key_refused_one κs a x y u v p q = value p q

pub identity_refused_one : Determines identities.IdentityFromRefusal.from.Kinds.ps identities.IdentityFromRefusal.from.Kinds.r identities.IdentityFromRefusal.from.Reads.Learnt
identity_refused_one κs a x y u v p q = value p q

pub reply_refused_one : Determines replies.ReplyFromRefusal.from.Kinds.ps replies.ReplyFromRefusal.from.Kinds.r replies.ReplyFromRefusal.from.Reads.Learnt
reply_refused_one κs a x y u v p q = value p q

pub reply_told_one : Determines replies.ReplyFromCompletion.from.Kinds.ps replies.ReplyFromCompletion.from.Kinds.r replies.ReplyFromCompletion.from.Reads.Learnt
reply_told_one κs a x y u v p q = value p q

-- ---- the same with the equation written out and taken apart: the exported functions that write slices, so that each thing yielded
-- has its line

pub format_parts : (hs : List Half) (m : Memory) (r r' : ℕ) (d d' v v' : List ℕ)
    → formatted r (memory d v) ≡ format hs m → formatted r' (memory d' v') ≡ format hs m → (r ≡ r') × (d ≡ d') × (v ≡ v')
format_parts hs m r r' d d' v v' p q =
    let e = p ∙ sym q in
    (λ i. (e i).number, λ i. (e i).after.directory, λ i. (e i).after.values)

pub command_parts : (p : Post) (e : List ℕ) (l : Lent) (r r' : ℕ) (c c' b b' d d' v v' : List ℕ)
    → outcome r (lent c b d v) ≡ command p e l → outcome r' (lent c' b' d' v') ≡ command p e l
    → (r ≡ r') × (c ≡ c') × (b ≡ b') × (d ≡ d') × (v ≡ v')
command_parts p e l r r' c c' b b' d d' v v' x y =
    let f = x ∙ sym y in
    (λ i. (f i).number, λ i. (f i).after.completion, λ i. (f i).after.buffer, λ i. (f i).after.memory.directory, λ i. (f i).after.memory.values)

pub identify_parts : (id : ℕ) (s : List ℕ) (m : Memory) (r r' : ℕ) (p p' : List ℕ) → identified r p ≡ identify id s m → identified r' p' ≡ identify id s m
    → (r ≡ r') × (p ≡ p')
identify_parts id s m r r' p p' x y =
    let e = x ∙ sym y in
    (λ i. (e i).number, λ i. (e i).page)

pub build_parts : (e : List ℕ) (o cid nsid : ℕ) (k : Key) (dword10 options : ℕ) (r r' : ℕ) (s s' : List ℕ)
    → built r s ≡ build e o cid nsid k dword10 options → built r' s' ≡ build e o cid nsid k dword10 options → (r ≡ r') × (s ≡ s')
build_parts e o cid nsid k dword10 options r r' s s' p q =
    let x = p ∙ sym q in
    (λ i. (x i).number, λ i. (x i).entry)

-- ---- `pub fn`s of modules that are not `pub`, whose contracts no other crate can name

-- perform of commands::effects
pub response_one : (r : Response) (n n' : ℕ) (b b' d d' v v' : List ℕ) → response 0 n b d v ≡ r → response 0 n' b' d' v' ≡ r
    → (n ≡ n') × (b ≡ b') × (d ≡ d') × (v ≡ v')
response_one r n n' b b' d d' v v' p q =
    let e = p ∙ sym q in
    (λ i. (e i).dword0, λ i. (e i).buffer, λ i. (e i).memory.directory, λ i. (e i).memory.values)

-- write_blank of formatting::blanks
pub blank_one : (m : Memory) (d d' v v' : List ℕ) → memory d v ≡ m → memory d' v' ≡ m → (d ≡ d') × (v ≡ v')
blank_one m d d' v v' p q =
    let e = p ∙ sym q in
    (λ i. (e i).directory, λ i. (e i).values)

-- key_len of maps::lists, whose contract repeats a bound that its callers lean on
pub key_len_one : (n r r' : ℕ) → (r ≡ n) × (r ≤ 16) → (r' ≡ n) × (r' ≤ 16) → r ≡ r'
key_len_one n r r' p q = p.0 ∙ sym q.0
