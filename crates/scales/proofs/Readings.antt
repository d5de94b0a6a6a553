-- A Read gives what was last put, answers go by the table, only the named range changes, and what an entry does not say changes nothing
-- (request [8]). Assumes nothing.
use mathlib.Core.Path.{◌≡◌, refl, sym, ap, ◌∙◌}
use mathlib.Core.Bool.{Bool, true, false, cond, ◌&&◌, and-false}
use mathlib.Core.List.{List, [], ◌∷◌}
use Prim.Native.Nat.{ℕ, ◌+◌, ◌-◌, ◌/◌, ◌≤◌, ◌<◌}
use native.Mathlib.Nat.{sub-zero}
use native.Mathlib.Omega.{arith}
use lib.Dec.{leb, ltb}
use lib.ListN.{length, take, drop, get_or, length-take}
use lib.Seq.{length-take-le, get_or-take, drop_at}
use borrow.Author.Tests.{leb-true, ltb-true, ltb-false}
use Rattle.octets.specs.Octets.{part, put, number, bytes}
use Rattle.octets.specs.Tests.{first_of}
use Rattle.octets.proofs.TestLaws.{both, contrary}
use Rattle.octets.proofs.PartLaws.{length_put, length_part, get_d_part, put_front, part_inside}
use Rattle.wire.specs.Completion.{posted}
use Rattle.ranges.specs.declared.requests.Request.{Request}
use Rattle.ranges.specs.Request.{read_request, statuses}
use Rattle.scratch.specs.Calls.{Task, reading, writing, filling, lacks, over, effect, slices, Ended, memory_call}
use Rattle.scratch.proofs.CallLaws.{Fits}
use Rattle.scratch.proofs.MoveLaws.{length_over}
use Rattle.scales.specs.Histories.{Call, asked, ours, memory_after, told, log, done, writes, given, covers, last_put}
use Rattle.scales.specs.Readings.{Reads, ReadsBack, ByTable, OnlyRange, Alike, Unread}
use Rattle.scales.proofs.ByteLaws.{within, put_inside, put_byte, over_byte}
use Rattle.scales.proofs.Ways.{effect_status, numbered, refused, passed, way, done_numbered, done_refused, done_passed}

cond_same : (t : Bool) {a b : ℕ} (x : ℕ) → (t ≡ true → a ≡ b) → cond t a x ≡ cond t b x
cond_same true x h = h refl
cond_same false x h = refl

inside : (at n i : ℕ) → within at n i ≡ true → (at ≤ i) × (i < at + n)
inside at n i e =
    let b = both (leb at i) (ltb i (at + n)) e in
    (leb-true at i b.0, ltb-true i (at + n) b.1)

-- ---- a command that is let pass

module _ (q : Request) (b m : List ℕ) where
  effect_size : (t : Task) → Fits t q b m → length (effect t q b m).memory ≡ length m
  effect_size reading f = refl
  effect_size writing f = length_put q.start (take q.len b) m (omega (arith, f.lies, length-take q.len b))
  effect_size (filling w) f =
      length_put q.start (over (q.len / 4) (bytes 4 w)) m (omega (arith, f.lies, f.words, length_over (q.len / 4) (bytes 4 w)))

  effect_byte : (t : Task) → Fits t q b m → (i : ℕ)
      → get_or (effect t q b m).memory i 0 ≡ cond (writes t && within q.start q.len i) (given t b (i - q.start)) (get_or m i 0)
  effect_byte reading f i = refl
  effect_byte writing f i =
      let l : length (take q.len b) ≡ q.len = length-take-le q.len b (ltb-false _ _ f.enough) in
      put_byte q.start (take q.len b) m (omega (arith, f.lies)) i q.len l
      ∙ cond_same (within q.start q.len i) _ (λ e. get_or-take q.len b (i - q.start) 0 (omega (arith, inside q.start q.len i e)))
  effect_byte (filling w) f i =
      let l : length (over (q.len / 4) (bytes 4 w)) ≡ q.len = length_over (q.len / 4) (bytes 4 w) ∙ omega (arith, f.words) in
      put_byte q.start (over (q.len / 4) (bytes 4 w)) m (omega (arith, f.lies)) i q.len l
      ∙ cond_same (within q.start q.len i) _
      (λ e. over_byte (q.len / 4) (i - q.start) (bytes 4 w) refl (omega (arith, f.words, inside q.start q.len i e)))

-- ---- a call

module _ (c : Call) (m : List ℕ) where
  size_kept : length (ours c m).after.memory ≡ length m
  size_kept = elim (way c m) [
    | numbered h e ↦ rw e
    | refused k h e ↦ rw e
    | passed k h f e ↦ rw e (effect_size (asked c) c.buffer m c.task f)
  ]

  call_byte : (i : ℕ)
      → get_or (ours c m).after.memory i 0
      ≡ cond (done (told c (ours c m)) && covers i c) (given c.task c.buffer (i - (asked c).start)) (get_or m i 0)
  call_byte i = elim (way c m) [
    | numbered h e ↦ rw (done_numbered c m h e, e)
    | refused k h e ↦ rw (done_refused c m h e, e)
    | passed k h f e ↦ rw (done_passed c m e, e) (effect_byte (asked c) c.buffer m c.task f i)
  ]

  kept_buffer : (t : Task) → (t ≡ reading → ⊥) → (effect t (asked c) c.buffer m).buffer ≡ c.buffer
  kept_buffer reading h = absurd (h refl)
  kept_buffer writing h = refl
  kept_buffer (filling w) h = refl

-- ---- calls one after the other

size_after : (m : List ℕ) (cs : List Call) → length (memory_after ours m cs) ≡ length m
size_after m [] = refl
size_after m (c ∷ cs) = size_after (ours c m).after.memory cs ∙ size_kept c m

byte_after : (m : List ℕ) (cs : List Call) (i : ℕ) → get_or (memory_after ours m cs) i 0 ≡ last_put i (get_or m i 0) (log ours m cs)
byte_after m [] i = refl
byte_after m (c ∷ cs) i =
    let n = (ours c m).after.memory in
    byte_after n cs i ∙ ap (λ (x : ℕ). last_put i x (log ours n cs)) (call_byte c m i)

-- ---- the promises

-- a Read that is let pass, behind the calls cs
module _ (m : List ℕ) (cs : List Call) (c : Call) where
  abbrev n : List ℕ
  n = memory_after ours m cs

  abbrev taken : List ℕ
  taken = part (asked c).start (asked c).len n

  read : Fits reading (asked c) c.buffer n → (ours c n).after.buffer ≡ put 0 taken c.buffer → Reads ours m cs c
  read f e =
      let l : length taken ≡ (asked c).len = length_part (asked c).start (asked c).len n f.lies in
      let room : (asked c).len ≤ length c.buffer = ltb-false _ _ f.enough in
      let front : (k : ℕ) → k < (asked c).len → get_or (put 0 taken c.buffer) k 0 ≡ get_or taken k 0 =
      λ k h. rw sub-zero at (put_inside 0 taken c.buffer (omega arith) k (omega arith) (omega arith)) in
      record {
        size = ap length e ∙ length_put 0 taken c.buffer (omega arith);
        bytes = λ k h. rw e (front k h ∙ get_d_part (asked c).start (asked c).len k n h ∙ byte_after m cs ((asked c).start + k));
        rest = ap (drop (asked c).len) (e ∙ put_front taken c.buffer) ∙ drop_at taken _ (asked c).len l ∙ ap (λ (k : ℕ). drop k c.buffer) l;
      }

pub reads_back : ReadsBack ours
reads_back m cs c r d = elim (way c (n m cs c)) [
  | numbered h e ↦ absurd (contrary (sym (done_numbered c (n m cs c) h e) ∙ d))
  | refused k h e ↦ absurd (contrary (sym (done_refused c (n m cs c) h e) ∙ d))
  | passed k h f e ↦
      read m cs c (rw r at f) (ap (λ (o : Ended). o.after.buffer) e ∙ ap (λ (t : Task). (effect t (asked c) c.buffer (n m cs c)).buffer) r)
]

pub by_table : ByTable ours
unfolding memory_call
by_table m cs c = record { number = rw (size_after m cs); status = status_is }
  where
    status_is : (ours c (memory_after ours m cs)).number ≡ 0
        → (ours c (memory_after ours m cs)).after.completion
        ≡ posted c.post (asked c).cid (first_of (statuses (asked c) c.id (length m) (lacks c.task c.buffer (asked c).len))) 0
    status_is z = elim (way c (memory_after ours m cs)) [
      | numbered h e ↦ absurd (h z)
      | refused k h e ↦ ap (λ (o : Ended). o.after.completion) e ∙ rw (size_after m cs)
      | passed k h f e ↦
          let n = memory_after ours m cs in
          let z = effect_status c.task (asked c) c.buffer n ∙ sym h in
          ap (λ (o : Ended). o.after.completion) e ∙ ap (λ (st : ℕ). posted c.post (asked c).cid st 0) z ∙ rw (size_after m cs)
    ]

pub only_range : OnlyRange ours
only_range c m =
    record {
      size = size_kept c m;
      outside = λ i h. call_byte c m i ∙ rw (h, and-false);
      buffer = buffer_kept;
      numbered = all_kept;
      refused = both_kept;
    }
  where
    buffer_kept : (c.task ≡ reading → ⊥) → (ours c m).after.buffer ≡ c.buffer
    buffer_kept t = elim (way c m) [
      | numbered h e ↦ rw e
      | refused k h e ↦ rw e
      | passed k h f e ↦ rw e (kept_buffer c m c.task t)
    ]

    all_kept : ((ours c m).number ≡ 0 → ⊥) → (ours c m).after ≡ slices c.completion c.buffer m
    all_kept z = elim (way c m) [
      | numbered h e ↦ rw e
      | refused k h e ↦ absurd (z (ap (λ (o : Ended). o.number) e))
      | passed k h f e ↦ absurd (z (ap (λ (o : Ended). o.number) e))
    ]

    both_kept : done (told c (ours c m)) ≡ false → ((ours c m).after.buffer ≡ c.buffer) × ((ours c m).after.memory ≡ m)
    both_kept z = elim (way c m) [
      | numbered h e ↦ (rw e, rw e)
      | refused k h e ↦ (rw e, rw e)
      | passed k h f e ↦ absurd (contrary (sym z ∙ done_passed c m e))
    ]

-- the part of an entry that a longer part shows
shown : (at n from k : ℕ) (e f : List ℕ) → part at n e ≡ part at n f → from + k ≤ n → number (part (at + from) k e) ≡ number (part (at + from) k f)
shown at n from k e f p h = ap number (sym (part_inside at n from k e h) ∙ ap (part from k) p ∙ part_inside at n from k f h)

same_request : {e f : List ℕ} → Alike e f → read_request e ≡ read_request f
unfolding read_request
same_request {e} {f} a =
    rw (shown 2 6 0 2 e f a.front (omega arith), shown 2 6 2 4 e f a.front (omega arith))
    (rw (shown 40 12 0 8 e f a.range (omega arith), shown 40 12 8 4 e f a.range (omega arith)))

pub unread : Unread ours
unfolding memory_call
unread c f m a = rw (same_request a, a.size)
