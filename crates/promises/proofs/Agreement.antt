-- Host and module agree: what one side wrote the other reads as what was written. Assumes nothing.
use mathlib.Core.Path.{◌≡◌, refl, sym, ap, ◌∙◌}
use mathlib.Core.Bool.{Bool, true, false, cond, ◌||◌}
use mathlib.Core.List.{List, []}
use Prim.Native.Nat.{ℕ, ◌^◌, ◌≤◌, ◌<◌}
use native.Mathlib.Omega.{arith}
use lib.ListN.{length, replicate, get_or}
use lib.Dec.{eqb}
use borrow.Author.Tests.{eq-eqb, eqb-true}
use Rattle.octets.specs.Octets.{put}
use Rattle.keys.specs.Keys.{Key}
use Rattle.octets.proofs.TestLaws.{known, holds, fails}
use Rattle.octets.proofs.ZeroLaws.{length_filled}
use Rattle.wire.specs.declared.entries.Command.{Command}
use Rattle.wire.specs.Entry.{read_command, key_of, stale, is_store, is_retrieve, is_list}
use Rattle.sheets.specs.Page.{page, Reading, read_page, shown, keys as reading}
use Rattle.wire.proofs.EntryLaws.{length_command}
use Rattle.store.specs.Maps.{keys}
use Rattle.store.specs.Namespace.{Namespace, within}
use Rattle.memory.proofs.ImageLaws.{legal_holds}
use Rattle.memory.specs.Namespaces.{at, held}
use Rattle.memory.specs.Memory.{namespaces_of, legal, Memory}
use Rattle.memory.proofs.NameLaws.{at_id, at_within, at_none}
use Rattle.store.proofs.NamespaceLaws.{Within, within_true}
use Rattle.commands.specs.Answer.{dword_after, answer}
use Rattle.rules.specs.Steps.{status_of}
use Rattle.wire.specs.Completion.{Post}
use Rattle.commands.specs.Command.{Lent, respond, serve, Outcome, command}
use Rattle.rules.proofs.StepLaws.{status_byte, illegal}
use Rattle.commands.proofs.AnswerLaws.{answer_status, unrefused, value_small}
use Rattle.commands.proofs.CommandLaws.{command_0}
use Rattle.host.specs.Build as Build
use Rattle.host.specs.Reply.{numbered, reply}
use Rattle.host.specs.PageKey.{given, page_key}
use Rattle.host.proofs.BuildLaws.{build_0, build_key, build_clear, build_read}
use Rattle.host.proofs.ReplyLaws.{reply_back}
use Rattle.promises.specs.Agreement.{Ask, builds, Askable, Asked, Postable, posted}
use Rattle.promises.proofs.ShownLaws.{shown_read}

-- ---- an entry that was built

-- an opcode that is Store, Retrieve or List is neither Delete nor Exist
with_dword10 : (o n : ℕ) → (is_store o || is_retrieve o || is_list o) ≡ true → Build.amount_of o n ≡ n
with_dword10 o n e =
    elim (known (is_store o)) [
      | holds f ↦ rw (eqb-true o 0x01 f)
      | fails f ↦
          elim (known (is_retrieve o)) [ holds g ↦ rw (eqb-true o 0x02 g) | fails g ↦ rw (eqb-true o 0x06 (rw (f, g) at e)) ]
    ]

entry_length : (e : List ℕ) (a : Ask) → length e ≡ 64 → Askable a → length (builds e a).entry ≡ 64
unfolding Build.command
entry_length e a h w =
    rw (← build_0 a.opcode a.cid a.nsid a.key a.dword10 a.options e h w.few w.five)
    (length_command (Build.command a.opcode a.cid a.nsid a.key a.dword10 a.options) (length_filled 16 a.key w.few))

-- the module reads what the host asked for
pub entry_agrees : (e : List ℕ) (a : Ask) → length e ≡ 64 → Askable a → ((builds e a).number ≡ 0) × Asked a (read_command (builds e a).entry)
unfolding Build.command
entry_agrees e a h w =
    let n = ap (λ (b : Build.Built). b.number) (sym (build_0 a.opcode a.cid a.nsid a.key a.dword10 a.options e h w.few w.five)) in (
      n,
      rw (build_read a.opcode a.cid a.nsid a.key a.dword10 a.options e n w.cid_in w.nsid_in w.dword10_in)
          (record {
            opcode = refl;
            fused = refl;
            cid = refl;
            nsid = refl;
            len = refl;
            key = build_key a.opcode a.cid a.nsid a.key a.dword10 a.options e;
            padded = refl;
            options = λ o. rw o;
            no_options = λ o. rw o;
            dword10 = with_dword10 a.opcode a.dword10;
            no_dword10 = λ o. rw o;
          }),
    )

-- and step e lets it pass: whatever the builder was asked for, zeros stand behind the key
pub never_stale : (e : List ℕ) (a : Ask) → (builds e a).number ≡ 0 → stale (read_command (builds e a).entry) ≡ false
never_stale e a n = build_clear a.opcode a.cid a.nsid a.key a.dword10 a.options e n

-- an instance: a List without a key, built over bytes that are not zero
abbrev keyless : Ask
keyless = record { opcode = 0x06; cid = 1; nsid = 1; key = []; dword10 = 64; options = 0 }

cleared : stale (read_command (builds (replicate 64 0xff) keyless).entry) ≡ false
unfolding Build.build
cleared = never_stale (replicate 64 0xff) keyless refl

-- ---- a completion that was posted

dword_within : (s : Namespace) (c : Command) → Within s → dword_after c s.pairs ≤ 4096
dword_within s c w = elim (known (is_retrieve c.opcode)) [ holds e ↦ rw e (value_small s w (key_of c)) | fails e ↦ rw e (omega arith) ]

-- of the namespace that n names, and of none where there is none
dword_small : (n : ℕ) (m : Memory) (c : Command) → legal m ≡ true → dword_after c (at n (namespaces_of m)).pairs ≤ 4096
dword_small n m c e =
    let ss = namespaces_of m in
    elim (known (held n ss)) [
      | holds q ↦ dword_within (at n ss) c (at_within n ss (legal_holds m e).within.each q)
      | fails q ↦ rw (at_none n ss q) (none (is_retrieve c.opcode))
    ]
  where
    none : (z : Bool) → cond z 0 0 ≤ 4096
    none true = omega arith
    none false = omega arith

-- Dword 0 is at most the longest value that a format allows, whatever stands in the memory
pub respond_dword0 : (c : Command) (b : List ℕ) (m : Memory) → (respond c b m).dword0 ≤ 4096
unfolding respond answer
respond_dword0 c b m =
    let s = at c.nsid (namespaces_of m) in
    let st = status_of true s c (length b) in
    elim (known (legal m)) [
      | holds e ↦ elim (known (eqb st 0)) [ holds z ↦ rw (e, z) (dword_small c.nsid m c e) | fails z ↦ rw (e, z) (omega arith) ]
      | fails e ↦ rw (e, illegal s c (length b)) (omega arith)
    ]

respond_status : (c : Command) (b : List ℕ) (m : Memory) → (respond c b m).status < 256
unfolding respond
respond_status c b m =
    let s = at c.nsid (namespaces_of m) in
    rw (answer_status (legal m) s c b) (status_byte (legal m) s c (length b))

-- the host reads what the module answered
pub reply_agrees : (p : Post) (c : Command) (l : Lent) → Postable p → c.cid < 2 ^ 16
    → reply (serve p c l).completion ≡ numbered 0 (posted p c.cid (respond c l.buffer l.memory))
unfolding serve
reply_agrees p c l w i =
    let r = respond c l.buffer l.memory in
    let d = respond_dword0 c l.buffer l.memory in
    let t = respond_status c l.buffer l.memory in
    reply_back (posted p c.cid r)
    (record {
      dword0_in = omega arith;
      head_in = w.head_in;
      queue_in = w.queue_in;
      cid_in = i;
      phase_in_law = omega arith;
      status_in_law = t;
      kind_in_law = omega arith;
    })

-- from the host to the module and back: the entry built, the command carried out, the completion read
pub call_agrees : (e : List ℕ) (a : Ask) (p : Post) (l : Lent) → length e ≡ 64 → length l.completion ≡ 16 → Askable a → Postable p
    → ((command p (builds e a).entry l).number ≡ 0)
    × (reply (command p (builds e a).entry l).after.completion
    ≡ numbered 0 (posted p a.cid (respond (read_command (builds e a).entry) l.buffer l.memory)))
call_agrees e a p l h g w v =
    let x = (builds e a).entry in
    let q = entry_agrees e a h w in
    let i : (read_command x).cid < 2 ^ 16 = rw q.1.cid w.cid_in in
    let n = command_0 p x l (eq-eqb (length x) 64 (entry_length e a h w)) (eq-eqb (length l.completion) 16 g) in
    let r = respond (read_command x) l.buffer l.memory in
    (ap (λ (o : Outcome). o.number) n, rw n (reply_agrees p (read_command x) l v i ∙ ap (λ j. numbered 0 (posted p j r)) q.1.cid))

-- ---- a page that was written

-- the host reads the keys that the List shows, and whatever lies behind the page in the buffer changes nothing
pub page_agrees : (s : Namespace) (n : ℕ) (k : Key) (b : List ℕ) → within s ≡ true
    → read_page (put 0 (page (shown n k (keys s.pairs))) b) ≡ reading (shown n k (keys s.pairs))
page_agrees s n k b e = shown_read s (within_true s e) n k b

-- the count, and key by key, with number 0
pub page_key_agrees : (s : Namespace) (n : ℕ) (k : Key) (b : List ℕ) (o : ℕ) → within s ≡ true
    → page_key (read_page (put 0 (page (shown n k (keys s.pairs))) b)) o
    ≡ given (length (shown n k (keys s.pairs))) (get_or (shown n k (keys s.pairs)) o [])
page_key_agrees s n k b o e = ap (λ (r : Reading). page_key r o) (page_agrees s n k b e)

-- and so of the buffer that a List leaves, whatever the memory
pub list_agrees : (p : Post) (c : Command) (l : Lent) → is_list c.opcode ≡ true → (respond c l.buffer l.memory).status ≡ 0
    → read_page (serve p c l).buffer
    ≡ reading (shown c.amount (key_of c) (keys (at c.nsid (namespaces_of l.memory)).pairs))
unfolding serve respond answer
list_agrees p c l o e =
    let s = at c.nsid (namespaces_of l.memory) in
    let st = sym (answer_status (legal l.memory) s c l.buffer) ∙ e in
    elim (known (legal l.memory)) [
      | holds f ↦
          let ss = namespaces_of l.memory in
          let i = (unrefused true s c (length l.buffer) (rw f at st)).early.same in
          let w = at_within c.nsid ss (legal_holds l.memory f).within.each (sym (at_id c.nsid ss) ∙ eq-eqb c.nsid s.id i) in
          rw (st, eqb-true c.opcode 0x06 o) (shown_read s w c.amount (key_of c) l.buffer)
      | fails f ↦ absurd (omega (arith, rw f at st, illegal s c (length l.buffer)))
    ]
