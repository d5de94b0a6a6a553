-- After a formatting of any bytes and any calls, each command is answered as the map that the history tells of its namespace answers it; with
-- it, what else follows of Delete and of Store's options. Assumes nothing.
use mathlib.Core.Path.{◌≡◌, refl, sym, ◌∙◌}
use mathlib.Core.Bool.{Bool, true}
use mathlib.Core.List.{List, [], ◌∷◌, ◌++◌}
use mathlib.Core.Option.{some}
use Prim.Native.Nat.{ℕ, ◌%◌, ◌/◌, ◌≤◌}
use native.Mathlib.Omega.{arith}
use lib.ListN.{length}
use borrow.Author.Tests.{eqb-true}
use Rattle.octets.specs.Octets.{part, filled, zeros}
use Rattle.keys.specs.Keys.{Key}
use Rattle.octets.proofs.TestLaws.{contrary, both}
use Rattle.wire.specs.declared.entries.Command.{Command}
use Rattle.wire.specs.Entry.{read_command, write_command, is_store}
use Rattle.store.specs.Maps.{lookup, erase}
use Rattle.store.specs.Namespace.{Namespace}
use Rattle.memory.specs.Namespaces.{at}
use Rattle.memory.specs.Memory.{Memory}
use Rattle.memory.proofs.ImageLaws.{Holds, holds_back, holds_legal}
use Rattle.rules.specs.Steps.{status_of}
use Rattle.commands.specs.Answer.{answer}
use Rattle.wire.specs.Completion.{Post, post}
use Rattle.commands.specs.Command.{respond}
use Rattle.module.specs.History.{Call, commanding, run, succeeded}
use Rattle.commands.proofs.AnswerLaws.{answer_status, unrefused}
use Rattle.module.proofs.HistoryLaws.{call_number, call_status, call_dword0, call_buffer}
use Rattle.promises.specs.Histories.{Start, begun, memory_after, stored_after, stored_in}
use Rattle.promises.specs.Requests.{Request, call, sends, both_bits, Proper, Gives, Answered}
use Rattle.promises.specs.Retrieves.{value_in, Since}
use Rattle.promises.proofs.Agreement.{respond_dword0}
use Rattle.promises.proofs.Retrieve.{held_stored, held_status}
use Rattle.promises.proofs.RequestLaws.{holds_after, gives}
use Rattle.promises.proofs.Bits.{low_bit, high_bit}
use Rattle.promises.proofs.AnyMemory.{any_status}
use Rattle.promises.proofs.Examples.{on_memory, start, start_begun, request, A, store}

-- ---- a command on memory that holds s

-- Dword 0 is at most the longest value
dword_small : (ss : List Namespace) (m : Memory) (c : Command) (b : List ℕ) → Holds ss m → (answer true (at c.nsid ss) c b).dword0 ≤ 4096
unfolding respond
dword_small ss m c b h = rw (holds_legal h, holds_back h) at (respond_dword0 c b m)

pub held_answers : (ss : List Namespace) (m : Memory) (p : Post) (e c b : List ℕ) → Holds ss m → length e ≡ 64 → length c ≡ 16
    → Answered (answer true (at (read_command e).nsid ss) (read_command e) b) (run m (commanding p e c b))
held_answers ss m p e c b h e64 c16 =
    record {
      number = call_number ss m p e c b h e64 c16;
      status = call_status ss m p e c b h e64 c16 ∙ sym (answer_status true (at (read_command e).nsid ss) (read_command e) b);
      dword0 = call_dword0 ss m p e c b h e64 c16 (omega (arith, dword_small ss m (read_command e) b h));
      buffer = call_buffer ss m p e c b h e64 c16;
    }

-- ---- the promise

pub answers : (a : Start) (xs : List Call) (p : Post) (e c b : List ℕ) → (begun a).number ≡ 0 → length e ≡ 64 → length c ≡ 16
    → Answered (answer true (stored_in (read_command e).nsid a xs) (read_command e) b) (run (memory_after a xs) (commanding p e c b))
answers a xs p e c b ok = held_answers (stored_after a xs) (memory_after a xs) p e c b (holds_after a xs ok)

-- ---- Delete after Store

deleted : (n : ℕ) (ss : List Namespace) (m : Memory) (k : Key) (r : Request) (v : List ℕ) → Holds ss m → lookup k (at n ss).pairs ≡ some v
    → Proper n (at n ss) 0x10 k r → Gives 0x00 0 r.buffer (sends m r)
unfolding answer
deleted n ss m k r v h e p =
    let s = at n ss in
    gives n ss m r h p.nsid p.passes (record { status = 0; dword0 = 0; buffer = r.buffer; pairs = erase k s.pairs })
    (rw (held_status n s k 0x10 r p refl v e, p.opcode, p.key)) (omega arith)

-- the history is xs, then x, then ys; r is sent after it
pub delete_after_store : (a : Start) (xs : List Call) (x : Request) (ys : List Call) (n : ℕ) (k : Key) (r : Request) → Since a xs x ys 0x01 n k
    → Proper n (stored_in n a (xs ++ call x ∷ ys)) 0x10 k r → Gives 0x00 0 r.buffer (sends (memory_after a (xs ++ call x ∷ ys)) r)
delete_after_store a xs x ys n k r since =
    deleted n _ _ k r (value_in x) (holds_after a (xs ++ call x ∷ ys) since.formatted) (held_stored a xs x ys 0x01 n k since refl)

-- ---- Store with both option bits

-- whatever is stored and whether memory is legal
both_bits_law : (ok : Bool) (s : Namespace) (c : Command) (n : ℕ) → is_store c.opcode ≡ true → c.options % 4 ≡ 3 → status_of ok s c n ≡ 0 → ⊥
both_bits_law ok s c n o h e =
    let low : c.options % 2 ≡ 1 = low_bit c.options ∙ rw h in
    let high : c.options / 2 % 2 ≡ 1 = high_bit c.options ∙ rw h in
    let p = unrefused ok s c n e in
    contrary (sym (p.absent (rw (o, high))) ∙ p.held (rw (eqb-true c.opcode 0x01 o, low)))

pub both_bits_never : (m : Memory) (p : Post) (e c b : List ℕ) → both_bits (read_command e) ≡ true → succeeded (run m (commanding p e c b)) ≡ true → ⊥
both_bits_never m p e c b two ok =
    let o = both _ _ two in
    let q = both _ _ ok in
    let n = eqb-true (run m (commanding p e c b)).number 0 q.0 in
    both_bits_law _ _ (read_command e) (length b) o.0 (eqb-true _ 3 o.1) (sym (any_status m p e c b n) ∙ eqb-true _ 0 q.1)

-- ---- instances

abbrev stored : List Call
stored = call (store A (5 ∷ 6 ∷ [])) ∷ []

-- one byte of two, into a buffer of three
abbrev retrieve : Request
retrieve = request 0x02 A 1 (1 ∷ 2 ∷ 3 ∷ [])

abbrev delete : Request
delete = request 0x10 A 0 []

retrieved : Gives 0x00 2 (5 ∷ 2 ∷ 3 ∷ []) (sends (memory_after (start 7) stored) retrieve)
unfolding on_memory
retrieved = answers (start 7) stored retrieve.post retrieve.entry retrieve.completion retrieve.buffer (start_begun 7) refl refl

after_store : Since (start 7) [] (store A (5 ∷ 6 ∷ [])) [] 0x01 1 A × Proper 1 (stored_in 1 (start 7) stored) 0x10 A delete
unfolding on_memory
after_store = (
  record { formatted = refl; nsid = refl; opcode = refl; key = refl; done = refl; spared = refl },
  record { nsid = refl; opcode = refl; key = refl; passes = refl },
)

deletes : Gives 0x00 0 [] (sends (memory_after (start 7) stored) delete)
deletes = delete_after_store (start 7) [] (store A (5 ∷ 6 ∷ [])) [] 1 A delete after_store.0 after_store.1

-- all eight option bits
abbrev both_a : List ℕ
both_a = write_command (record { opcode = 0x01; fused = 0; cid = 0; nsid = 1; key = filled 16 A; len = 1; options = 0xff; amount = 0 })

never_both : (m : Memory) → succeeded (run m (commanding (post 0 0 0) both_a (zeros 16) [])) ≡ true → ⊥
unfolding read_command write_command part
never_both m = both_bits_never m (post 0 0 0) both_a (zeros 16) [] refl
