-- What a Store or Delete hands back is not changed by one on another key of the same namespace, but for 81h. Assumes nothing.
use mathlib.Core.Path.{◌≡◌, refl, sym, ap, ◌∙◌}
use mathlib.Core.Bool.{Bool, true, false, cond, ◌||◌}
use mathlib.Core.List.{List}
use Prim.Native.Nat.{ℕ}
use lib.ListN.{length}
use lib.Dec.{eqb}
use borrow.Author.Tests.{eqb-true}
use Rattle.keys.specs.Keys.{Key}
use Rattle.octets.proofs.TestLaws.{Known, known, holds, fails}
use Rattle.keys.proofs.OrderLaws.{Rising}
use Rattle.wire.specs.declared.entries.Command.{Command}
use Rattle.wire.specs.Entry.{key_of, is_store, is_retrieve, is_list, is_delete}
use Rattle.store.specs.Maps.{Pair, keys, lookup}
use Rattle.store.specs.Namespace.{Namespace, with_pairs}
use Rattle.memory.specs.Namespaces.{held, at}
use Rattle.memory.specs.Memory.{Memory}
use Rattle.memory.proofs.ImageLaws.{Holds}
use Rattle.rules.specs.Steps.{status_of}
use Rattle.rules.proofs.StepLaws.{status_byte}
use Rattle.commands.specs.Answer.{answer, pairs_after}
use Rattle.commands.specs.Command.{completion_of, Outcome}
use Rattle.commands.proofs.AnswerLaws.{answer_status}
use Rattle.module.specs.History.{run, succeeded, changed, told, status}
use Rattle.module.proofs.HistoryLaws.{status_back, told_call}
use Rattle.farms.specs.Sides.{real, next}
use Rattle.farms.specs.Alone.{refusal}
use Rattle.promises.specs.Histories.{writes}
use Rattle.promises.specs.Requests.{Request, call, asked}
use Rattle.promises.proofs.RequestLaws.{at_rising}
use Rattle.promises.proofs.Retrieve.{changed_at_law, unchanged_at}
use Rattle.readers.specs.Orders.{Given, returned, given, Changes}
use Rattle.readers.proofs.Pairs.{other_held}
use Rattle.readers.proofs.Statuses.{status_alike}
use Rattle.readers.proofs.Answers.{replied_is, status_in}

-- ---- what a Store or Delete hands back goes by its status alone

quiet : (op : ℕ) → writes op ≡ true → (is_retrieve op ≡ false) × (is_list op ≡ false)
quiet op w = go (is_store op) refl w
  where
    go : (z : Bool) → is_store op ≡ z → (z || is_delete op) ≡ true → (is_retrieve op ≡ false) × (is_list op ≡ false)
    go true e w = let o = eqb-true op 0x01 e in (rw o, rw o)
    go false e w = let o = eqb-true op 0x10 w in (rw o, rw o)

answer_quiet : (s : Namespace) (c : Command) (b : List ℕ) → writes c.opcode ≡ true
    → ((answer true s c b).dword0 ≡ 0) × ((answer true s c b).buffer ≡ b)
unfolding answer
answer_quiet s c b w =
    let q = quiet c.opcode w in
    elim (known (eqb (status_of true s c (length b)) 0)) [ holds z ↦ rw (z, q.0, q.1) (refl, refl) | fails z ↦ rw z (refl, refl) ]

abbrev said : Request → ℕ → Given
said x st =
    let k = refusal x.entry x.completion in
    cond (eqb k 0) (returned 0 (completion_of x.post (asked x) st 0) x.buffer) (returned k x.completion x.buffer)

-- its status on the namespace s
abbrev status_on : Namespace → Request → ℕ
status_on s x = status_of true s (asked x) (length x.buffer)

given_said : (n : ℕ) (k : Key) (x : Request) (ss : List Namespace) (m : Memory) → Holds ss m → Changes n k x
    → given real m (call x) ≡ said x (status_on (at n ss) x)
given_said n k x ss m h c =
    let s = at (asked x).nsid ss in
    let q = answer_quiet s (asked x) x.buffer c.writes in
    replied_is ss m h x.post x.entry x.completion x.buffer
    ∙ rw (answer_status true s (asked x) x.buffer, q.0, q.1) (ap (λ (j : ℕ). said x (status_on (at j ss) x)) c.nsid)

-- ---- another key's command changes nothing of it but step j

-- t is s with other pairs, and the same under k
record Beside (k : Key) (s t : Namespace) : Type 0 where
  pairs : List Pair
  is : t ≡ with_pairs s pairs
  same : lookup k pairs ≡ lookup k s.pairs

beside : (n : ℕ) (j k : Key) (y : Request) (o : Outcome) (ss : List Namespace) → Rising (keys (at n ss).pairs) → ¬ (j ≡ k) → Changes n k y
    → Beside j (at n ss) (at n (told ss (call y) o))
beside n j k y o ss r d c = go (succeeded o)
  where
    there : Known (held n ss) → Beside j (at n ss) (at n (changed (asked y) y.buffer ss))
    there (holds h) =
        record {
          pairs = pairs_after (asked y) y.buffer (at n ss).pairs;
          is = changed_at_law (asked y) y.buffer n ss c.nsid h;
          same = other_held (asked y) y.buffer (at n ss).pairs j r (λ e. d (e ∙ c.key));
        }
    there (fails h) = record { pairs = (at n ss).pairs; is = unchanged_at (asked y) y.buffer n ss (λ e. h); same = refl }

    go : (z : Bool) → Beside j (at n ss) (at n (cond z (changed (asked y) y.buffer ss) ss))
    go true = there (known (held n ss))
    go false = record { pairs = (at n ss).pairs; is = refl; same = refl }

said_alike : (j : Key) (x : Request) (s t : Namespace) → Beside j s t → key_of (asked x) ≡ j → ¬ (status_in (said x (status_on s x)) ≡ 0x81)
    → ¬ (status_in (said x (status_on t x)) ≡ 0x81) → said x (status_on t x) ≡ said x (status_on s x)
said_alike j x s t b k f g = go (eqb (refusal x.entry x.completion) 0) f g
  where
    ok : ℕ → Given
    ok st = returned 0 (completion_of x.post (asked x) st 0) x.buffer

    no : Given
    no = returned (refusal x.entry x.completion) x.completion x.buffer

    read : (r : Namespace) → status_in (ok (status_on r x)) ≡ status_on r x
    read r = status_back x.post (asked x) (status_on r x) 0 (status_byte true r (asked x) (length x.buffer))

    is : status_on t x ≡ status_on (with_pairs s b.pairs) x
    is = ap (λ (r : Namespace). status_on r x) b.is

    same : lookup (key_of (asked x)) b.pairs ≡ lookup (key_of (asked x)) s.pairs
    same = rw k b.same

    go : (z : Bool) → ¬ (status_in (cond z (ok (status_on s x)) no) ≡ 0x81) → ¬ (status_in (cond z (ok (status_on t x)) no) ≡ 0x81)
        → cond z (ok (status_on t x)) no ≡ cond z (ok (status_on s x)) no
    go true f g = ap ok (is ∙ status_alike s b.pairs (asked x) (length x.buffer) same (λ e. f (read s ∙ e)) (λ e. g (read t ∙ is ∙ e)))
    go false f g = refl

pub unseen : (n : ℕ) (j k : Key) (x y : Request) (ss : List Namespace) (m : Memory) → Holds ss m → ¬ (j ≡ k) → Changes n j x → Changes n k y
    → ¬ (status (run m (call x)) ≡ 0x81) → ¬ (status (run (next real m (call y)) (call x)) ≡ 0x81)
    → given real (next real m (call y)) (call x) ≡ given real m (call x)
unseen n j k x y ss m h d c e f g =
    let now = given_said n j x ss m h c in
    let later = given_said n j x _ (next real m (call y)) (told_call ss m (call y) h) c in
    let b = beside n j k y (run m (call y)) ss (at_rising n ss h) d e in
    later ∙ said_alike j x (at n ss) _ b c.key (λ q. f (ap status_in now ∙ q)) (λ q. g (ap status_in later ∙ q)) ∙ sym now
