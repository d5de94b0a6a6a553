-- Each kind of stand-in has a device, so that what rejects the kind rejects something; and in what else is asked of it there it is like the
-- module. Assumes nothing.
use mathlib.Core.Path.{◌≡◌, refl, sym, subst, ◌∙◌}
use mathlib.Core.Bool.{Bool, true, false}
use mathlib.Core.List.{List, [], ◌∷◌}
use Prim.Native.Nat.{ℕ, ◌+◌, ◌^◌, ◌<◌}
use native.Mathlib.Omega.{arith}
use lib.Dec.{eqb}
use lib.ListN.{length, drop}
use Rattle.octets.specs.Octets.{part, put}
use Rattle.octets.proofs.NumberLaws.{number_bytes}
use Rattle.octets.proofs.TestLaws.{contrary}
use Rattle.wire.specs.Entry.{read_command}
use Rattle.module.proofs.HistoryLaws.{status_back}
use Rattle.sheets.specs.Page.{page}
use Rattle.sheets.proofs.PageLaws.{page_back}
use Rattle.memory.specs.Namespaces.{at as named}
use Rattle.rules.specs.Steps.{status_of}
use Rattle.module.specs.History.{Call, formatting, commanding, asking, run, succeeded, status}
use Rattle.promises.specs.Requests.{Request, call, asked}
use Rattle.standins.specs.Devices.{real, Point, at, moved, goes, opened}
use Rattle.standins.specs.Demands.{Opens, Accepts, Retrieves, Misses, Images, Pages, Walks}
use Rattle.standins.specs.StandIns.{Says, Leaves, Forgets, Idles, Posts, Counts, Invents, Empties, saying, staying, resting, counting}
use Rattle.standins.proofs.Demands.{real_accepts}
use Rattle.standins.proofs.StandIns.{says_81h_rejected, says_00h_rejected, leaves_rejected, leaves_no_image, idles_rejected, posts_rejected}
use Rattle.standins.proofs.StandIns.{invents_rejected, counts_rejected, empties_rejected}
use Rattle.promises.proofs.Examples.{on_memory, start, A, store, list}

pub saying_says : (st : ℕ) → st < 256 → Says st (saying st)
saying_says st h before m p e c b done = status_back p (read_command e) st 0 h

pub saying_opens : (st : ℕ) → Opens (saying st)
saying_opens st a ok = ok

-- ---- it leaves the store as it is

pub staying_leaves : Leaves staying
staying_leaves before m p e c b = refl

pub staying_forgets : Forgets staying
staying_forgets before earlier m (formatting l) = refl
staying_forgets before earlier m (commanding p e c b) = refl
staying_forgets before earlier m (asking n) = refl

pub staying_opens : Opens staying
staying_opens a ok = ok

pub staying_obeys : Accepts [] staying
staying_obeys = real_accepts []

-- ---- it only posts 00h after the first command

pub resting_idles : Idles resting
resting_idles before m p e c b f n = go (eqb (run m (commanding p e c b)).number 0) refl
  where
    go : (z : Bool) → eqb (run m (commanding p e c b)).number 0 ≡ z
        → (status (resting before m (commanding p e c b)) ≡ 0) × ((resting before m (commanding p e c b)).after.buffer ≡ b)
    go true g = rw (f, g) (status_back p (read_command e) 0 0 (omega arith), refl)
    go false g = absurd (contrary (sym g ∙ rw (rw (f, g) at n)))

pub resting_posts : Posts resting
resting_posts before m p e c b f n = (resting_idles before m p e c b f n).0

pub resting_opens : Opens resting
resting_opens a ok = ok

pub resting_obeys : Accepts [] resting
resting_obeys = real_accepts []

-- ---- it makes its own count: always n, or one more than there are keys

pub counting_counts : (n : ℕ) → n < 256 ^ 4 → Counts n (counting (λ k. n))
unfolding put part
counting_counts n h before m p e c b is ok = number_bytes 4 n h

pub counting_empties : Empties (counting (λ k. 0))
unfolding put page
counting_empties before m p e c b is ok = page_back [] (drop 4 (run m (commanding p e c b)).after.buffer) (omega arith) tt tt

pub counting_invents : Invents (counting (λ k. k + 1))
unfolding on_memory
counting_invents =
    record {
      start = start 7;
      calls = call (store A (7 ∷ [])) ∷ [];
      list = list [];
      formatted = refl;
      opcode = refl;
      done = refl;
      wrong = λ e. omega arith;
    }

module _ (f : ℕ → ℕ) where
  pub counting_opens : Opens (counting f)
  counting_opens a ok = ok

  goes_same : (q : Point) (xs : List Call) → goes (counting f) q xs ≡ goes real q xs
  goes_same q [] = refl
  goes_same q (formatting l ∷ xs) = goes_same (moved real q (formatting l)) xs
  goes_same q (commanding p e c b ∷ xs) = goes_same (moved real q (commanding p e c b)) xs
  goes_same q (asking n ∷ xs) = goes_same (moved real q (asking n)) xs

  abbrev Right : Request → Point → Type 0
  Right x q = status_of true (named (asked x).nsid q.stored) (asked x) (length x.buffer) ≡ 0 → succeeded (at (counting f) q (call x)) ≡ true

  pub counting_accepts : (xs : List Call) → Accepts xs (counting f)
  counting_accepts xs a x ok e64 c16 = subst (Right x) (sym (goes_same (opened (counting f) a) xs)) (real_accepts xs a x ok e64 c16)

-- ---- so each of them lacks a demand

saying_81h_fails : Accepts [] (saying 0x81) → ⊥
saying_81h_fails obeys = says_81h_rejected (saying 0x81) (saying_opens 0x81) obeys (saying_says 0x81 (omega arith))

saying_00h_fails : Misses (saying 0x00) → ⊥
saying_00h_fails misses = says_00h_rejected (saying 0x00) (saying_opens 0x00) misses (saying_says 0x00 (omega arith))

staying_fails : (Retrieves staying → ⊥) × (Images staying → ⊥)
staying_fails = (
  λ retrieves. leaves_rejected staying staying_opens staying_obeys retrieves staying_forgets staying_leaves,
  λ images. leaves_no_image staying staying_opens staying_obeys images staying_leaves,
)

resting_fails : (Retrieves resting → ⊥) × (Misses resting → ⊥)
resting_fails = (
  λ retrieves. idles_rejected resting resting_opens resting_obeys retrieves resting_idles,
  λ misses. posts_rejected resting resting_opens misses resting_posts,
)

counting_fails : (Pages (counting (λ k. 3)) → ⊥) × (Pages (counting (λ k. k + 1)) → ⊥) × (Walks (counting (λ k. 0)) → ⊥)
counting_fails = (
  λ pages. counts_rejected (counting (λ k. 3)) (counting_opens (λ k. 3)) (counting_accepts (λ k. 3)) pages 3 (counting_counts 3 (omega arith)),
  λ pages. invents_rejected (counting (λ k. k + 1)) pages counting_invents,
  λ walks. empties_rejected (counting (λ k. 0)) (counting_opens (λ k. 0)) (counting_accepts (λ k. 0)) walks counting_empties,
)
