-- A host's walk over the keys of a namespace: it Lists from the empty key, then each time from the last key it was shown, until a page brings no new
-- key. Assumes nothing.
use Rattle.std.specs.Prelude.{◌≡◌, Bool, true, false, cond, List, [], ◌∷◌, ◌++◌, ℕ, ◌+◌, ◌≤◌, length}
use Rattle.octets.specs.Octets.{same}
use Rattle.keys.specs.Keys.{Key}
use Rattle.sheets.specs.Page.{Reading, refused, keys, behind, read_page}
use Rattle.store.specs.Namespace.{Namespace}
use Rattle.memory.specs.Memory.{Memory}
use Rattle.module.specs.History.{Call}
use Rattle.promises.specs.Histories.{System, own, never_on, changes}
use Rattle.promises.specs.Requests.{Request, call, asked, Proper}

-- the page that a List leaves in its data buffer, as the host's reader finds it
abbrev pub page_on : {Q : Type 0} → System Q → Q → Request → Reading
page_on w q x = read_page (w.does q (call x)).after.buffer

abbrev pub page_read : Memory → Request → Reading
page_read = page_on own

-- a page that spoils a walk though its reader does not refuse it
abbrev pub spoilt : Reading
spoilt = refused 0

-- the new keys of a later page, whose first key is k, the one shown last; a page that begins otherwise spoils the walk
abbrev pub new_on : Key → Reading → Reading
new_on k (refused n) = refused n
new_on k (keys []) = spoilt
new_on k (keys (j ∷ ks)) = cond (same j k) (keys ks) spoilt

abbrev pub last_of : Key → List Key → Key
last_of k [] = k
last_of k (j ∷ ks) = last_of j ks

-- pages one behind the other; one that the reader refuses spoils all
abbrev pub joined : List Reading → Reading
joined [] = keys []
joined (refused n ∷ pages) = refused n
joined (keys ks ∷ pages) = behind ks (joined pages)

-- a List from k; 44 bytes hold the count and two entries of the longest keys, so a later page has room for a new key
pub record Lists (n : ℕ) (s : Namespace) (k : Key) (x : Request) : Type 0 where
  pub proper : Proper n s 0x06 k x
  pub wide : 44 ≤ (asked x).amount

-- The new keys page by page, from the state m on, where the page just read brought r; other calls may stand between two Lists, and change
-- other namespaces than n. true: that page brought no new key; false: the host has not gone on yet.
pub data OnwardOn {Q : Type 0} (w : System Q) (n : ℕ) (s : Namespace) : Bool → Q → Reading → List Reading → Type 0 where
  ended : {m : Q} → OnwardOn w n s true m (keys []) (keys [] ∷ [])
  paused : {m : Q} {r : Reading} → OnwardOn w n s false m r (r ∷ [])
  next : {f : Bool} {m : Q} {k : Key} {ks : List Key} {pages : List Reading} (xs : List Call) (x : Request)
      → never_on w (changes n) m xs ≡ true → Lists n s (last_of k ks) x
      → OnwardOn w n s f (w.goes (w.goes m xs) (call x ∷ [])) (new_on (last_of k ks) (page_on w (w.goes m xs) x)) pages
      → OnwardOn w n s f m (keys (k ∷ ks)) (keys (k ∷ ks) ∷ pages)

-- in the state m, where n holds s
pub record WalkOn {Q : Type 0} (w : System Q) (n : ℕ) (s : Namespace) (m : Q) (f : Bool) (pages : List Reading) : Type 0 where
  pub first : Request
  pub lists : Lists n s [] first
  pub onward : OnwardOn w n s f (w.goes m (call first ∷ [])) (page_on w m first) pages

-- of the module
abbrev pub Onward : ℕ → Namespace → Bool → Memory → Reading → List Reading → Type 0
Onward = OnwardOn own

abbrev pub Walk : ℕ → Namespace → Memory → Bool → List Reading → Type 0
Walk = WalkOn own

-- the keys found are a beginning of ks, and ks themselves at the end; no walk takes more Lists than one more than there are keys
pub record Finds (f : Bool) (ks : List Key) (pages : List Reading) : Type 0 where
  pub found : List Key
  pub rest : List Key
  pub read : joined pages ≡ keys found
  pub begins : found ++ rest ≡ ks
  pub ends : f ≡ true → found ≡ ks
  pub few : length pages ≤ length ks + 1
