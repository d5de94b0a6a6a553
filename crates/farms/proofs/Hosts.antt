-- A farm whose next call depends on what it was shown asks and is shown, with others between its turns, what it asks and is shown alone
-- (request [7]). Assumes nothing.
use mathlib.Core.Path.{◌≡◌, refl, ap, ap₂, ◌∙◌}
use mathlib.Core.Bool.{true, not}
use mathlib.Core.List.{List, [], ◌∷◌, ◌++◌}
use Prim.Native.Nat.{ℕ}
use lib.ListN.{replicate}
use borrow.Author.Tests.{eq-eqb}
use Rattle.octets.proofs.TestLaws.{both}
use Rattle.wire.specs.Entry.{read_command}
use Rattle.store.specs.Namespace.{Namespace}
use Rattle.memory.specs.Namespaces.{at}
use Rattle.memory.specs.Memory.{Memory}
use Rattle.formatting.specs.Formatting.{half}
use Rattle.wire.specs.Completion.{Post, post}
use Rattle.module.specs.History.{one, polling, id_of, filled, formatting, asking, run, formats}
use Rattle.farms.specs.Sides.{real, next, Ask, sends, poses, asks, own, Seen, answered, learnt, shows}
use Rattle.farms.specs.Sides.{Start, farms, ready, sees, unformatted, Follows}
use Rattle.farms.specs.Alone.{alone}
use Rattle.farms.specs.Hosts.{Host, Names, HostOf, Turn, mine, theirs, Elsewhere, call_of, made, hosted, turns, chosen}
use Rattle.farms.proofs.Stands.{Stands, left, stands_next, shows_alone}
use Rattle.farms.proofs.Isolation.{ready_stands, isolated}
use Rattle.farms.proofs.Examples.{on_map, on_memory, start, A, ask, call}

asks_own : (n : ℕ) (p : Post) (x : Ask) → Names n x → asks n (call_of p x) ≡ x ∷ []
asks_own n p (sends e c b) o = rw (eq-eqb n (read_command e).nsid o)
asks_own n p (poses q) o = rw (eq-eqb n (id_of q) o)

module _ (n : ℕ) (h : Host) (o : HostOf n h) where
  -- from memory in which the farm stands
  chosen_own : (vs : List Seen) (s : Namespace) (m : Memory) (ts : List Turn) → Stands n s m → Elsewhere n ts
      → unformatted real m (made real n h vs m ts) ≡ true → own n (made real n h vs m ts) ≡ chosen h vs s (turns ts)
  chosen_own vs s m [] t d u = refl
  chosen_own vs s m (mine p ∷ ts) t d u =
      let x = call_of p (h vs) in
      let q = both (not (formats x (run m x))) (unformatted real (next real m x) (made real n h (shows real n m x ++ vs) (next real m x) ts)) u in
      let r = chosen_own (shows real n m x ++ vs) (left s (asks n x)) (next real m x) ts (stands_next n s m t x q.0) d q.1 in
      ap (λ ys. asks n x ++ ys) r
      ∙ ap (λ ws. asks n x ++ chosen h (ws ++ vs) (left s (asks n x)) (turns ts)) (shows_alone n s m t x)
      ∙ ap (λ ys. ys ++ chosen h ((alone s ys).shown ++ vs) (left s ys) (turns ts)) (asks_own n p (h vs) (o vs))
  chosen_own vs s m (theirs x ∷ ts) t d u =
      let q = both (not (formats x (run m x))) (unformatted real (next real m x) (made real n h vs (next real m x) ts)) u in
      let r = chosen_own vs (left s (asks n x)) (next real m x) ts (stands_next n s m t x q.0) d.1 q.1 in
      ap₂ (λ ys zs. ys ++ zs) d.0 r ∙ ap (λ ys. chosen h vs (left s ys) (turns ts)) d.0

pub host_isolated : (n : ℕ) (h : Host) (a : Start) (ts : List Turn) → HostOf n h → Elsewhere n ts → Follows real n a (hosted real n h a ts)
    → sees real n a (hosted real n h a ts) ≡ alone (at n (farms a)) (chosen h [] (at n (farms a)) (turns ts))
host_isolated n h a ts o d f =
    let s = at n (farms a) in
    isolated n a (hosted real n h a ts) f
    ∙ ap (alone s) (chosen_own n h o [] s (ready real a) ts (ready_stands n a f.formatted f.held) d f.unformatted)

-- ---- an instance: a host with one data buffer of eight bytes, which it stores, has a List write over, and stores again as it finds it

abbrev host : Host
host [] = ask 0x01 1 A (replicate 8 5)
host (answered k st w b ∷ []) = ask 0x06 1 [] b
host (answered k st w b ∷ v ∷ vs) = ask 0x01 1 A b
host (learnt r ∷ vs) = poses (polling 1)

host_of : HostOf 1 host
unfolding on_map
host_of [] = refl
host_of (answered k st w b ∷ []) = refl
host_of (answered k st w b ∷ v ∷ vs) = refl
host_of (learnt r ∷ vs) = refl

abbrev between : List Turn
between =
    mine (post 1 0 1) ∷ theirs (call 0x01 2 A (9 ∷ [])) ∷ mine (post 3 0 1) ∷ theirs (asking (polling 2)) ∷ theirs (formatting (one (half 16 1 64)))
    ∷ theirs (call 0x10 2 A []) ∷ mine (post 5 0 1) ∷ []

elsewhere : Elsewhere 1 between
unfolding on_map
elsewhere = (refl, (refl, (refl, (refl, tt))))

follows : Follows real 1 (start 64 64) (hosted real 1 host (start 64 64) between)
unfolding on_memory
follows = record { formatted = refl; held = refl; unformatted = refl }

abbrev written : List ℕ
written = 1 ∷ 0 ∷ 0 ∷ 0 ∷ 1 ∷ 0 ∷ 0x41 ∷ 0 ∷ []

shown : sees real 1 (start 64 64) (hosted real 1 host (start 64 64) between)
    ≡ record {
      shown = answered 0 0x00 0 (replicate 8 5) ∷ answered 0 0x00 0 written ∷ answered 0 0x00 0 written ∷ [];
      room = filled (record { number = 0; used = 9; keys = 1 });
    }
unfolding on_map
shown = host_isolated 1 host (start 64 64) between host_of elsewhere follows
