-- A farm whose next call depends on what it was shown, as where it lends one data buffer again and again; others call between its turns.
-- Assumes nothing.
use Rattle.std.specs.Prelude.{◌≡◌, List, [], ◌∷◌, ◌++◌, ℕ, zero, suc}
use Rattle.wire.specs.Entry.{read_command}
use Rattle.store.specs.Namespace.{Namespace}
use Rattle.memory.specs.Memory.{Memory}
use Rattle.wire.specs.Completion.{Post}
use Rattle.module.specs.History.{id_of, Call, commanding, asking}
use Rattle.farms.specs.Sides.{Device, next, Ask, sends, poses, asks, Seen, shows, Start, ready}
use Rattle.farms.specs.Alone.{meets, after}

-- what it asks next; what it was shown stands with the latest first
abbrev pub Host : Type 0
Host = List Seen → Ask

-- it names n and no other, whatever it was shown
abbrev pub Names : ℕ → Ask → Type 0
Names n (sends e c b) = n ≡ (read_command e).nsid
Names n (poses q) = n ≡ id_of q

abbrev pub HostOf : ℕ → Host → Type 0
HostOf n h = (vs : List Seen) → Names n (h vs)

-- its turn, with what the caller gives for the completion; or a call of another
pub data Turn : Type 0 where
  mine : Post → Turn
  theirs : Call → Turn

-- no other names n
abbrev pub Elsewhere : ℕ → List Turn → Type 0
Elsewhere n [] = Unit {0}
Elsewhere n (mine p ∷ ts) = Elsewhere n ts
Elsewhere n (theirs x ∷ ts) = (asks n x ≡ []) × Elsewhere n ts

abbrev pub call_of : Post → Ask → Call
call_of p (sends e c b) = commanding p e c b
call_of p (poses q) = asking q

-- the calls that come about, where it was shown vs before
abbrev pub made : Device → ℕ → Host → List Seen → Memory → List Turn → List Call
made d n h vs m [] = []
made d n h vs m (mine p ∷ ts) =
    let x = call_of p (h vs) in
    x ∷ made d n h (shows d n m x ++ vs) (next d m x) ts
made d n h vs m (theirs x ∷ ts) = x ∷ made d n h vs (next d m x) ts

-- from a formatting on
abbrev pub hosted : Device → ℕ → Host → Start → List Turn → List Call
hosted d n h a ts = made d n h [] (ready d a) ts

-- how many turns it has
abbrev pub turns : List Turn → ℕ
turns [] = 0
turns (mine p ∷ ts) = suc (turns ts)
turns (theirs x ∷ ts) = turns ts

-- what it asks in so many turns on its own map
abbrev pub chosen : Host → List Seen → Namespace → ℕ → List Ask
chosen h vs s zero = []
chosen h vs s (suc k) = h vs ∷ chosen h (meets s (h vs) ∷ vs) (after s (h vs)) k
