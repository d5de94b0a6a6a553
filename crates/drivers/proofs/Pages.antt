-- The Identify page that the module writes, read back by the host (request [2]): by one proof over the index of a format, for every legal memory and every
-- ordinal; after a formatting and any calls behind it the page says that formatting's format and size, and the used room that numbers and statuses tell.
-- Assumes nothing.
use mathlib.Core.Path.{◌≡◌, refl, ap, ◌∙◌}
use mathlib.Core.Bool.{true, false, cond}
use mathlib.Core.List.{List}
use Prim.Native.Nat.{ℕ, ◌≤◌, ◌<◌}
use native.Mathlib.Decide.{dec_lt}
use native.Mathlib.Omega.{arith}
use lib.ListN.{length}
use borrow.Author.Tests.{lt-ltb, le-ltb}
use Rattle.sheets.proofs.IdentifyLaws.{Sized}
use Rattle.store.specs.Maps.{used}
use Rattle.store.specs.Namespace.{Namespace}
use Rattle.store.proofs.NamespaceLaws.{Within as One, format_bounds}
use Rattle.memory.specs.Namespaces.{held, at}
use Rattle.memory.specs.Memory.{Memory}
use Rattle.memory.proofs.NameLaws.{at_within}
use Rattle.memory.proofs.ImageLaws.{Holds, legal_holds}
use Rattle.maps.specs.Describe.{Described, described, undescribed}
use Rattle.maps.proofs.DescribeLaws.{describe_held}
use Rattle.formatting.specs.Formatting.{blanks}
use Rattle.identify.specs.Identify.{limits, page_of, identify_of, identify}
use Rattle.wire.specs.Completion.{Post}
use Rattle.room.specs.Room.{room}
use Rattle.module.specs.History.{halves, Call, commanding, run, status}
use Rattle.host.specs.Identity.{identity}
use Rattle.host.proofs.IdentityLaws.{Written, identity_back, identity_past}
use Rattle.promises.specs.Histories.{Start, begun, memory_after, stored_after}
use Rattle.promises.proofs.RequestLaws.{holds_after}
use Rattle.promises.proofs.Room.{refused_alike as alike}
use Rattle.drivers.specs.Pages.{reads, Reads, ReadsLegal, ReadsHistory}
use Rattle.drivers.proofs.Frames.{framed}

limits_sized : (o : ℕ) → o < 16 → Sized (limits o)
limits_sized o h =
    let b = format_bounds o (omega arith) in
    record { keymax_in = omega arith; valuemax_in = omega arith; maxkeys_in = omega arith }

-- the page of a namespace within its limits
page_back : (s : Namespace) → One s → (o : ℕ) → identity (page_of (described s)) o ≡ reads s (used s.pairs) o
page_back s w o = elim (dec_lt o 16) [ yes h ↦ one h | no h ↦ past (omega (arith, h)) ]
  where
    n : ℕ
    n = used s.pairs

    written : Written s.size n s.index 16
    written =
        record {
          size_in = omega (arith, w.permits.size_high);
          used_in = omega (arith, w.permits.size_high, w.room);
          index_in = omega (arith, w.permits.index);
          some = omega arith;
          room = omega arith;
        }

    one : o < 16 → identity (page_of (described s)) o ≡ reads s n o
    one h = rw (lt-ltb o 16 h) (identity_back s.size n s.index limits 16 written o h (limits_sized o h))

    past : 16 ≤ o → identity (page_of (described s)) o ≡ reads s n o
    past h = rw (le-ltb o 16 h) (identity_past s.size n s.index limits 16 written o h)

module _ {ss : List Namespace} {m : Memory} (h : Holds ss m) (n : ℕ) (p : List ℕ) where
  -- what is handed back, refusals too
  identify_held : identify n p m ≡ identify_of (cond (held n ss) (described (at n ss)) (undescribed 23)) p
  unfolding identify
  identify_held = ap (λ (d : Described). identify_of d p) (describe_held n h)

  reads_held : held n ss ≡ true → length p ≡ 4096 → Reads (identify n p m) (at n ss) (used (at n ss).pairs)
  reads_held q l =
      rw (identify_held, q, l) (record { number = refl; whole = refl; page = page_back (at n ss) (at_within n ss h.within.each q) })

-- ---- the promises

pub reads_legal : ReadsLegal identify
reads_legal m n p ok q l = reads_held (legal_holds m ok) n p q l

pub reads_history : ReadsHistory identify
reads_history a xs n p ok f q l =
    let g = framed n (blanks (halves a.layout)) (begun a).after xs f in
    let r = reads_held (holds_after a xs ok) n p (g.held ∙ q) l in
    record { number = r.number; whole = r.whole ∙ rw (g.index, g.size); page = λ o. r.page o ∙ rw (g.index, g.size) }

-- with a slice of the right length the writer refuses with 18 exactly where a command that numbers 1 and 2 let pass is answered 06h
pub refused_alike : (n : ℕ) (s : List ℕ) (m : Memory) (p : Post) (e c b : List ℕ) → length s ≡ 4096 → (run m (commanding p e c b)).number ≡ 0
    → ((identify n s m).number ≡ 18 → status (run m (commanding p e c b)) ≡ 0x06) × (status (run m (commanding p e c b)) ≡ 0x06 → (identify n s m).number ≡ 18)
unfolding identify room
refused_alike n s m p e c b l k = rw l (alike n m p e c b k)

-- an id that the history holds under no namespace
pub unheld : (a : Start) (xs : List Call) (n : ℕ) (p : List ℕ) → (begun a).number ≡ 0 → held n (stored_after a xs) ≡ false → length p ≡ 4096
    → identify n p (memory_after a xs) ≡ record { number = 23; page = p }
unheld a xs n p ok q l = identify_held (holds_after a xs ok) n p ∙ rw (q, l)
