-- What a host is to read of an Identify page, and two devices that are to be told from the module by it. Assumes nothing.
use Rattle.std.specs.Prelude.{◌≡◌, true, cond, List, ℕ, length, ltb}
use Rattle.sheets.specs.declared.identify.Limits.{Limits}
use Rattle.sheets.specs.Identify.{identify_page, no_limits}
use Rattle.store.specs.Maps.{used}
use Rattle.store.specs.Namespace.{Namespace}
use Rattle.memory.specs.Namespaces.{held, at}
use Rattle.memory.specs.Memory.{Memory, namespaces_of, legal}
use Rattle.maps.specs.Describe.{describe}
use Rattle.formatting.specs.Formatting.{blanks}
use Rattle.identify.specs.Identify.{limits, Identified, identified, identify_of}
use Rattle.module.specs.History.{halves, Call, formats}
use Rattle.host.specs.declared.identities.Identity.{Identity}
use Rattle.host.specs.Identity.{identifying, identity}
use Rattle.promises.specs.Histories.{Start, begun, memory_after, stored_in, never}

-- the limits of format o, and zeros past the sixteenth
abbrev pub limits_for : ℕ → Limits
limits_for o = cond (ltb o 16) (limits o) no_limits

-- with the format and size of s, and so much used room, under ordinal o
abbrev pub reads : Namespace → ℕ → ℕ → Identity
reads s n o = identifying 16 s.index s.size n (limits_for o)

-- what a device makes of an id, the slice for the page, and memory
abbrev pub Writer : Type 0
Writer = ℕ → List ℕ → Memory → Identified

-- done: the page says so much, with zeros in all other bytes, and a host reads it so
pub record Reads (i : Identified) (s : Namespace) (n : ℕ) : Type 0 where
  pub number : i.number ≡ 0
  pub whole : i.page ≡ identify_page s.size n s.index limits 16
  pub page : (o : ℕ) → identity i.page o ≡ reads s n o

-- request [2]: on legal memory the page is that of the namespace
abbrev pub ReadsLegal : Writer → Type 0
ReadsLegal w =
    (m : Memory) (n : ℕ) (p : List ℕ) → legal m ≡ true → held n (namespaces_of m) ≡ true → length p ≡ 4096
    → let s = at n (namespaces_of m) in Reads (w n p m) s (used s.pairs)

-- and over any history: the format and size of the formatting, and the used room that numbers and statuses tell
abbrev pub ReadsHistory : Writer → Type 0
ReadsHistory w =
    (a : Start) (xs : List Call) (n : ℕ) (p : List ℕ) → (begun a).number ≡ 0 → never formats (begun a).after xs ≡ true
    → held n (blanks (halves a.layout)) ≡ true → length p ≡ 4096
    → Reads (w n p (memory_after a xs)) (at n (blanks (halves a.layout))) (used (stored_in n a xs).pairs)

-- ---- devices that are not the module

-- the used room is that of the namespace k; all else is the module's
abbrev pub elsewhere : ℕ → Writer
elsewhere k n p m =
    let d = describe n m in
    identify_of (record { number = d.number; index = d.index; size = d.size; used = (describe k m).used; keys = d.keys }) p

-- nothing is refused, and the page names fifteen formats
abbrev pub fifteen : Writer
fifteen n p m = let d = describe n m in identified 0 (identify_page d.size d.used d.index limits 15)
