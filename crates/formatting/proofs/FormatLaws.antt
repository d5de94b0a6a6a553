-- The numbers of a formatting as named facts, and what formatting leaves: the image of empty maps, or all as it was. Assumes nothing.
use mathlib.Core.Path.{◌≡◌}
use mathlib.Core.Bool.{true, false}
use mathlib.Core.List.{List, [], ◌∷◌, ◌++◌}
use Prim.Native.Nat.{ℕ, ◌≤◌}
use lib.ListN.{length}
use lib.Dec.{T, ltb, eqb}
use borrow.Author.Tests.{ltb-false, not-false}
use Rattle.octets.specs.Tests.{Row, first_of}
use Rattle.octets.proofs.TestLaws.{neither, None, named, none_holds, none_parts}
use Rattle.store.specs.Namespace.{permit_steps}
use Rattle.store.proofs.NamespaceLaws.{Permitted, permits_of, fresh_within, Within as One}
use Rattle.memory.specs.Namespaces.{total, size_of, apart}
use Rattle.memory.specs.Memory.{Memory, needed, needed_values}
use Rattle.memory.proofs.JoinLaws.{Each}
use Rattle.memory.proofs.LimitLaws.{Within}
use Rattle.memory.proofs.ImageLaws.{Holds, over_holds}
use Rattle.formatting.specs.declared.measures.Half.{Half}
use Rattle.formatting.specs.Formatting.{blanks, permit_all, last_rows, format_steps, format}

-- numbers 3 to 5 let each pass
abbrev pub Allowed : List Half → Type 0
Allowed [] = Unit {0}
Allowed (h ∷ hs) = Permitted h.index h.id h.size × Allowed hs

-- what no number refuses; d and v are the slices' lengths
pub record Formattable (hs : List Half) (d v : ℕ) : Type 0 where
  pub permits : Allowed hs
  pub apart : apart (blanks hs) ≡ true
  pub room : total size_of (blanks hs) ≤ 65536
  pub directory : needed (blanks hs) ≤ d
  pub values : needed_values (blanks hs) ≤ v

rows_named : (hs : List Half) (rs : List Row) → T (named rs) → T (named (permit_all hs ++ rs))
rows_named [] rs t = t
rows_named (h ∷ hs) rs t = rows_named hs rs t

allowed : (hs : List Half) → None (permit_all hs) → Allowed hs
allowed [] n = tt
allowed (h ∷ hs) n =
    let p = none_parts (permit_steps h.index h.id h.size) (permit_all hs) n in
    (permits_of h.index h.id h.size p.0, allowed hs p.1)

pub formattable : (hs : List Half) (d v : ℕ) → first_of (format_steps hs d v) ≡ 0 → Formattable hs d v
unfolding format_steps
formattable hs d v e =
    let ss = blanks hs in
    let parts = none_parts (permit_all hs) (last_rows ss d v) (none_holds (format_steps hs d v) (rows_named hs (last_rows ss d v) tt) e) in
    let last = parts.1 in
    let slices = neither (ltb d (needed ss)) (ltb v (needed_values ss)) last.1.1.0 in
    record {
      permits = allowed hs parts.0;
      apart = not-false (apart ss) last.0;
      room = ltb-false 65536 (total size_of ss) last.1.0;
      directory = ltb-false d (needed ss) slices.0;
      values = ltb-false v (needed_values ss) slices.1;
    }

-- ---- what formatting leaves

-- one namespace or two
pub record Few (hs : List Half) : Type 0 where
  pub one : 1 ≤ length (blanks hs)
  pub two : length (blanks hs) ≤ 2

each_fresh : (hs : List Half) → Allowed hs → Each One (blanks hs)
each_fresh [] a = tt
each_fresh (h ∷ hs) a = (fresh_within h.index h.id h.size a.0, each_fresh hs a.1)

pub blanks_within : (hs : List Half) (d v : ℕ) → Few hs → first_of (format_steps hs d v) ≡ 0 → Within (blanks hs)
blanks_within hs d v few e =
    let f = formattable hs d v e in
    record { one = few.one; two = few.two; each = each_fresh hs f.permits; apart = f.apart; room = f.room }

module _ (hs : List Half) (m : Memory) where
  pub format_refused : eqb (first_of (format_steps hs (length m.directory) (length m.values))) 0 ≡ false → (format hs m).after ≡ m
  unfolding format
  format_refused e = rw e

  pub format_holds : Few hs → (format hs m).number ≡ 0 → Holds (blanks hs) (format hs m).after
  unfolding format
  format_holds few e = rw e (over_holds (blanks hs) m (blanks_within hs (length m.directory) (length m.values) few e))
