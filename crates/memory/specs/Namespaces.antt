-- One or two namespaces side by side, the one that an id names, and their limits. Assumes nothing.
use Rattle.std.specs.Prelude.{Bool, true, false, cond, not, ◌&&◌, ◌||◌, List, [], ◌∷◌, ◌++◌, ℕ, suc, ◌+◌, length, leb, eqb}
use Rattle.octets.specs.Tests.{all}
use Rattle.table.specs.Formats.{slots}
use Rattle.store.specs.Maps.{Pair}
use Rattle.store.specs.Namespace.{Namespace, fresh, with_pairs, within}

-- the bytes that f gives for each, one behind the other
abbrev pub joined : (Namespace → List ℕ) → List Namespace → List ℕ
joined f [] = []
joined f (s ∷ ss) = f s ++ joined f ss

-- the numbers that f gives for each, summed up
abbrev pub total : (Namespace → ℕ) → List Namespace → ℕ
total f [] = 0
total f (s ∷ ss) = f s + total f ss

-- what one needs: slots of the directory, bytes of the value slice
abbrev pub slots_of : Namespace → ℕ
slots_of s = slots s.index

abbrev pub size_of : Namespace → ℕ
size_of s = s.size

-- ---- by their ids

-- one of them has the id n
abbrev pub held : ℕ → List Namespace → Bool
held n [] = false
held n (s ∷ ss) = eqb n s.id || held n ss

-- the namespace that n names; where none has that id, an empty one with another id, so that step d refuses
abbrev pub at : ℕ → List Namespace → Namespace
at n [] = fresh 0 (suc n) 0
at n (s ∷ ss) = cond (eqb n s.id) s (at n ss)

-- the same namespaces, but m are the pairs of the one that n names
abbrev pub with : ℕ → List Pair → List Namespace → List Namespace
with n m [] = []
with n m (s ∷ ss) = cond (eqb n s.id) (with_pairs s m ∷ ss) (s ∷ with n m ss)

-- ---- limits

abbrev pub each_within : List Namespace → Bool
each_within [] = true
each_within (s ∷ ss) = within s && each_within ss

abbrev pub apart : List Namespace → Bool
apart [] = true
apart (s ∷ ss) = not (held s.id ss) && apart ss

-- one or two, each within its own limits, under different ids, with sizes that sum up to at most 65,536
abbrev pub limits : List Namespace → List Bool
limits ss = leb 1 (length ss) ∷ leb (length ss) 2 ∷ each_within ss ∷ apart ss ∷ leb (total size_of ss) 65536 ∷ []

unfoldable pub all_within : List Namespace → Bool
all_within ss = all (limits ss)
