-- What formatting leaves where no number refuses it: the image of empty maps. Assumes nothing.
use mathlib.Core.Path.{◌≡◌, refl}
use mathlib.Core.List.{List, ◌++◌}
use lib.ListN.{length}
use Rattle.std.specs.Prelude.{Option, Some, None}
use Rattle.octets.specs.Tests.{first_of}
use Rattle.store.specs.declared.namespaces.Label.{Label}
use Rattle.store.specs.Namespace.{fresh}
use Rattle.memory.specs.Memory.{Memory, half_of, label_of, head_of, image_over}
use Rattle.memory.specs.Permits.{no_label}
use Rattle.formatting.specs.declared.measures.Half.{Half}
use Rattle.formatting.specs.declared.measures.Reach.{Reach}
use Rattle.formatting.specs.Formatting.{halves, blanks, format_steps, formatted, format, reach_of, blanked}
use Rattle.formatting.proofs.blanks.Blank.{blank_image}

pub done : (hs : List Half) (m : Memory) {n : Memory} → 0 ≡ first_of (format_steps hs (length m.directory) (length m.values))
    → n ≡ image_over (blanks hs) m → formatted 0 n ≡ format hs m
unfolding format
done hs m z f = rw (← z, f)

-- the label in the second half
abbrev pub behind : Option Half → Label
behind None = no_label
behind (Some k) = label_of (fresh k.index k.id k.size)

heads : (h : Half) (o : Option Half) → head_of (blanks (halves h o)) ≡ half_of (label_of (fresh h.index h.id h.size)) ++ half_of (behind o)
unfolding head_of half_of
heads h None = refl
heads h (Some k) = refl

pub image_is : (h : Half) (o : Option Half) (m : Memory) {r : Reach} → r ≡ reach_of (halves h o)
    → blanked (label_of (fresh h.index h.id h.size)) (behind o) r.records r.values m ≡ image_over (blanks (halves h o)) m
image_is h o m e = rw e (blank_image (halves h o) _ _ (heads h o) _ _ m refl refl)
