-- Formatting from a host's fields is formatting with the numbers that two of them say; no other byte counts (request [2]). Assumes nothing.
use mathlib.Core.Path.{◌≡◌, refl}
use mathlib.Core.List.{List, [], ◌∷◌, ◌++◌}
use Prim.Native.Nat.{ℕ}
use lib.ListN.{length, replicate}
use Rattle.octets.specs.Octets.{part, number, zeros}
use Rattle.sheets.specs.Identify.{asked_index, asked_size}
use Rattle.memory.specs.Memory.{Memory}
use Rattle.formatting.specs.Formatting.{half, format}
use Rattle.identify.specs.Identify.{asked, create}
use Rattle.drivers.specs.Creations.{Agree}

-- of 512 bytes
pub creates : (s : List ℕ) (id : ℕ) (m : Memory) → length s ≡ 512 → create s id m ≡ format (half (asked_index s) id (asked_size s) ∷ []) m
unfolding create
creates s id m l = rw l

pub unread : (s t : List ℕ) (id : ℕ) (m : Memory) → Agree s t → create s id m ≡ create t id m
unfolding create
unread s t id m a =
    let e : asked s id ≡ asked t id = λ i. half (a.index i) id (number (a.size i)) in
    rw (a.long, e)

-- ---- an instance: format 3 and size 4096 with nothing beside them, and with rubbish in all other bytes and bits

abbrev plain : List ℕ
plain = 0x00 ∷ 0x10 ∷ zeros 29 ++ 0x03 ∷ zeros 480

abbrev rubbish : List ℕ
rubbish = 0x00 ∷ 0x10 ∷ zeros 6 ++ replicate 23 0xee ++ 0xd3 ∷ replicate 480 0xee

agree : Agree plain rubbish
unfolding part
agree = record { long = refl; size = refl; index = refl }

alike : (m : Memory) → create plain 1 m ≡ create rubbish 1 m
alike m = unread plain rubbish 1 m agree

says : (asked_index rubbish ≡ 3) × (asked_size rubbish ≡ 4096)
unfolding part number
says = (refl, refl)

same : (m : Memory) → create rubbish 1 m ≡ format (half 3 1 4096 ∷ []) m
unfolding part number
same m = creates rubbish 1 m refl
