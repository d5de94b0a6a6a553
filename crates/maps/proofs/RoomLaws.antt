-- The pair that a key looked up holds: its slot, its value, and its room, which is part of the sum that the check has made. Assumes nothing.
use mathlib.Core.Path.{◌≡◌, refl, sym, ap, ◌∙◌}
use mathlib.Core.Bool.{true}
use mathlib.Core.List.{List, []}
use Prim.Native.Nat.{ℕ, ◌-◌, ◌≤◌, ◌<◌}
use native.Mathlib.Omega.{arith}
use lib.ListN.{length, length-take}
use Rattle.octets.proofs.TestLaws.{known, holds, fails}
use Rattle.store.specs.declared.finds.Found.{Found}
use Rattle.store.specs.Maps.{Pair, pair, keys, erase, present, value_of, used, held_room}
use Rattle.store.specs.Finds.{found, found_key}
use Rattle.store.specs.Slots.{pair_at}
use Rattle.store.proofs.CountLaws.{erase_used}
use Rattle.store.proofs.SlotLaws.{value_length_at}
use Rattle.store.proofs.RankLaws.{rank_le, rank_held, length_keys, value_held, has_present}
use Rattle.checking.specs.declared.checks.Checked.{Checked}
use Rattle.memory.specs.Memory.{memory, pairs_at}
use Rattle.maps.specs.Asks.{keys_at, room_at, Legal, Looked, CanWeigh}
use Rattle.maps.proofs.LegalLaws.{keys_are, count_is, part_is, pairs_are_its}

module _ {f : Found} (m : List Pair) (l : Looked f (keys m)) where
  pub slot_le : f.slot ≤ length m
  slot_le = omega (arith, l.slot, rank_le (found_key f) (keys m), length_keys m)

  module _ (h : f.held ≡ true) where
    pub slot_lt : f.slot < length m
    slot_lt = omega (arith, l.slot, rank_held (found_key f) m (sym l.held ∙ h))

    pub value_is : (pair_at m f.slot).value ≡ value_of (found_key f) m
    value_is = rw l.slot (sym (value_held (found_key f) m (pair [] []) (sym l.held ∙ h)))

-- a key found in the part that k names is found in the map
pub looked_in : {k : Checked} {f : Found} {d v : List ℕ} → Legal k d v → (key : List ℕ) (n : ℕ) → length key ≡ 16 → n ≤ 16 → f ≡ found key n (keys_at k d)
    → Looked f (keys (pairs_at k.label.id (memory d v)))
looked_in g key n l h e = rw (e, keys_are g) (record { held = refl; slot = refl; short = h; sixteen = l })

-- in legal memory what the slot says is what the map says, and the sum has it in it
module _ {k : Checked} {f : Found} {d v : List ℕ} (g : Legal k d v) (l : Looked f (keys (pairs_at k.label.id (memory d v)))) where
  abbrev m : List Pair
  m = pairs_at k.label.id (memory d v)

  pub room_is : room_at k f d ≡ held_room (found_key f) m
  room_is =
      let same : present (found_key f) m ≡ f.held = sym (l.held ∙ has_present (found_key f) m) in
      elim (known f.held) [
        | fails e ↦ rw (same, e)
        | holds e ↦
            let n = value_length_at (part_is g).holds f.slot (slot_lt m l e) ∙ ap length (value_is m l e) in
            rw (same, e) (omega (arith, n, length-take f.len f.key, l))
      ]

  sum_is : k.label.used ≡ used m
  sum_is = rw (pairs_are_its g, g.is)

  -- what the sum is without it
  pub sum_without : k.label.used - room_at k f d ≡ used (erase (found_key f) m)
  sum_without = omega (arith, sum_is, room_is, erase_used (found_key f) m)

  pub can_weigh : CanWeigh k f d
  can_weigh =
      record {
        look = g.look;
        slot = λ h. omega (arith, slot_lt m l h, count_is g);
        sum = omega (arith, sum_is, room_is, erase_used (found_key f) m);
      }
