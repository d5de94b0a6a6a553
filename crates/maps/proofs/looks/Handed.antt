-- A value handed over and keys listed are those of the map. Assumes nothing.
use mathlib.Core.Path.{◌≡◌, sym, ap, ◌∙◌}
use mathlib.Core.List.{List}
use Prim.Native.Nat.{ℕ, ◌-◌, ◌*◌, ◌<◌}
use native.Mathlib.Omega.{arith}
use lib.ListN.{length, take, drop}
use Rattle.octets.specs.Octets.{put}
use Rattle.keys.specs.Keys.{Key, from}
use Rattle.sheets.specs.Page.{page, fits, shown}
use Rattle.store.specs.declared.finds.Found.{Found}
use Rattle.store.specs.Maps.{Pair, value_of}
use Rattle.store.specs.Records.{value_length, value_in}
use Rattle.store.specs.Finds.{found_key}
use Rattle.store.specs.Slots.{pair_at, CanCopy}
use Rattle.store.proofs.PartsLaws.{records_long, values_long}
use Rattle.store.proofs.SlotLaws.{value_cut, place_at, value_length_at, value_at}
use Rattle.store.proofs.RankLaws.{rank_le, from_rank, length_keys_in}
use Rattle.checking.specs.declared.checks.Checked.{Checked}
use Rattle.memory.specs.Memory.{memory, pairs_at}
use Rattle.maps.specs.Asks.{records_at, values_at, keys_at, Listing, CanHand, CanList}
use Rattle.maps.proofs.LegalLaws.{part_is}
use Rattle.maps.proofs.RoomLaws.{slot_lt, value_is}

module _ {k : Checked} {f : Found} {n : ℕ} {d v b : List ℕ} (c : CanHand k f n d v b) where
  abbrev m : List Pair
  m = pairs_at k.label.id (memory d v)

  inside : f.slot < length m
  inside = slot_lt m c.erases.looked c.erases.held

  value : (pair_at m f.slot).value ≡ value_of (found_key f) m
  value = value_is m c.erases.looked c.erases.held

  pub can_copy : CanCopy f.slot n (records_at k d) (values_at k v) b
  can_copy =
      let p = (part_is c.erases.legal).holds in
      record {
        lies = omega (arith, inside, p.slots, records_long p);
        value = omega (arith, place_at p f.slot inside, value_length_at p f.slot inside, value_cut m f.slot inside, p.room, values_long p);
        room = c.lent;
      }

  pub handed : {r : ℕ} {b' : List ℕ} → (let s = drop (32 * f.slot) (records_at k d) in
      (r ≡ value_length s) × (b' ≡ put 0 (take n (value_in s (values_at k v))) b)
      → (r ≡ length (value_of (found_key f) m)) × (b' ≡ put 0 (take n (value_of (found_key f) m)) b))
  handed e =
      let p = (part_is c.erases.legal).holds in (
        e.0 ∙ value_length_at p f.slot inside ∙ ap length value,
        e.1 ∙ ap (λ (l : List ℕ). put 0 (take n l) b) (value_at p f.slot inside ∙ value),
      )

module _ {k : Checked} {f : Found} {n : ℕ} {d b : List ℕ} (c : CanList k f n d b) where
  pub can_write : Listing k.label.count f.slot n (records_at k d) b
  can_write =
      record {
        keys = c.look.fit;
        begins = omega (arith, c.looked.slot, rank_le (found_key f) (keys_at k d), length_keys_in k.label.count (records_at k d));
        counted = c.counted;
        lent = c.lent;
      }

  pub listed : {b' : List ℕ} → b' ≡ put 0 (page (fits (n - 4) (drop f.slot (keys_at k d)))) b
      → b' ≡ put 0 (page (shown n (found_key f) (keys_at k d))) b
  listed e =
      let same : drop f.slot (keys_at k d) ≡ from (found_key f) (keys_at k d) = rw c.looked.slot (sym (from_rank (found_key f) (keys_at k d))) in
      e ∙ ap (λ (ks : List Key). put 0 (page (fits (n - 4) ks)) b) same
