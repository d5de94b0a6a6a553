-- The loop of `write_list`: the keys still to come, written behind the entries that stand, give the whole page. Assumes nothing.
use mathlib.Core.Path.{◌≡◌, refl, sym, ap, ◌∙◌}
use mathlib.Core.Bool.{true}
use mathlib.Core.List.{List, [], ◌∷◌}
use Prim.Native.Nat.{ℕ, suc, ◌+◌, ◌-◌, ◌*◌, ◌≤◌, ◌<◌}
use native.Mathlib.Numerals.{add-one}
use native.Mathlib.Omega.{arith}
use lib.ListN.{length, take, drop, length-drop, drop_of_length-le}
use lib.Seq.{length-take-le, drop-cons, take-take}
use borrow.Rule.Slice.PartMut.{put_mid}
use Rattle.keys.specs.Keys.{Key}
use Rattle.octets.specs.Octets.{part, put, bytes, all_zero}
use Rattle.octets.proofs.PartLaws.{length_put, lent_put}
use Rattle.sheets.specs.Page.{entry_size, page_entry, page, fits}
use Rattle.sheets.proofs.PageLaws.{length_entry, fits_stop, written, written_all, written_done, written_next}
use Rattle.store.specs.Records.{key_length}
use Rattle.store.specs.Finds.{keys_in, KeyFits}
use Rattle.store.proofs.RankLaws.{length_keys_in, key_at}
use Rattle.maps.specs.Asks.{Listing}

-- the record of a slot
abbrev pub slot_at : ℕ → List ℕ → List ℕ
slot_at j s = drop (32 * j) s

keys_next : (n j : ℕ) (s : List ℕ) → j < n → drop j (keys_in n s) ≡ take (key_length (slot_at j s)) (slot_at j s) ∷ drop (suc j) (keys_in n s)
keys_next n j s h =
    drop-cons (keys_in n s) j [] (omega (arith, length_keys_in n s)) ∙ ap (λ (k : Key). k ∷ drop (suc j) (keys_in n s)) (key_at n j s h)

-- b with the page of the keys from a slot on, as much of it as `size` bytes hold
abbrev pub listing : (count slot size : ℕ) (s b : List ℕ) → List ℕ
listing count slot size s b = put 0 (page (fits (size - 4) (drop slot (keys_in count s)))) b

-- the entries of the keys from the slot on, up to slot j, stand before index `at` of b
pub record Listed (count slot size : ℕ) (s b₀ : List ℕ) (at j : ℕ) (b : List ℕ) : Type 0 where
  pub asked : Listing count slot size s b₀
  pub first : slot ≤ j
  pub last : j ≤ count
  pub behind : 4 ≤ at
  pub before : at ≤ size
  pub same : length b ≡ length b₀
  pub is : written (j - slot) at (size - at) (drop j (keys_in count s)) b ≡ listing count slot size s b₀

module _ {count slot size : ℕ} {s b₀ : List ℕ} where
  pub listed_none : Listing count slot size s b₀ → Listed count slot size s b₀ 4 slot b₀
  listed_none l =
      let e : slot - slot ≡ 0 = omega arith in
      record {
        asked = l;
        first = omega arith;
        last = omega arith;
        behind = omega arith;
        before = omega arith;
        same = refl;
        is = rw e (written_all b₀ (drop slot (keys_in count s)) size (omega arith) (omega arith));
      }

  module _ {at j : ℕ} {b : List ℕ} (l : Listed count slot size s b₀ at j b) where
    listed_done : fits (size - at) (drop j (keys_in count s)) ≡ [] → put 0 (bytes 4 (j - slot)) b ≡ listing count slot size s b₀
    listed_done e = sym (written_done b (drop j (keys_in count s)) (j - slot) at (size - at) e) ∙ l.is

    pub listed_all : count ≤ j → put 0 (bytes 4 (count - slot)) b ≡ listing count slot size s b₀
    listed_all h =
        let n : length (keys_in count s) ≤ j = omega (arith, length_keys_in count s) in
        let e : count - slot ≡ j - slot = omega arith in
        rw e (listed_done (rw (drop_of_length-le (keys_in count s) n)))

    -- the next key has n bytes, and its entry d
    module _ (n d : ℕ) (e : n ≡ key_length (slot_at j s)) (f : d ≡ entry_size n) (h : j < count) where
      fit : KeyFits (slot_at j s)
      fit = l.asked.keys.fit j h

      abbrev key : List ℕ
      key = take n (slot_at j s)

      the_size : entry_size (length key) ≡ d
      the_size =
          let short : n ≤ 16 = rw e fit.short in
          rw (length-take-le n (slot_at j s) (omega (arith, length-drop (32 * j) s, l.asked.keys.lie))) (sym f)

      here : drop j (keys_in count s) ≡ key ∷ drop (suc j) (keys_in count s)
      here = rw (← e) at (keys_next count j s h)

      pub listed_full : size - at < d → put 0 (bytes 4 (j - slot)) b ≡ listing count slot size s b₀
      listed_full g = listed_done (rw here (fits_stop (size - at) key (drop (suc j) (keys_in count s)) (rw the_size g)))

      sixteen : 32 * j + 16 - 32 * j ≡ 16
      sixteen = omega arith

      pub listed_padded : all_zero (drop n (take (32 * j + 16 - 32 * j) (slot_at j s))) ≡ true
      unfolding part
      listed_padded = rw (sixteen, e) fit.padded

      pub listed_more : (ys : List ℕ) → ys ≡ put 0 (page_entry (take n (take (32 * j + 16 - 32 * j) (slot_at j s)))) (part at (size - at) b)
          → d ≤ size - at → Listed count slot size s b₀ (at + d) (j + 1) (put_mid at (size - at) b ys)
      listed_more ys q g =
          let ks = drop (suc j) (keys_in count s) in
          let r = size - at in
          let o : take n (take (32 * j + 16 - 32 * j) (slot_at j s)) ≡ key = rw sixteen (take-take n 16 (slot_at j s) (rw e fit.short)) in
          let long : length (page_entry key) ≡ d = length_entry key ∙ the_size in
          let z : put_mid at r b ys ≡ put at (page_entry key) b =
          lent_put at r (page_entry key) b (rw o at q) (omega arith) (omega arith) in
          let w = sym (written_next b ks (j - slot) at r key (rw the_size g) (omega arith)) ∙ rw here at l.is in
          let u : j + 1 - slot ≡ j - slot + 1 = omega arith in
          let v : size - (at + d) ≡ r - d = omega arith in
          record {
            asked = l.asked;
            first = omega arith;
            last = omega arith;
            behind = omega arith;
            before = omega arith;
            same = rw z (length_put at (page_entry key) b (omega arith) ∙ l.same);
            is = rw (z, u, v, add-one j) (rw the_size at w);
          }
