-- The loop of the page reader. At its head i entries are passed; what is left of the page, the key passed last and the key asked for
-- are at hand. Assumes nothing.
use mathlib.Core.Path.{◌≡◌, refl, sym, ap, ◌∙◌}
use Rattle.std.specs.Prelude.{Ok}
use mathlib.Core.List.{List, [], ◌∷◌, ◌++◌, append_assoc}
use Prim.Native.Nat.{ℕ, zero, suc, ◌+◌, ◌-◌, ◌≤◌, ◌<◌}
use native.Mathlib.Nat.{sub-zero}
use native.Mathlib.Omega.{arith}
use lib.ListN.{length, drop, get_or, length-append}
use lib.Seq.{get_or_at}
use borrow.Author.Tests.{le-ltb, lt-ltb}
use Rattle.octets.specs.Octets.{part, number}
use Rattle.keys.specs.Keys.{Key}
use Rattle.octets.proofs.PartLaws.{length_part, part_rest}
use Rattle.sheets.proofs.PageLaws.{back}
use Rattle.sheets.specs.Page.{entry_size, entry_in, first_entry, Reading, refused, keys, behind, read_entries, read_page}
use Rattle.host.specs.PageKey.{refusal, page_key}

behind_none : (r : Reading) → behind [] r ≡ r
behind_none (refused n) = refl
behind_none (keys ls) = refl

behind_behind : (js ks : List Key) (r : Reading) → behind js (behind ks r) ≡ behind (js ++ ks) r
behind_behind js ks (refused n) = refl
behind_behind js ks (keys ls) = ap keys (sym (append_assoc js ks ls))

-- one more key is the key of no other ordinal than its own
other : (ks : List Key) (k : Key) (o : ℕ) → (o ≡ length ks → ⊥) → get_or (ks ++ (k ∷ [])) o [] ≡ get_or ks o []
other [] k zero h = absurd (h refl)
other [] k (suc o) h = refl
other (j ∷ ks) k zero h = refl
other (j ∷ ks) k (suc o) h = other ks k o (λ e. h (ap suc e))

pub record Passed (p : List ℕ) (o count i : ℕ) (rest last asked : List ℕ) : Type 0 where
  pub within : i ≤ count
  pub few : length asked ≤ 16
  pub seen : List Key
  pub many : length seen ≡ i
  pub found : get_or seen o [] ≡ asked
  pub is : read_page p ≡ behind seen (read_entries (count - i) last rest)

pub page_short : (p : List ℕ) (o : ℕ) → length p < 4 → refusal 7 ≡ page_key (read_page p) o
unfolding read_page
page_short p o h = rw (lt-ltb (length p) 4 h)

pub passed_none : (p : List ℕ) (o count : ℕ) → count ≡ number (part 0 4 p) → 4 ≤ length p → Passed p o count 0 (drop 4 p) [] []
unfolding part read_page
passed_none p o count e h =
    record {
      within = omega arith;
      few = omega arith;
      seen = [];
      many = refl;
      found = refl;
      is = rw (le-ltb (length p) 4 h, sub-zero, e) (sym (behind_none _));
    }

module _ {p : List ℕ} {o count i : ℕ} {rest last asked : List ℕ} (g : Passed p o count i rest last asked) (h : i < count) where
  left : count - i ≡ suc (count - (i + 1))
  left = omega arith

  module _ (n : ℕ) (e : entry_in (Ok n) ≡ first_entry last rest) (fits : (n ≤ 16) × (entry_size n ≤ length rest)) (m : ℕ) (size : m ≡ entry_size n) where
    -- the key of the entry and the rest behind it, as the code lends them
    abbrev k : Key
    k = part 2 (2 + n - 2) rest

    abbrev behind_it : List ℕ
    behind_it = part m (length rest - m) rest

    passed_more : (ks : Key) → get_or (g.seen ++ (k ∷ [])) o [] ≡ ks → length ks ≤ 16 → Passed p o count (i + 1) behind_it k ks
    passed_more ks f l =
        let t : k ≡ part 2 n rest = rw (back n) in
        let d : behind_it ≡ drop (entry_size n) rest = rw size (part_rest (entry_size n) rest) in
        record {
          within = omega arith;
          few = l;
          seen = g.seen ++ (k ∷ []);
          many = simp length-append (omega arith);
          found = f;
          is = rw (t, d) ((rw (left, ← e) at g.is) ∙ behind_behind g.seen (part 2 n rest ∷ []) _);
        }

    pub passed_asked : i ≡ o → Passed p o count (i + 1) behind_it k k
    passed_asked b = passed_more k (get_or_at g.seen k [] [] o (omega arith)) (omega (arith, length_part 2 (2 + n - 2) rest (omega arith)))

    pub passed_other : (i ≡ o → ⊥) → Passed p o count (i + 1) behind_it k asked
    passed_other b = passed_more asked (other g.seen k o (λ f. b (omega arith)) ∙ g.found) g.few
