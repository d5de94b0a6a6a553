-- What the halves ask for, and the run by that. Assumes nothing.
use mathlib.Core.Path.{◌≡◌, sym, ◌∙◌}
use mathlib.Core.Bool.{true, false, ◌||◌}
use Prim.Native.Nat.{ℕ, ◌+◌, ◌*◌, ◌≤◌, ◌<◌}
use native.Mathlib.Omega.{arith}
use lib.Dec.{ltb, eqb}
use borrow.Author.Tests.{eqb-true, le-leb, lt-leb, leb-true, le-ltb, ltb-false}
use Rattle.std.specs.Prelude.{Ok, Err}
use Rattle.refusals.specs.declared.numbers.Refusal.{Refusal}
use Rattle.refusals.specs.declared.numbers.Refusal.TheVariants.{SliceLength}
use Rattle.refusals.specs.Refusals.{number_of}
use Rattle.octets.specs.Tests.{all}
use Rattle.octets.proofs.TestLaws.{known, holds, fails, refuted, contrary, neither, All, all_true, true_all}
use Rattle.table.specs.Formats.{slots}
use Rattle.store.specs.declared.namespaces.Label.{Label}
use Rattle.store.proofs.NamespaceLaws.{format_bounds}
use Rattle.quick.specs.declared.heads.Claim.{Claim}
use Rattle.quick.specs.Heads.{slots_by, size_by, sound_tests, sound, claim_of, need_tests, no_run, chosen, run_by}

-- ---- a half that may ask for what it does

pub record Sound (h : Label) : Type 0 where
  pub slots : slots_by h ≤ 1024
  pub size : size_by h ≤ 65536
  pub count : ¬ (h.id ≡ 0) → h.count ≤ slots_by h

pub sound_is : (h : Label) → sound h ≡ true → Sound h
sound_is h e =
    elim (known (eqb h.id 0)) [
      | holds f ↦
          record { slots = rw f (omega arith); size = rw f (omega arith); count = λ n. absurd (n (eqb-true h.id 0 f)) }
      | fails f ↦
          let a = all_true (sound_tests h) (rw f at e) in
          let i = format_bounds h.index (leb-true h.index 15 a.0) in
          record {
            slots = rw f (omega (arith, i));
            size = rw f (leb-true h.size 65536 a.1.1.0);
            count = λ n. rw f (leb-true h.count (slots h.index) a.1.1.1.0);
          }
    ]

-- ---- what code is told of a half

pub record Claimed (h : Label) (a : Claim) : Type 0 where
  pub sound : sound h ≡ true
  pub slots : a.slots ≡ slots_by h
  pub size : a.size ≡ size_by h
  pub may : Sound h

pub claimed : {a : Claim} (h : Label) → Ok a ≡ claim_of h → Claimed h a
unfolding claim_of
claimed {a} h p =
    elim (known (sound h)) [
      | holds f ↦
          let e : Ok a ≡ Ok (record { slots = slots_by h; size = size_by h }) = rw f at p in
          record { sound = f; slots = cc; size = cc; may = sound_is h f }
      | fails f ↦ let e = rw f at p in cc
    ]

pub claims_small : {a b : Claim} (h t : Label) → Ok a ≡ claim_of h → Ok b ≡ claim_of t → (a.slots + b.slots ≤ 2048) × (a.size + b.size ≤ 131072)
claims_small h t p q =
    let x = claimed h p in
    let y = claimed t q in
    (omega (arith, x.slots, y.slots, x.may.slots, y.may.slots), omega (arith, x.size, y.size, x.may.size, y.may.size))

pub unclaimed : {r : Refusal} (h : Label) → Err r ≡ claim_of h → (sound h ≡ false) × (r ≡ SliceLength)
unfolding claim_of
unclaimed h p = elim (known (sound h)) [ holds f ↦ let e = rw f at p in cc | fails f ↦ let e = rw f at p in (f, cc) ]

module _ (id : ℕ) (h t : Label) (d v : ℕ) where
  pub run_6 : (All (need_tests h t d v) → ⊥) → no_run 6 ≡ run_by id h t d v
  unfolding run_by
  run_6 n = rw (refuted (all (need_tests h t d v)) (λ e. n (all_true (need_tests h t d v) e)))

  pub short_head : d < 64 → no_run 6 ≡ run_by id h t d v
  unfolding run_by
  short_head l = rw (lt-leb 64 d l)

  -- slices as long as the halves ask for
  pub run_by_law : sound h ≡ true → sound t ≡ true → 64 + 32 * (slots_by h + slots_by t) ≤ d → size_by h + size_by t ≤ v → run_by id h t d v ≡ chosen id h t
  unfolding run_by
  run_by_law e f p q =
      rw (true_all (need_tests h t d v) (le-leb 64 d (omega arith), (e, (f, (le-leb _ d p, (le-leb _ v q, tt))))))

module _ (id : ℕ) (h t : Label) (d v : ℕ) where
  pub first_6 : {r : Refusal} → Err r ≡ claim_of h → no_run (number_of r) ≡ run_by id h t d v
  first_6 p = let u = unclaimed h p in rw u.1 (run_6 id h t d v (λ n. contrary (sym u.0 ∙ n.1.0)))

  pub second_6 : {r : Refusal} → Err r ≡ claim_of t → no_run (number_of r) ≡ run_by id h t d v
  second_6 p = let u = unclaimed t p in rw u.1 (run_6 id h t d v (λ n. contrary (sym u.0 ∙ n.1.1.0)))

  module _ {a b : Claim} (p : Ok a ≡ claim_of h) (q : Ok b ≡ claim_of t) where
    pub claims : Claimed h a × Claimed t b
    claims = (claimed h p, claimed t q)

    pub short_6 : (ltb d (64 + 32 * (a.slots + b.slots)) || ltb v (a.size + b.size)) ≡ true → no_run 6 ≡ run_by id h t d v
    short_6 l =
        run_6 id h t d v
        (λ n.
        let x = le-ltb d (64 + 32 * (slots_by h + slots_by t)) (leb-true _ d n.1.1.1.0) in
        let y = le-ltb v (size_by h + size_by t) (leb-true _ v n.1.1.1.1.0) in
        contrary (rw (claims.0.slots, claims.0.size, claims.1.slots, claims.1.size, x, y) at l))

    pub chosen_run : (ltb d (64 + 32 * (a.slots + b.slots)) || ltb v (a.size + b.size)) ≡ false → chosen id h t ≡ run_by id h t d v
    chosen_run l =
        let n = neither (ltb d (64 + 32 * (a.slots + b.slots))) (ltb v (a.size + b.size)) l in
        let x = ltb-false d _ n.0 in
        let y = ltb-false v _ n.1 in
        sym (run_by_law id h t d v claims.0.sound claims.1.sound (rw (claims.0.slots, claims.1.slots) at x)
        (rw (claims.0.size, claims.1.size) at y))

pub ruleset run_laws = (claimed, short_head, first_6, second_6, short_6, chosen_run)
