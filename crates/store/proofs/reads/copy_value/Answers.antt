use Rattle.std.proofs.Common.{◌≡◌, ℕ, ◌+◌, ◌-◌, min, List, take, drop, sym, ap, ◌∙◌, arith, length-take, take_all, take-take}
use native.Mathlib.Decide.{dec_lt}
use Rattle.octets.specs.Octets.{part, put}
use Rattle.store.proofs.reads.copy_value.Goals as goal

take_min : (m n : ℕ) (xs : List ℕ) → take (min m n) xs ≡ take n (take m xs)
take_min m n xs = elim (dec_lt m n) [
  | yes h ↦ let e : min m n ≡ m = omega arith in rw e (sym (take_all n (take m xs) (omega (arith, length-take m xs))))
  | no h ↦ let e : min m n ≡ n = omega arith in rw e (sym (take-take n m xs (omega arith)))
]

-- the smaller of n and the value's length l, from its place p on
handed : (p r l k n q : ℕ) (vs : List ℕ) → p ≡ r → l ≡ k → q ≡ min l n → take (p + q - p) (drop p vs) ≡ take n (part r k vs)
unfolding part
handed p r l k n q vs f g e =
    let d : p + q - p ≡ min k n = omega arith in
    rw (d, f) (take_min k n (drop r vs))

pub returns : goal.returns
returns c =
    let r = c.read-record.ensures in (
      (λ i. (r i).value_length),
      c.copy_at.ensures
          ∙ ap (λ (x : List ℕ). put 0 x c.args.buffer.now)
          (handed _ _ _ _ c.args.amount _ c.args.values.now (λ i. (r i).place) (λ i. (r i).value_length) c.min-moved.ensures),
    )
