-- What is read of a descriptor are its limits. Assumes nothing.
use mathlib.Core.Path.{◌≡◌, ◌∙◌}
use mathlib.Core.List.{List}
use Prim.Native.Nat.{ℕ, ◌+◌, ◌-◌, ◌*◌, ◌≤◌, ◌<◌}
use native.Mathlib.Omega.{arith}
use lib.ListN.{length}
use borrow.Author.Tests.{le-leb, lt-leb, lt-ltb, le-ltb}
use Rattle.std.specs.Prelude.{Option, Some, None, unwrap_or}
use Rattle.std.specs.List.{slice_range}
use Rattle.std.specs.Option.{UnwrapsOrElse}
use Rattle.octets.specs.Octets.{part, number}
use Rattle.sheets.specs.declared.identify.Limits.{Limits}
use Rattle.sheets.specs.Identify.{formats_in, limits_in, no_limits, limits_at}

module _ {n : ℕ} (p : List ℕ) (o : ℕ) (e : n ≡ formats_in p) where
  pub limits_none : n ≤ o → no_limits ≡ limits_at p o
  unfolding limits_at
  limits_none h = rw (← e, le-leb n o h)

  module _ (h : o < n) where
    pub limits_past : length p < 88 + 16 * o → no_limits ≡ limits_at p o
    unfolding limits_at
    limits_past q = rw (← e, lt-leb n o h, lt-ltb (length p) (88 + 16 * o) q)

    pub limits_read : {d : List ℕ} {a b c : ℕ} → d ≡ slice_range p (72 + 16 * o) (72 + 16 * o + 16) → a ≡ number (part 0 2 d) → b ≡ number (part 4 4 d)
        → c ≡ number (part 8 4 d) → 88 + 16 * o ≤ length p → record { keymax = a; valuemax = b; maxkeys = c } ≡ limits_at p o
    unfolding limits_at limits_in part
    limits_read ed ea eb ec q =
        let w : 72 + 16 * o + 16 - (72 + 16 * o) ≡ 16 = omega arith in
        rw (← e, lt-leb n o h, le-ltb (length p) (88 + 16 * o) q, ea, eb, ec, ed, w)

-- limits that there are not are zeros
pub limits_or_zeros : (x : Option Limits) {l r : Limits} → unwrap_or x no_limits ≡ l
    → UnwrapsOrElse x (λ z. (z.keymax ≡ 0) × ((z.valuemax ≡ 0) × (z.maxkeys ≡ 0))) r → r ≡ l
limits_or_zeros None e u = rw (u.0, u.1.0, u.1.1) e
limits_or_zeros (Some x) e u = u ∙ e
