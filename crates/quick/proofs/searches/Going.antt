-- The search at the loop's head: what is left to look at decides the answer, and with what was looked at makes up the count. Assumes nothing.
use mathlib.Core.Path.{◌≡◌}
use mathlib.Core.Bool.{true}
use mathlib.Core.List.{List}
use Prim.Native.Nat.{ℕ, suc, ◌+◌, ◌-◌, ◌*◌, ◌/◌, ◌≤◌, ◌<◌}
use native.Mathlib.Omega.{arith}
use lib.ListN.{length, drop}
use Rattle.std.specs.declared.cmp.Ordering.{Ordering}
use Rattle.std.specs.declared.cmp.Ordering.TheVariants.{Less, Equal, Greater}
use Rattle.keys.specs.declared.orders.Wide.{Wide}
use Rattle.keys.specs.Keys.{order_wide}
use Rattle.store.specs.Records.{wide_in}
use Rattle.quick.specs.Search.{search}
use Rattle.quick.specs.Known.{look_of}
use Rattle.quick.proofs.SearchLaws.{search_less, search_here, search_greater}

-- how the key compares with the one of slot j
abbrev pub met : List ℕ → Wide → ℕ → Ordering
met s w j = order_wide w (wide_in (drop (32 * j) s))

pub record Going (o : ℕ → Ordering) (first count low left looked : ℕ) : Type 0 where
  pub inside : low + left ≤ first + count
  pub fuel : looked + left ≤ count
  pub known : (search (count - looked) o low left).known ≡ (search count o first count).known
  pub looks : looked + length (search (count - looked) o low left).slots ≡ length (search count o first count).slots

module _ {o : ℕ → Ordering} {first count low left looked : ℕ} (g : Going o first count low left looked) where
  module _ (h : 0 < left) where
    fuel : count - looked ≡ suc (count - (looked + 1))
    fuel = omega (arith, g.fuel)

    pub going_found : o (low + left / 2) ≡ Equal → record { number = 0; known = 1; looked = looked + 1 } ≡ look_of 0 (search count o first count)
    going_found e =
        let f = search_here (count - (looked + 1)) o low left h e in
        let k : true ≡ (search count o first count).known = rw (fuel, f) at g.known in
        let l : looked + 1 ≡ length (search count o first count).slots = rw (fuel, f) at g.looks in
        rw (← k, l)

    pub going_down : o (low + left / 2) ≡ Less → Going o first count low (left / 2) (looked + 1)
    going_down e =
        let f = search_less (count - (looked + 1)) o low left h e in
        let l = rw (fuel, f) at g.looks in
        record { inside = omega (arith, g.inside); fuel = omega (arith, g.fuel); known = rw (fuel, f) at g.known; looks = omega arith }

    pub going_up : o (low + left / 2) ≡ Greater → Going o first count (low + left / 2 + 1) (left - (left / 2 + 1)) (looked + 1)
    going_up e =
        let f = search_greater (count - (looked + 1)) o low left h e in
        let l = rw (fuel, f) at g.looks in
        record { inside = omega (arith, g.inside); fuel = omega (arith, g.fuel); known = rw (fuel, f) at g.known; looks = omega arith }

pub ruleset going_laws = (going_found, going_down, going_up)
