-- What a command has that no step refuses: a named fact for each row of the table, so that a new row moves none of them.
-- Assumes nothing.
use mathlib.Core.Path.{◌≡◌, refl}
use mathlib.Core.Bool.{Bool, true, false, not, ◌&&◌, ◌||◌, and-true}
use Prim.Native.Nat.{ℕ, ◌+◌, ◌-◌, ◌≤◌, ◌<◌}
use native.Mathlib.Omega.{arith}
use lib.Dec.{leb, ltb, eqb, ltb→lt}
use lib.ListN.{drop}
use borrow.Author.Tests.{ltb-false, eqb-true, eqb-false, not-false}
use Rattle.octets.specs.Octets.{all_zero}
use Rattle.octets.specs.Tests.{first_of}
use Rattle.octets.proofs.TestLaws.{neither, None, none_holds, none_parts, first_each}
use Rattle.wire.specs.declared.entries.Command.{Command}
use Rattle.wire.specs.Entry.{key_of, is_store, is_retrieve, is_list, is_delete, is_exist, known, if_present, if_absent}
use Rattle.store.specs.Namespace.{Namespace}
use Rattle.rules.specs.declared.steps.View.{View}
use Rattle.rules.specs.declared.steps.Stock.{Stock}
use Rattle.rules.specs.Steps.{steps_to_h, steps_from_i, steps, view_of, stock_of, status_of}

pub record PassedToH (v : View) (c : Command) : Type 0 where
  -- a
  pub legal : v.legal ≡ true
  -- b
  pub opcode : known c.opcode ≡ true
  -- c
  pub fused : c.fused ≡ 0
  -- d
  pub same : c.nsid ≡ v.id
  -- e
  pub sixteen : c.len ≤ 16
  pub clear : all_zero (drop c.len c.key) ≡ true
  -- f
  pub short : c.len ≤ v.format.keymax
  pub some : is_list c.opcode ≡ false → 1 ≤ c.len
  -- g
  pub value : is_store c.opcode ≡ true → c.amount ≤ v.format.valuemax
  pub counted : is_list c.opcode ≡ true → 4 ≤ c.amount
  -- h
  pub lent : (is_store c.opcode || is_retrieve c.opcode || is_list c.opcode) ≡ true → c.amount ≤ v.room

pub record Passed (v : View) (u : Stock) (c : Command) : Type 0 where
  pub early : PassedToH v c
  -- i
  pub held : (is_retrieve c.opcode || is_delete c.opcode || is_exist c.opcode || if_present c) ≡ true → u.held ≡ true
  pub absent : if_absent c ≡ true → u.held ≡ false
  -- j
  pub slot : is_store c.opcode ≡ true → (not u.held && leb u.maxkeys u.count) ≡ false
  pub room : is_store c.opcode ≡ true → u.used - u.old + c.len + c.amount ≤ u.size

right_false : (a b : Bool) → (a && b) ≡ false → a ≡ true → b ≡ false
right_false true b e h = e
right_false false b e h = cc

pub passed_to_h : (v : View) (c : Command) → None (steps_to_h v c) → PassedToH v c
passed_to_h v c a =
    let b = a.1 in
    let cc = b.1 in
    let d = cc.1 in
    let e = d.1 in
    let e2 = e.1 in
    let f = e2.1 in
    let g = f.1 in
    let g2 = g.1 in
    let h = g2.1 in
    let key = neither (ltb v.format.keymax c.len) (eqb c.len 0 && not (is_list c.opcode)) f.0 in
    record {
      legal = not-false v.legal a.0;
      opcode = not-false (known c.opcode) b.0;
      fused = eqb-true c.fused 0 (not-false _ cc.0);
      same = eqb-true c.nsid v.id (not-false _ d.0);
      sixteen = ltb-false 16 c.len e.0;
      clear = not-false (all_zero (drop c.len c.key)) e2.0;
      short = ltb-false v.format.keymax c.len key.0;
      some = λ o. let z : eqb c.len 0 ≡ false = rw (o, and-true) at key.1 in omega (arith, eqb-false);
      value = λ o. ltb-false v.format.valuemax c.amount (right_false _ _ g.0 o);
      counted = λ o. ltb-false c.amount 4 (right_false _ _ g2.0 o);
      lent = λ o. ltb-false v.room c.amount (right_false _ _ h.0 o);
    }

pub passed : (v : View) (u : Stock) (c : Command) → first_of (steps v u c) ≡ 0 → Passed v u c
unfolding steps
passed v u c none =
    let parts = none_parts (steps_to_h v c) (steps_from_i u c) (none_holds (steps v u c) tt none) in
    let i = parts.1 in
    let i2 = i.1 in
    let j = i2.1 in
    record {
      early = passed_to_h v c parts.0;
      held = λ o. not-false u.held (right_false _ _ i.0 o);
      absent = right_false _ _ i2.0;
      slot = λ o. (neither slots room (right_false _ _ j.0 o)).0;
      room = λ o. ltb-false u.size (u.used - u.old + c.len + c.amount) (neither slots room (right_false _ _ j.0 o)).1;
    }
  where
    slots : Bool
    slots = not u.held && leb u.maxkeys u.count

    room : Bool
    room = ltb u.size (u.used - u.old + c.len + c.amount)

pub status_byte : (ok : Bool) (s : Namespace) (c : Command) (n : ℕ) → status_of ok s c n < 256
unfolding status_of steps
status_byte ok s c n = ltb→lt _ 256 (first_each (λ k. ltb k 256) (steps (view_of ok s n) (stock_of s (key_of c)) c) tt tt)

-- memory that is not legal is answered with 06h, and none other is
pub illegal : (s : Namespace) (c : Command) (n : ℕ) → status_of false s c n ≡ 0x06
unfolding status_of steps
illegal s c n = refl

pub never_06h : (s : Namespace) (c : Command) (n : ℕ) → status_of true s c n ≡ 0x06 → ⊥
unfolding status_of steps
never_06h s c n e =
    let other : ℕ → Bool = λ k. not (eqb k 0x06) in
    rw e at (first_each other (drop 1 (steps (view_of true s n) (stock_of s (key_of c)) c)) tt tt)
