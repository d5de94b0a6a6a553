-- A Store or Delete changes what is held under its own key alone; so two at different keys leave the same namespaces in either order.
-- Assumes nothing.
use mathlib.Core.Path.{◌≡◌, refl, sym, ap, ◌∙◌}
use mathlib.Core.Bool.{Bool, true, false, cond}
use mathlib.Core.List.{List}
use mathlib.Core.Option.{Option, none, some}
use Prim.Native.Nat.{ℕ}
use lib.ListN.{take}
use Rattle.octets.specs.Octets.{same}
use Rattle.keys.specs.Keys.{Key}
use Rattle.octets.proofs.TestLaws.{Known, known, holds, fails, contrary}
use Rattle.octets.proofs.ZeroLaws.{true_same, same_true}
use Rattle.keys.proofs.OrderLaws.{Rising}
use Rattle.wire.specs.declared.entries.Command.{Command}
use Rattle.wire.specs.Entry.{key_of, is_store, is_delete}
use Rattle.store.specs.Maps.{Pair, keys, lookup, insert, erase}
use Rattle.store.specs.Namespace.{Namespace}
use Rattle.store.proofs.MapLaws.{lookup_insert, lookup_insert_other, lookup_erase, lookup_erase_other, insert_rising, erase_rising, map_ext}
use Rattle.memory.specs.Namespaces.{held, at, with}
use Rattle.memory.proofs.NameLaws.{at_same, with_none, with_twice}
use Rattle.commands.specs.Answer.{pairs_after}
use Rattle.module.specs.History.{changed}

-- ---- a change under one key

abbrev Held : Type 0
Held = Option (List ℕ)

-- n is m but for k: there f makes what n holds of what m holds
record Change (k : Key) (f : Held → Held) (m n : List Pair) : Type 0 where
  rising : Rising (keys n)
  own : lookup k n ≡ f (lookup k m)
  other : (j : Key) → ¬ (j ≡ k) → lookup j n ≡ lookup j m

-- what a command that no step refuses makes of what is held under its key
abbrev held_after : Command → List ℕ → Held → Held
held_after c b o = cond (is_store c.opcode) (some (take c.amount b)) (cond (is_delete c.opcode) none o)

change : (c : Command) (b : List ℕ) (m : List Pair) → Rising (keys m) → Change (key_of c) (held_after c b) m (pairs_after c b m)
change c b m r = go (is_store c.opcode) (is_delete c.opcode)
  where
    k : Key
    k = key_of c

    v : List ℕ
    v = take c.amount b

    go : (y z : Bool) → Change k (λ o. cond y (some v) (cond z none o)) m (cond y (insert k v m) (cond z (erase k m) m))
    go true z = record { rising = insert_rising k v m r; own = lookup_insert k v m; other = λ j d. lookup_insert_other j k v m d }
    go false true = record { rising = erase_rising k m r; own = lookup_erase k m r; other = λ j d. lookup_erase_other j k m r d }
    go false false = record { rising = r; own = refl; other = λ j d. refl }

pub other_held : (c : Command) (b : List ℕ) (m : List Pair) (j : Key) → Rising (keys m) → ¬ (j ≡ key_of c) → lookup j (pairs_after c b m) ≡ lookup j m
other_held c b m j r d = (change c b m r).other j d

-- ---- two changes: one argument for all that they can be

module _ {j k : Key} {f g : Held → Held} {m a b c d : List Pair} where
  -- what is held under the first key, in either order
  first_held : ¬ (j ≡ k) → Change j f m a → Change k g a b → Change k g m c → Change j f c d → lookup j b ≡ lookup j d
  first_held n p q r s = q.other j n ∙ p.own ∙ ap f (sym (r.other j n)) ∙ sym s.own

differ : (i j : Key) → same i j ≡ false → ¬ (i ≡ j)
differ i j f e = contrary (sym f ∙ true_same i j e)

module _ {j k : Key} {f g : Held → Held} {m a b c d : List Pair} where
  changes : ¬ (j ≡ k) → Change j f m a → Change k g a b → Change k g m c → Change j f c d → b ≡ d
  changes n p q r s = map_ext b d q.rising s.rising (λ i. go i (known (same i j)) (known (same i k)))
    where
      go : (i : Key) → Known (same i j) → Known (same i k) → lookup i b ≡ lookup i d
      go i (holds e) u = rw (same_true i j e) (first_held n p q r s)
      go i (fails e) (holds h) = rw (same_true i k h) (sym (first_held (λ z. n (sym z)) r s p q))
      go i (fails e) (fails h) =
          q.other i (differ i k h) ∙ p.other i (differ i j e) ∙ sym (r.other i (differ i k h)) ∙ sym (s.other i (differ i j e))

pairs_either : (c d : Command) (b e : List ℕ) (m : List Pair) → Rising (keys m) → ¬ (key_of c ≡ key_of d)
    → pairs_after d e (pairs_after c b m) ≡ pairs_after c b (pairs_after d e m)
pairs_either c d b e m r n =
    let x = change c b m r in
    let y = change d e m r in
    changes n x (change d e _ x.rising) y (change c b _ y.rising)

-- ---- in the namespace n

-- a command on the pairs that n names
abbrev changed_at : ℕ → Command → List ℕ → List Namespace → List Namespace
changed_at n c b ss = with n (pairs_after c b (at n ss).pairs) ss

-- two are the later one on the pairs that the earlier one leaves
twice : (n : ℕ) (ss : List Namespace) (c d : Command) (b e : List ℕ) → held n ss ≡ true
    → changed_at n d e (changed_at n c b ss) ≡ with n (pairs_after d e (pairs_after c b (at n ss).pairs)) ss
twice n ss c d b e h = rw (at_same n (pairs_after c b (at n ss).pairs) ss h) (with_twice n _ _ ss)

both_at : (n : ℕ) (ss : List Namespace) (c d : Command) (b e : List ℕ) → c.nsid ≡ n → d.nsid ≡ n
    → changed d e (changed c b ss) ≡ changed_at n d e (changed_at n c b ss)
both_at n ss c d b e i j = ap (λ (k : ℕ). changed_at k d e (changed c b ss)) j ∙ ap (λ (k : ℕ). changed_at n d e (changed_at k c b ss)) i

at_either : (n : ℕ) (ss : List Namespace) (c d : Command) (b e : List ℕ) → Rising (keys (at n ss).pairs) → ¬ (key_of c ≡ key_of d)
    → changed_at n d e (changed_at n c b ss) ≡ changed_at n c b (changed_at n d e ss)
at_either n ss c d b e r k =
    elim (known (held n ss)) [
      | holds h ↦ twice n ss c d b e h ∙ ap (λ m. with n m ss) (pairs_either c d b e (at n ss).pairs r k) ∙ sym (twice n ss d c e b h)
      | fails h ↦
          let same : (m : List Pair) → with n m ss ≡ ss = λ m. with_none n m ss h in
          ap (changed_at n d e) (same _) ∙ same _ ∙ sym (ap (changed_at n c b) (same _) ∙ same _)
    ]

pub changed_either : (n : ℕ) (ss : List Namespace) (c d : Command) (b e : List ℕ) → Rising (keys (at n ss).pairs) → c.nsid ≡ n → d.nsid ≡ n
    → ¬ (key_of c ≡ key_of d) → changed d e (changed c b ss) ≡ changed c b (changed d e ss)
changed_either n ss c d b e r i j k = both_at n ss c d b e i j ∙ at_either n ss c d b e r k ∙ sym (both_at n ss d c e b j i)
