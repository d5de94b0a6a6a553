-- What stands where in the bytes of several namespaces, one behind the other: the bytes of each are found and put at the sum of the
-- lengths before them. Assumes nothing.
use mathlib.Core.Path.{◌≡◌, refl, sym, ◌∙◌}
use mathlib.Core.List.{List, [], ◌∷◌, ◌++◌, append_assoc}
use Prim.Native.Nat.{ℕ, ◌+◌, ◌*◌}
use native.Mathlib.Omega.{arith}
use lib.ListN.{length, take, drop, length-append}
use lib.Seq.{drop-drop}
use borrow.Rule.Slice.PartMut.{put_mid}
use Rattle.octets.specs.Octets.{part, put}
use Rattle.octets.proofs.PartLaws.{put_seam, part_seam}
use Rattle.store.specs.Namespace.{Namespace}
use Rattle.memory.specs.Namespaces.{joined, total}

-- a part that was lent and came back as long as it was
pub put_mid_law : (a k : ℕ) (xs ys : List ℕ) → length ys ≡ k → put_mid a k xs ys ≡ put a ys xs
unfolding put
put_mid_law a k xs ys e = rw (e, drop-drop k a xs) (sym (append_assoc (take a xs) ys (drop (a + k) xs)))

-- P holds of each
abbrev pub Each : (Namespace → Type 0) → List Namespace → Type 0
Each P [] = Unit {0}
Each P (s ∷ ss) = P s × Each P ss

-- what holds of each holds of the one between a and b, and of each where another such stands there
module _ (P : Namespace → Type 0) (b : List Namespace) (s : Namespace) where
  pub each_at : (a : List Namespace) → Each P (a ++ s ∷ b) → P s
  each_at [] e = e.0
  each_at (x ∷ a) e = each_at a e.1

  pub each_before : (a : List Namespace) → Each P (a ++ s ∷ b) → Each P a
  each_before [] e = tt
  each_before (x ∷ a) e = (e.0, each_before a e.1)

  pub each_set : (a : List Namespace) (t : Namespace) → P t → Each P (a ++ s ∷ b) → Each P (a ++ t ∷ b)
  each_set [] t p e = (p, e.1)
  each_set (x ∷ a) t p e = (e.0, each_set a t p e.1)

-- a slot has 32 bytes
pub total_slots : (f : Namespace → ℕ) (ss : List Namespace) → total (λ s. 32 * f s) ss ≡ 32 * total f ss
total_slots f [] = refl
total_slots f (s ∷ ss) = rw (total_slots f ss) (omega arith)

module _ (f : Namespace → List ℕ) where
  pub length_joined : (P : Namespace → Type 0) (g : Namespace → ℕ) → ((s : Namespace) → P s → length (f s) ≡ g s) → (ss : List Namespace) → Each P ss
      → length (joined f ss) ≡ total g ss
  length_joined P g h [] e = refl
  length_joined P g h (s ∷ ss) e = rw (length-append (f s) (joined f ss), h s e.0, length_joined P g h ss e.1)

  joined_at : (a b : List Namespace) (s : Namespace) → joined f (a ++ s ∷ b) ≡ joined f a ++ f s ++ joined f b
  joined_at [] b s = refl
  joined_at (x ∷ a) b s = rw (joined_at a b s) (simp append_assoc)

  opened : (p t : List ℕ) (a b : List Namespace) (s : Namespace) → p ++ joined f (a ++ s ∷ b) ++ t ≡ (p ++ joined f a) ++ f s ++ (joined f b ++ t)
  opened p t a b s = rw (joined_at a b s) (simp append_assoc)

  -- between p and t, at a place and a length that are known by numbers
  module _ (p t : List ℕ) (a b : List Namespace) (s : Namespace) (n k : ℕ) (place : length p + length (joined f a) ≡ n) (size : length (f s) ≡ k) where
    pub part_joined : part n k (p ++ joined f (a ++ s ∷ b) ++ t) ≡ f s
    part_joined = rw (opened p t a b s, ← place, ← size, ← length-append p (joined f a)) (part_seam (p ++ joined f a) (f s) (joined f b ++ t))

    pub put_joined : (r : Namespace) → length (f r) ≡ k → put n (f r) (p ++ joined f (a ++ s ∷ b) ++ t) ≡ p ++ joined f (a ++ r ∷ b) ++ t
    put_joined r h =
        rw (opened p t a b s, opened p t a b r, ← place, ← length-append p (joined f a))
        (put_seam (p ++ joined f a) (f s) (joined f b ++ t) (f r) (h ∙ sym size))

pub total_at : (f : Namespace → ℕ) (a b : List Namespace) (s : Namespace) → total f (a ++ s ∷ b) ≡ total f a + (f s + total f b)
total_at f [] b s = omega arith
total_at f (x ∷ a) b s = rw (total_at f a b s) (omega arith)
