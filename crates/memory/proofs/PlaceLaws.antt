-- Memory is the image of a list exactly if the head stands in front and the parts of each namespace lie one behind the other. Assumes nothing.
use mathlib.Core.Path.{◌≡◌, refl, sym, ap, ◌∙◌}
use mathlib.Core.List.{List, [], ◌∷◌, ◌++◌, append_assoc}
use Prim.Native.Nat.{ℕ, ◌+◌, ◌*◌, ◌≤◌}
use lib.Seq.{take_at}
use native.Mathlib.Omega.{arith}
use lib.ListN.{length, take, drop, length-take}
use Rattle.octets.specs.Octets.{part}
use Rattle.octets.proofs.PartLaws.{part_two, part_front}
use Rattle.store.specs.Namespace.{Namespace}
use Rattle.store.proofs.NamespaceLaws.{Within as One}
use Rattle.store.proofs.PartsLaws.{held}
use Rattle.legal.proofs.LegalLaws.{Legal}
use Rattle.memory.specs.Namespaces.{joined, total, slots_of, size_of}
use Rattle.memory.specs.Memory.{memory, needed, needed_values, label_of, half_for, records_for, values_for, head_of, directory_of, values_of}
use Rattle.memory.specs.Memory.{label_at, records_in, values_in}
use Rattle.memory.proofs.JoinLaws.{each_at}
use Rattle.memory.proofs.LimitLaws.{Within}
use Rattle.memory.proofs.ImageLaws.{length_head, length_directory, length_values, half_lies, records_lie, values_lie, label_back}
use Rattle.memory.proofs.ImageLaws.{Holds, directory_split, values_split}

-- ---- the parts one behind the other

pub record Lies (s : Namespace) (start base : ℕ) (d v : List ℕ) : Type 0 where
  pub records : part start (32 * slots_of s) d ≡ records_for s
  pub values : part base s.size v ≡ values_for s

abbrev pub Lie : List Namespace → ℕ → ℕ → List ℕ → List ℕ → Type 0
Lie [] start base d v = Unit {0}
Lie (s ∷ ss) start base d v = Lies s start base d v × Lie ss (start + 32 * slots_of s) (base + s.size) d v

records_all : (ss : List Namespace) (start base : ℕ) (d v : List ℕ) → Lie ss start base d v
    → part start (32 * total slots_of ss) d ≡ joined records_for ss
unfolding part
records_all [] start base d v l = refl
records_all (s ∷ ss) start base d v l =
    let n = slots_of s in
    let m = total slots_of ss in
    let e : 32 * (n + m) ≡ 32 * n + 32 * m = omega arith in
    rw (e, part_two start (32 * n) (32 * m) d, l.0.records, records_all ss _ _ d v l.1)

values_all : (ss : List Namespace) (start base : ℕ) (d v : List ℕ) → Lie ss start base d v → part base (total size_of ss) v ≡ joined values_for ss
unfolding part
values_all [] start base d v l = refl
values_all (s ∷ ss) start base d v l = rw (part_two base s.size (total size_of ss) v, l.0.values, values_all ss _ _ d v l.1)

pub parts_hold : (ss : List Namespace) (d v : List ℕ) → Within ss → take 64 d ≡ head_of ss → Lie ss 64 0 d v → Holds ss (memory d v)
unfolding directory_of values_of
parts_hold ss d v w h l =
    record {
      within = w;
      directory = sym (part_front _ d) ∙ part_two 0 64 (32 * total slots_of ss) d ∙ rw (part_front 64 d, h, records_all ss 64 0 d v l);
      values = sym (part_front _ v) ∙ values_all ss 64 0 d v l;
    }

-- ---- and the other way: the one between a and b

module _ (a b : List Namespace) (s : Namespace) {d v : List ℕ} (h : Holds (a ++ s ∷ b) (memory d v)) where
  abbrev ss : List Namespace
  ss = a ++ s ∷ b

  pub within_held : One s
  within_held = each_at One b s a h.within.each

  pub half_held : part (32 * length a) 32 d ≡ half_for s
  half_held = ap (part (32 * length a) 32) (directory_split h) ∙ half_lies a b s (drop (needed ss) d)

  pub label_held : label_at (32 * length a) d ≡ label_of s
  label_held = ap (label_at (32 * length a)) (directory_split h) ∙ label_back a b s (drop (needed ss) d) [] h.within

  pub records_held : records_in (label_of s) (64 + 32 * total slots_of a) d ≡ records_for s
  records_held = ap (part (64 + 32 * total slots_of a) (32 * slots_of s)) (directory_split h) ∙ records_lie a b s (drop (needed ss) d) h.within

  pub values_held : values_in (label_of s) (total size_of a) v ≡ values_for s
  values_held = ap (part (total size_of a) s.size) (values_split h) ∙ values_lie a b s (drop (needed_values ss) v) h.within

  pub part_held : Legal (label_of s) s.pairs (records_in (label_of s) (64 + 32 * total slots_of a) d) (values_in (label_of s) (total size_of a) v)
  part_held = record { within = within_held; holds = held (label_of s) within_held records_held values_held }

-- the slices are as long as what they hold
module _ {ss : List Namespace} {d v : List ℕ} (h : Holds ss (memory d v)) where
  pub directory_long : needed ss ≤ length d
  directory_long = omega (arith, length-take (needed ss) d, ap length h.directory, length_directory ss h.within)

  pub values_long_enough : needed_values ss ≤ length v
  values_long_enough = omega (arith, length-take (needed_values ss) v, ap length h.values, length_values ss h.within.each)

  pub head_held : take 64 d ≡ head_of ss
  unfolding directory_of
  head_held = ap (take 64) (directory_split h) ∙ head_front (joined records_for ss) (drop (needed ss) d)
    where
      head_front : (x t : List ℕ) → take 64 ((head_of ss ++ x) ++ t) ≡ head_of ss
      head_front x t = rw (append_assoc (head_of ss) x t) (take_at (head_of ss) (x ++ t) 64 (length_head ss h.within.two))
