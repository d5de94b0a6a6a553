-- The image of one or two namespaces: its lengths, where each one's half and parts lie, and that it is read back; legal memory and the image of
-- some list within the limits are one and the same; one namespace has the image that it had alone. Assumes nothing.
use mathlib.Core.Path.{◌≡◌, refl, sym, ap, ap₂, ◌∙◌}
use mathlib.Core.Bool.{true}
use mathlib.Core.List.{List, [], ◌∷◌, ◌++◌, append_assoc, append-nil}
use Prim.Native.Nat.{ℕ, ◌+◌, ◌-◌, ◌*◌, ◌≤◌}
use native.Mathlib.Nat.{add-zero}
use native.Mathlib.Omega.{arith}
use lib.ListN.{length, take, drop, length-append, take-append-drop}
use lib.Seq.{take_at}
use borrow.Author.Tests.{ne_eqb}
use Rattle.octets.specs.Octets.{part, put, number, zeros}
use Rattle.octets.proofs.TestLaws.{all_true}
use Rattle.octets.proofs.PartLaws.{put_front}
use Rattle.octets.proofs.NumberLaws.{number_bytes}
use Rattle.octets.proofs.ZeroLaws.{same_self, same_true, length_filled}
use Rattle.store.specs.declared.namespaces.Label.{Label}
use Rattle.store.specs.Maps.{used}
use Rattle.store.specs.Namespace.{Namespace, with_pairs}
use Rattle.store.specs.Records.{records_part, values_part}
use Rattle.store.specs.Parts.{Holds as Parts}
use Rattle.store.proofs.NamespaceLaws.{Within as One, format_bounds}
use Rattle.store.proofs.PartsLaws.{records_long, values_long, pairs_held, held}
use Rattle.memory.specs.Namespaces.{joined, total, slots_of, size_of}
use Rattle.memory.specs.Memory.{Memory, memory, needed, needed_values, half_of, label_of, half_for, records_for, values_for, head_of, directory_of, values_of}
use Rattle.memory.specs.Memory.{image_over, label_in, label_at, namespace_at, namespaces_of, image_tests, legal}
use Rattle.memory.proofs.JoinLaws.{Each, each_at, each_before, total_slots, length_joined, part_joined}
use Rattle.memory.proofs.LimitLaws.{Within, all_within_law, within_all}

-- ---- lengths

pub length_half : (h : Label) → length (half_of h) ≡ 32
unfolding half_of
length_half h = refl

pub parts_of : (s : Namespace) → One s → Parts s.id (32 * slots_of s) s.size s.pairs (records_for s) (values_for s)
parts_of s w = held (label_of s) w refl refl

pub length_records : (s : Namespace) → One s → length (records_for s) ≡ 32 * slots_of s
length_records s w = records_long (parts_of s w)

pub length_values_part : (s : Namespace) → One s → length (values_for s) ≡ s.size
length_values_part s w = values_long (parts_of s w)

pub length_halves : (ss : List Namespace) → length (joined half_for ss) ≡ 32 * length ss
length_halves [] = refl
length_halves (s ∷ ss) = rw (length-append (half_for s) (joined half_for ss), length_half (label_of s), length_halves ss) (omega arith)

pub length_head : (ss : List Namespace) → length ss ≤ 2 → length (head_of ss) ≡ 64
unfolding head_of
length_head ss h = let l = length_halves ss in length_filled 64 (joined half_for ss) (omega arith)

pub length_records_all : (ss : List Namespace) → Each One ss → length (joined records_for ss) ≡ 32 * total slots_of ss
length_records_all ss w = length_joined records_for One (λ s. 32 * slots_of s) length_records ss w ∙ total_slots slots_of ss

pub length_values : (ss : List Namespace) → Each One ss → length (values_of ss) ≡ needed_values ss
unfolding values_of
length_values = length_joined values_for One size_of length_values_part

pub length_directory : (ss : List Namespace) → Within ss → length (directory_of ss) ≡ needed ss
unfolding directory_of
length_directory ss w = rw (length-append (head_of ss) (joined records_for ss), length_head ss w.two, length_records_all ss w.each)

-- ---- one namespace has the image that it had alone, before there could be two

pub one_directory : (s : Namespace) → directory_of (s ∷ []) ≡ (half_of (label_of s) ++ zeros 32) ++ records_part s.id (32 * slots_of s) s.pairs
unfolding directory_of head_of half_of
one_directory s = rw append-nil

pub one_values : (s : Namespace) → values_of (s ∷ []) ≡ values_part s.size s.pairs
unfolding values_of
one_values s = append-nil (values_for s)

-- ---- where the half and the parts of the namespace between a and b lie, whatever stands behind

-- the halves stand in front
pub directory_opened : (ss : List Namespace) (t : List ℕ)
    → directory_of ss ++ t ≡ joined half_for ss ++ (zeros (64 - length (joined half_for ss)) ++ (joined records_for ss ++ t))
unfolding directory_of head_of
directory_opened ss t = simp append_assoc

module _ (a b : List Namespace) (s : Namespace) (t : List ℕ) where
  pub half_lies : part (32 * length a) 32 (directory_of (a ++ s ∷ b) ++ t) ≡ half_for s
  half_lies =
      let l = length_halves a in
      rw (directory_opened (a ++ s ∷ b) t) (part_joined half_for [] _ a b s (32 * length a) 32 (omega arith) (length_half (label_of s)))

  module _ (w : Within (a ++ s ∷ b)) where
    pub records_lie : part (64 + 32 * total slots_of a) (32 * slots_of s) (directory_of (a ++ s ∷ b) ++ t) ≡ records_for s
    unfolding directory_of
    records_lie =
        let h = length_head (a ++ s ∷ b) w.two in
        let l = length_records_all a (each_before One b s a w.each) in
        part_joined records_for (head_of (a ++ s ∷ b)) t a b s _ _ (omega arith) (length_records s (each_at One b s a w.each))

    pub values_lie : part (total size_of a) s.size (values_of (a ++ s ∷ b) ++ t) ≡ values_for s
    unfolding values_of
    values_lie =
        let l = length_values a (each_before One b s a w.each) in
        part_joined values_for [] t a b s _ _ (omega arith) (length_values_part s (each_at One b s a w.each))

-- ---- what stands in an image

half_back : (s : Namespace) → One s → label_in (half_for s) ≡ label_of s
unfolding label_in half_of part
half_back s w =
    let b = format_bounds s.index w.permits.index in
    rw (
      number_bytes 4 s.id (omega (arith, w.permits.id_high)),
      number_bytes 4 s.index (omega (arith, w.permits.index)),
      number_bytes 4 s.size (omega (arith, w.permits.size_high)),
      number_bytes 4 (length s.pairs) (omega (arith, w.count)),
      number_bytes 4 (used s.pairs) (omega (arith, w.room, w.permits.size_high)),
    )

-- with its half and its parts at their places, s is read back
pub namespace_there : (s : Namespace) (half start base : ℕ) (m : Memory) → label_at half m.directory ≡ label_of s
    → part start (32 * slots_of s) m.directory ≡ records_for s → part base s.size m.values ≡ values_for s → One s
    → namespace_at half start base m ≡ s
unfolding namespace_at
namespace_there s half start base m e f g w = rw (e, f, g) (ap (with_pairs s) (pairs_held (parts_of s w)))

module _ (a b : List Namespace) (s : Namespace) (t u : List ℕ) (w : Within (a ++ s ∷ b)) where
  pub label_back : label_at (32 * length a) (directory_of (a ++ s ∷ b) ++ t) ≡ label_of s
  label_back = ap label_in (half_lies a b s t) ∙ half_back s (each_at One b s a w.each)

  pub namespace_back : (let m = memory (directory_of (a ++ s ∷ b) ++ t) (values_of (a ++ s ∷ b) ++ u) in
      namespace_at (32 * length a) (64 + 32 * total slots_of a) (total size_of a) m ≡ s)
  namespace_back =
      namespace_there s _ _ _ (memory _ _) label_back (records_lie a b s t w) (values_lie a b s u w) (each_at One b s a w.each)

-- behind a single namespace the second half has id 0
no_second : (s : Namespace) (t : List ℕ) (start base : ℕ) (v : List ℕ) → (namespace_at 32 start base (memory (directory_of (s ∷ []) ++ t) v)).id ≡ 0
unfolding namespace_at label_in directory_of head_of half_of part number
no_second s t start base v = refl

-- whatever stands behind the needed part
pub namespaces_back : (ss : List Namespace) (t u : List ℕ) → Within ss → namespaces_of (memory (directory_of ss ++ t) (values_of ss ++ u)) ≡ ss
unfolding namespaces_of
namespaces_back [] t u w = absurd (omega (arith, w.one))
namespaces_back (s ∷ []) t u w =
    rw (namespace_back [] [] s t u w, no_second s t (64 + 32 * slots_of s) s.size (values_of (s ∷ []) ++ u))
namespaces_back (s ∷ r ∷ []) t u w =
    let q = w.each.1.0.permits in
    let second = rw (add-zero (slots_of s), add-zero s.size) at (namespace_back (s ∷ []) [] r t u w) in
    rw (namespace_back [] (r ∷ []) s t u w, second, ne_eqb r.id 0 (λ e. omega arith))
namespaces_back (s ∷ r ∷ q ∷ ss) t u w = absurd (omega (arith, w.two))

-- ---- legal memory

-- m is the image of ss, which are within the limits
pub record Holds (ss : List Namespace) (m : Memory) : Type 0 where
  pub within : Within ss
  pub directory : take (needed ss) m.directory ≡ directory_of ss
  pub values : take (needed_values ss) m.values ≡ values_of ss

module _ {ss : List Namespace} {m : Memory} (h : Holds ss m) where
  -- the needed part, and what lies behind it
  pub directory_split : m.directory ≡ directory_of ss ++ drop (needed ss) m.directory
  directory_split = sym (take-append-drop (needed ss) m.directory) ∙ ap (λ (l : List ℕ). l ++ drop (needed ss) m.directory) h.directory

  pub values_split : m.values ≡ values_of ss ++ drop (needed_values ss) m.values
  values_split = sym (take-append-drop (needed_values ss) m.values) ∙ ap (λ (l : List ℕ). l ++ drop (needed_values ss) m.values) h.values

  pub holds_back : namespaces_of m ≡ ss
  holds_back =
      ap₂ (λ (d v : List ℕ). namespaces_of (memory d v)) directory_split values_split
      ∙ namespaces_back ss (drop (needed ss) m.directory) (drop (needed_values ss) m.values) h.within

  -- legal memory is an image, and an image within the limits is legal
  pub holds_legal : legal m ≡ true
  unfolding legal
  holds_legal = rw (holds_back, within_all ss h.within, h.directory, h.values, same_self (directory_of ss), same_self (values_of ss))

  -- written over the needed part it is already there
  pub holds_over : image_over ss m ≡ m
  holds_over =
      let d : put 0 (directory_of ss) m.directory ≡ m.directory =
      rw (put_front (directory_of ss) m.directory, length_directory ss h.within) (sym directory_split) in
      let v : put 0 (values_of ss) m.values ≡ m.values =
      rw (put_front (values_of ss) m.values, length_values ss h.within.each) (sym values_split) in
      ap₂ memory d v

pub legal_holds : (m : Memory) → legal m ≡ true → Holds (namespaces_of m) m
unfolding legal
legal_holds m e =
    let ss = namespaces_of m in
    let a = all_true (image_tests ss m) e in
    record { within = all_within_law ss a.0; directory = sym (same_true _ _ a.1.0); values = sym (same_true _ _ a.1.1.0) }

-- the image of ss, written over the needed part
pub over_holds : (ss : List Namespace) (m : Memory) → Within ss → Holds ss (image_over ss m)
unfolding put
over_holds ss m w =
    record {
      within = w;
      directory = take_at (directory_of ss) _ (needed ss) (length_directory ss w);
      values = take_at (values_of ss) _ (needed_values ss) (length_values ss w.each);
    }

-- one memory is the image of one list
pub image_one : {ss rs : List Namespace} {m : Memory} → Holds ss m → Holds rs m → ss ≡ rs
image_one a b = sym (holds_back a) ∙ holds_back b
