-- What `write_blank` writes is the image of empty maps. Assumes nothing.
use mathlib.Core.Path.{◌≡◌, refl, ap₂}
use mathlib.Core.List.{List, [], ◌∷◌, ◌++◌}
use Prim.Native.Nat.{ℕ, ◌+◌, ◌-◌, ◌*◌, ◌≤◌}
use native.Mathlib.Nat.{sub-zero}
use native.Mathlib.Omega.{arith}
use lib.ListN.{length, length-replicate, replicate-append-replicate}
use borrow.Rule.Slice.PartMut.{put_mid}
use Rattle.octets.specs.Octets.{put, zeros}
use Rattle.octets.proofs.PartLaws.{put_then}
use Rattle.store.specs.declared.namespaces.Label.{Label}
use Rattle.table.specs.Formats.{slots}
use Rattle.store.specs.Records.{records_part, values_part}
use Rattle.memory.specs.Namespaces.{joined, total, slots_of, size_of}
use Rattle.memory.specs.Memory.{Memory, memory, needed, needed_values, half_of, records_for, values_for, head_of, directory_of, values_of, image_over}
use Rattle.memory.proofs.JoinLaws.{put_mid_law}
use Rattle.formatting.specs.declared.measures.Half.{Half}
use Rattle.formatting.specs.Formatting.{blanks, blanked}

-- ---- in slices, by two halves that were lent

pub blank_written : (a b : Label) (end stop : ℕ) (d v : List ℕ) {x y d3 v1 : List ℕ} → x ≡ half_of a → y ≡ half_of b
    → d3 ≡ put 64 (zeros (end - 64)) (put_mid 32 32 (put_mid 0 32 d x) y) → v1 ≡ put 0 (zeros stop) v → 64 ≤ end → end ≤ length d
    → memory d3 v1 ≡ blanked a b end stop (memory d v)
unfolding blanked half_of
blank_written a b end stop d v {x} {y} ex ey e3 ev l n =
    let z = length-replicate {A = ℕ} (end - 64) 0 in
    let p = put_mid_law 0 32 d (half_of a) refl in
    let q = put_mid_law 32 32 (put_mid 0 32 d (half_of a)) (half_of b) refl in
    let r = put_then 0 32 (half_of a) (half_of b) d _ _ q p refl (omega arith) in
    let s = put_then 0 64 (half_of a ++ half_of b) (zeros (end - 64)) d _ _ (rw (ex, ey) at e3) r refl (omega arith) in
    ap₂ memory s ev

-- ---- empty maps

records_blank : (hs : List Half) → joined records_for (blanks hs) ≡ zeros (32 * total slots_of (blanks hs))
unfolding records_part
records_blank [] = refl
records_blank (h ∷ hs) =
    let n = 32 * slots h.index in
    let k = 32 * total slots_of (blanks hs) in
    let e : 32 * (slots h.index + total slots_of (blanks hs)) ≡ n + k = omega arith in
    rw (sub-zero n, records_blank hs, e) (replicate-append-replicate n k 0)

values_blank : (hs : List Half) → joined values_for (blanks hs) ≡ zeros (total size_of (blanks hs))
unfolding values_part
values_blank [] = refl
values_blank (h ∷ hs) = rw (sub-zero h.size, values_blank hs) (replicate-append-replicate h.size (total size_of (blanks hs)) 0)

-- the halves of one or two, where a half that is not there is that of no label
module _ (hs : List Half) (a b : Label) (heads : head_of (blanks hs) ≡ half_of a ++ half_of b) (end stop : ℕ) (m : Memory) where
  pub blank_image : end ≡ needed (blanks hs) → stop ≡ needed_values (blanks hs) → blanked a b end stop m ≡ image_over (blanks hs) m
  unfolding blanked directory_of values_of
  blank_image e f =
      let n : end - 64 ≡ 32 * total slots_of (blanks hs) = omega arith in
      rw (n, ← heads, f, ← records_blank hs, ← values_blank hs)
