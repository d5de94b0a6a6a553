-- What is written into a page, field behind field, is the page. Assumes nothing.
use mathlib.Core.Path.{◌≡◌, sym}
use mathlib.Core.List.{List, [], ◌∷◌, ◌++◌}
use Prim.Native.Nat.{ℕ, ◌+◌, ◌*◌, ◌/◌, ◌%◌, ◌^◌, ◌≤◌, ◌<◌}
use native.Mathlib.Numerals.{add-one}
use native.Mathlib.Omega.{arith}
use lib.ListN.{length}
use Rattle.octets.specs.Octets.{put, bytes, zeros}
use Rattle.octets.proofs.PartLaws.{put_then, puts_whole}
use Rattle.sheets.specs.declared.identify.Limits.{Limits}
use Rattle.sheets.specs.Identify.{descriptor, descriptors, front, identify_page}
use Rattle.sheets.proofs.IdentifyLaws.{length_descriptors}
use Rattle.table.specs.declared.formats.Format.{Format}
use Rattle.table.specs.Formats.{format_of}
use Rattle.identify.specs.Identify.{limits_of, limits}

-- on 72 cleared bytes; four bytes hold size and used room
pub front_written : (size used index : ℕ) (p : List ℕ) {a b c d e : List ℕ} → size < 256 ^ 4 → used < 256 ^ 4
    → a ≡ put 0 (zeros 72) p → b ≡ put 0 (bytes 4 size) a → c ≡ put 16 (bytes 4 used) b → d ≡ put 25 (15 ∷ []) c → e ≡ put 29 (index % 16 ∷ []) d
    → e ≡ put 0 (front size used 16 index) p
unfolding put front
front_written size used index p s u ea eb ec ed ee =
    let h : size / 256 / 256 / 256 / 256 ≡ 0 = omega arith in
    let k : used / 256 / 256 / 256 / 256 ≡ 0 = omega arith in
    rw (ee, ed, ec, eb, ea, h, k)

pub descriptor_written : (l : Limits) (at : ℕ) (p : List ℕ) {a b c d e : List ℕ} → at + 16 ≤ length p → a ≡ put at (bytes 2 l.keymax) p
    → b ≡ put (at + 2) (zeros 2) a → c ≡ put (at + 4) (bytes 4 l.valuemax) b → d ≡ put (at + 8) (bytes 4 l.maxkeys) c → e ≡ put (at + 12) (zeros 4) d
    → e ≡ put at (descriptor l) p
unfolding descriptor
descriptor_written l at p h ea eb ec ed ee =
    let k = bytes 2 l.keymax in
    let v = bytes 4 l.valuemax in
    let one = put_then at (at + 2) k (zeros 2) p _ _ eb ea (omega arith) (omega arith) in
    let two = put_then at (at + 4) (k ++ zeros 2) v p _ _ ec one (omega arith) (omega arith) in
    let three = put_then at (at + 8) (k ++ zeros 2 ++ v) (bytes 4 l.maxkeys) p _ _ ed two (omega arith) (omega arith) in
    put_then at (at + 12) (k ++ zeros 2 ++ v ++ bytes 4 l.maxkeys) (zeros 4) p _ _ ee three (omega arith) (omega arith)

-- one descriptor more
pub descriptors_more : (i : ℕ) (p : List ℕ) {a b : List ℕ} {f : Format} → a ≡ put 72 (descriptors limits i) p → f ≡ format_of i
    → b ≡ put (72 + 16 * i) (descriptor (limits_of f)) a → i < 16 → 328 ≤ length p → b ≡ put 72 (descriptors limits (i + 1)) p
unfolding descriptor
descriptors_more i p ea ef eb h l =
    rw add-one
    (put_then 72 (72 + 16 * i) (descriptors limits i) (descriptor (limits i)) p _ _ (rw ef at eb) ea (omega (arith, length_descriptors limits i)) (omega arith))

pub page_written : (size used index : ℕ) (p : List ℕ) {a b c : List ℕ} → length p ≡ 4096 → a ≡ put 0 (front size used 16 index) p
    → b ≡ put 72 (descriptors limits 16) a → c ≡ put 328 (zeros 3768) b → c ≡ identify_page size used index limits 16
unfolding identify_page front descriptor
page_written size used index p l ea eb ec =
    rw (ec, eb, ea) (puts_whole (front size used 16 index) (descriptors limits 16 ∷ zeros 3768 ∷ []) p (sym l))
