-- The laws of bytes over and over, and of those that are put behind such. Assumes nothing.
use mathlib.Core.Path.{◌≡◌}
use mathlib.Core.List.{List, ◌++◌, append_assoc}
use Prim.Native.Nat.{ℕ, zero, suc, ◌+◌, ◌*◌, ◌≤◌}
use native.Mathlib.Nat.{zero-add, suc-add}
use native.Mathlib.Omega.{arith}
use lib.ListN.{length, length-append}
use Rattle.octets.specs.Octets.{put}
use Rattle.octets.proofs.PartLaws.{put_then}
use Rattle.scratch.specs.Calls.{over}

pub length_over : (n : ℕ) (bs : List ℕ) → length (over n bs) ≡ n * length bs
length_over zero bs = omega arith
length_over (suc n) bs = rw (length-append bs (over n bs), length_over n bs) (omega arith)

over_two : (m n : ℕ) (bs : List ℕ) → over (m + n) bs ≡ over m bs ++ over n bs
over_two zero n bs = rw zero-add
over_two (suc m) n bs = rw (suc-add m n, over_two m n bs, append_assoc bs (over m bs) (over n bs))

pub over_more : (at m n k t : ℕ) (bs xs : List ℕ) {ys zs : List ℕ} → ys ≡ put at (over n bs) xs → zs ≡ put m (over k bs) ys → m ≡ at + n * length bs
    → m + k * length bs ≤ length xs → t ≡ n + k → zs ≡ put at (over t bs) xs
over_more at m n k t bs xs {ys} {zs} e f g h i =
    let l : length (over n bs) ≡ n * length bs = length_over n bs in
    let r : length (over k bs) ≡ k * length bs = length_over k bs in
    rw (i, over_two n k bs) (put_then at m (over n bs) (over k bs) xs ys zs f e (omega arith) (omega arith))
