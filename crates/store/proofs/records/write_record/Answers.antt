use Rattle.std.proofs.Common.{◌≡◌, ℕ, ◌+◌, ◌-◌, ◌≤◌, List, [], ◌∷◌, length, arith}
use lib.ListN.{length-replicate}
use Rattle.octets.specs.Octets.{put, bytes, zeros}
use Rattle.octets.proofs.PartLaws.{puts_joined}
use Rattle.store.specs.Maps.{pair}
use Rattle.store.specs.Records.{record_of}
use Rattle.store.proofs.RecordLaws.{length_record}
use Rattle.store.proofs.records.write_record.Goals as goal

-- the six writes are one
written : (s s1 s2 s3 s4 s5 s6 k v : List ℕ) (at id p : ℕ) → s1 ≡ put at k s → s2 ≡ put (at + length k) (zeros (16 - length k)) s1
    → s3 ≡ put (at + 16) (bytes 4 (length k)) s2 → s4 ≡ put (at + 20) (bytes 4 p) s3 → s5 ≡ put (at + 24) (bytes 4 (length v)) s4
    → s6 ≡ put (at + 28) (bytes 4 id) s5 → length k ≤ 16 → at + 32 ≤ length s → s6 ≡ put at (record_of id p (pair k v)) s
unfolding record_of
written s s1 s2 s3 s4 s5 s6 k v at id p e1 e2 e3 e4 e5 e6 h g =
    let z : List ℕ = zeros (16 - length k) in
    let l : length z ≡ 16 - length k = length-replicate {A = ℕ} (16 - length k) 0 in
    let a : at + 16 ≡ at + length k + length z = omega arith in
    let b : at + 20 ≡ at + length k + length z + 4 = omega arith in
    let c : at + 24 ≡ at + length k + length z + 4 + 4 = omega arith in
    let d : at + 28 ≡ at + length k + length z + 4 + 4 + 4 = omega arith in
    let w : length (record_of id p (pair k v)) ≡ 32 = length_record id p (pair k v) h in
    rw (e6, e5, e4, e3, e2, e1, a, b, c, d) (puts_joined at k (z ∷ bytes 4 (length k) ∷ bytes 4 p ∷ bytes 4 (length v) ∷ bytes 4 id ∷ []) s (omega arith))

pub returns : goal.returns
returns c = search written
