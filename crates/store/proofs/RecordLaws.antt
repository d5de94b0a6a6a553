-- What stands in the record of a pair, whatever stands behind it. Assumes nothing.
use Rattle.std.proofs.Common.{◌≡◌, ℕ, ◌+◌, ◌-◌, ◌^◌, ◌<◌, ◌≤◌, List, ◌++◌, length, take, drop, refl, ap, ◌∙◌, append_assoc, arith, length-append, take_at}
use lib.ListN.{length-replicate}
use lib.Seq.{take-append_seam}
use Rattle.octets.specs.Octets.{part, number, bytes, zeros, filled}
use Rattle.octets.proofs.PartLaws.{drop_past}
use Rattle.octets.proofs.NumberLaws.{number_bytes}
use Rattle.octets.proofs.ZeroLaws.{length_filled}
use Rattle.store.specs.Maps.{Pair}
use Rattle.store.specs.Records.{record_of, key_length, place, value_length, owner}

module _ (id at : ℕ) (p : Pair) (short : length p.key ≤ 16) where
  pub length_record : length (record_of id at p) ≡ 32
  unfolding record_of
  length_record = simp (length-append, length-replicate) (omega arith)

  module _ (x : List ℕ) where
    abbrev behind : List ℕ
    behind = bytes 4 (length p.key) ++ (bytes 4 at ++ (bytes 4 (length p.value) ++ (bytes 4 id ++ x)))

    opened : record_of id at p ++ x ≡ filled 16 p.key ++ behind
    unfolding record_of
    opened = simp append_assoc

    past : (n : ℕ) → drop (16 + n) (record_of id at p ++ x) ≡ drop n behind
    past n = rw opened (drop_past (filled 16 p.key) behind 16 n (length_filled 16 p.key short))

    pub sixteen_in : part 0 16 (record_of id at p ++ x) ≡ filled 16 p.key
    unfolding part
    sixteen_in = rw opened (take_at (filled 16 p.key) behind 16 (length_filled 16 p.key short))

    pub key_in : take (length p.key) (record_of id at p ++ x) ≡ p.key
    key_in =
        let z = zeros (16 - length p.key) in
        rw (opened, append_assoc p.key z behind) (take-append_seam p.key (z ++ behind))

    -- the word at 16 + i of the record
    word_in : (i v : ℕ) → take 4 (drop i behind) ≡ bytes 4 v → v < 2 ^ 32 → number (part (16 + i) 4 (record_of id at p ++ x)) ≡ v
    unfolding part
    word_in i v e h = ap (λ (ys : List ℕ). number (take 4 ys)) (past i) ∙ ap number e ∙ number_bytes 4 v h

    pub key_length_in : key_length (record_of id at p ++ x) ≡ length p.key
    key_length_in = word_in 0 (length p.key) refl (omega arith)

    pub place_in : at < 2 ^ 32 → place (record_of id at p ++ x) ≡ at
    place_in = word_in 4 at refl

    pub value_length_in : length p.value < 2 ^ 32 → value_length (record_of id at p ++ x) ≡ length p.value
    value_length_in = word_in 8 (length p.value) refl

    pub id_in : id < 2 ^ 32 → owner (record_of id at p ++ x) ≡ id
    id_in = word_in 12 id refl

    pub rest_in : drop 32 (record_of id at p ++ x) ≡ x
    rest_in = past 16
