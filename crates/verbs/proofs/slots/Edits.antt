-- A pair put in between others, and taken out there: the records and the values. Assumes nothing.
use Rattle.std.proofs.Common.{◌≡◌, ℕ, suc, ◌+◌, ◌-◌, ◌*◌, ◌%◌, ◌^◌, ◌<◌, ◌≤◌, List, [], ◌∷◌, ◌++◌, length, drop, sym, refl, ap, ◌∙◌, append_assoc}
use Rattle.std.proofs.Common.{zero-add, arith, length-append, drop_at}
use Rattle.octets.specs.Octets.{part, put, bytes, zeros, filled}
use Rattle.octets.proofs.PartLaws.{put_seam, put_in, take_out}
use Rattle.octets.proofs.ZeroLaws.{length_filled}
use Rattle.store.specs.Maps.{Pair, values}
use Rattle.store.specs.Records.{record_of, records_of, records_part, values_part, place}
use Rattle.store.specs.Parts.{Recorded}
use Rattle.store.specs.Slots.{raised}
use Rattle.verbs.specs.Verbs.{record_in, record_out}
use Rattle.store.proofs.RecordLaws.{length_record, place_in}
use Rattle.store.proofs.PartsLaws.{length_records, values_append, records_append}

-- ---- raised places

-- another place in one record
placed : (id j q r z : ℕ) (p : Pair) (a c : List ℕ) → z ≡ r → length a ≡ 32 * j → length p.key ≤ 16
    → put (32 * j + 20) (bytes 4 z) (a ++ record_of id q p ++ c) ≡ a ++ record_of id r p ++ c
unfolding record_of
placed id j q r n p a c i e k =
    let x = filled 16 p.key in
    let y = bytes 4 (length p.key) in
    let z = bytes 4 (length p.value) in
    let l : length (a ++ (x ++ y)) ≡ 32 * j + 20 = rw (length-append a, length-append x, length_filled 16 p.key k) (omega arith) in
    let split : (n : ℕ) → a ++ (x ++ y ++ bytes 4 n ++ z ++ bytes 4 id) ++ c ≡ (a ++ (x ++ y)) ++ bytes 4 n ++ (z ++ bytes 4 id ++ c) =
    λ n. simp append_assoc in
    rw (i, split q, split r) (rw l at (put_seam (a ++ (x ++ y)) (bytes 4 q) (z ++ bytes 4 id ++ c) (bytes 4 r) refl))

-- the records of m, with a before them and c behind them
raise_records : (id d j q r : ℕ) (m : List Pair) (a c : List ℕ) → length a ≡ 32 * j → Recorded m → (q + d) % 2 ^ 32 ≡ r
    → q + length (values m) < 2 ^ 32 → r + length (values m) < 2 ^ 32
    → raised d j (length m) (a ++ records_of id q m ++ c) ≡ a ++ records_of id r m ++ c
unfolding raised
raise_records id d j q r [] a c e k f h g = refl
raise_records id d j q r (p ∷ m) a c e k f h g =
    let v = length p.value in
    let x = records_of id (q + v) m ++ c in
    let l : length (p.value ++ values m) ≡ v + length (values m) = length-append p.value (values m) in
    let split : (n : ℕ) → a ++ (record_of id n p ++ records_of id (n + v) m) ++ c ≡ a ++ record_of id n p ++ (records_of id (n + v) m ++ c) =
    λ n. simp append_assoc in
    let was : place (drop (32 * j) (a ++ record_of id q p ++ x)) ≡ q =
    rw (append_assoc a (record_of id q p) x, drop_at a (record_of id q p ++ x) (32 * j) e) (place_in id q p k.0 x (omega arith)) in
    let la : length (a ++ record_of id r p) ≡ 32 * suc j = length-append a (record_of id r p) ∙ omega (arith, length_record id r p k.0) in
    let there = placed id j q r _ p a x (ap (λ (n : ℕ). (n + d) % 2 ^ 32) was ∙ f) e k.0 in
    rw (split q)
    (ap (raised d (suc j) (length m)) (there ∙ sym (append_assoc (a ++ record_of id r p) (records_of id (q + v) m) c))
    ∙ raise_records id d (suc j) (q + v) (r + v) m (a ++ record_of id r p) c la k.2 (omega arith) (omega arith) (omega arith)
    ∙ simp append_assoc)

-- ---- a pair p between a and b

module _ (id n : ℕ) (a b : List Pair) (p : Pair) (ra : Recorded a) (rb : Recorded b) (k : length p.key ≤ 16) where
  abbrev at : ℕ
  at = length (values a)

  abbrev to : ℕ
  to = at + length p.value

  abbrev ahead : List ℕ
  ahead = records_of id 0 a

  abbrev one : List ℕ
  one = record_of id at p

  without : records_part id n (a ++ b) ≡ filled n (ahead ++ records_of id at b)
  unfolding records_part
  without = rw (records_append id 0 a b, zero-add at)

  with : records_part id n (a ++ p ∷ b) ≡ filled n (ahead ++ one ++ records_of id to b)
  unfolding records_part
  with = rw (records_append id 0 a (p ∷ b), zero-add at) (simp append_assoc)

  la : length ahead ≡ 32 * length a
  la = length_records id 0 a ra

  lb : (q : ℕ) → length (records_of id q b) ≡ 32 * length b
  lb q = length_records id q b rb

  lp : length one ≡ 32
  lp = length_record id at p k

  raise : (d q r : ℕ) → (q + d) % 2 ^ 32 ≡ r → q + length (values b) < 2 ^ 32 → r + length (values b) < 2 ^ 32
      → raised d (length a + 1) (length b) (filled n (ahead ++ one ++ records_of id q b)) ≡ filled n (ahead ++ one ++ records_of id r b)
  raise d q r f x y =
      let o = ahead ++ one in
      let lo : length o ≡ 32 * (length a + 1) = length-append ahead one ∙ omega (arith, la, lp) in
      let l : length (o ++ records_of id q b) ≡ length (o ++ records_of id r b) =
      rw (length-append o (records_of id q b), length-append o (records_of id r b), lb q, lb r) in
      rw l (raise_records id d (length a + 1) q r b o (zeros (n - length (o ++ records_of id r b))) lo rb f x y)

  module _ (free : 32 * (length a + length b) + 32 ≤ n) (small : to + length (values b) < 2 ^ 32) where
    pub insert_records : record_in id at p (length a) (length b) (records_part id n (a ++ b)) ≡ records_part id n (a ++ p ∷ b)
    unfolding record_in
    insert_records =
        let i = rw (la, lb at) at (put_in n ahead one (records_of id at b) (omega (arith, la, lp, lb at))) in
        rw (without, with, i) (raise (length p.value) at to (omega arith) (omega arith) (omega arith))

    pub remove_records : (d : ℕ) → (d + length p.value) % 2 ^ 32 ≡ 0
        → record_out d (length a) (length b) (records_part id n (a ++ p ∷ b)) ≡ records_part id n (a ++ b)
    unfolding record_out
    remove_records d e =
        let i = rw (la, lb at, lp) at (take_out n ahead one (records_of id at b) (omega (arith, la, lp, lb at))) in
        rw (without, with, raise d to at (omega arith) (omega arith) (omega arith)) i

module _ (l : ℕ) (a b : List Pair) (p : Pair) (fits : length (values a) + length p.value + length (values b) ≤ l) where
  abbrev before : List ℕ
  before = values a

  abbrev behind : List ℕ
  behind = values b

  pub insert_values : put (length before) (p.value ++ part (length before) (length behind) (values_part l (a ++ b))) (values_part l (a ++ b))
      ≡ values_part l (a ++ p ∷ b)
  unfolding values_part
  insert_values =
      rw (values_append a b, values_append a (p ∷ b), ← append_assoc before p.value behind) (put_in l before p.value behind fits)

  pub remove_values : let old = values_part l (a ++ p ∷ b) in
      put (length before) (part (length before + length p.value) (length behind) old ++ zeros (length p.value)) old ≡ values_part l (a ++ b)
  unfolding values_part
  remove_values =
      rw (values_append a b, values_append a (p ∷ b), ← append_assoc before p.value behind) (take_out l before p.value behind fits)
