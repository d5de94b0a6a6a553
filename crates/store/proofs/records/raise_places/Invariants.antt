use Rattle.std.proofs.Common.{◌≡◌, ℕ, suc, ◌+◌, ◌-◌, ◌*◌, ◌%◌, ◌^◌, ◌<◌, ◌≤◌, List, drop, add-one, arith}
use Rattle.octets.specs.Octets.{put, bytes}
use Rattle.store.specs.declared.records.Record.{Record}
use Rattle.store.specs.Records.{slot_in}
use Rattle.store.specs.Slots.{raised}
use Rattle.store.proofs.records.raise_places.Given as goal

-- what is left to do gives the whole
pub raise-turn : (d j n : ℕ) (s s' t : List ℕ) (r : Record) → j < n → r ≡ slot_in (drop (32 * j) s)
    → s' ≡ put (32 * j + 20) (bytes 4 ((r.place + d) % 2 ^ 32)) s → raised d j (n - j) s ≡ t → raised d (j + 1) (n - (j + 1)) s' ≡ t
unfolding raised
raise-turn d j n s s' t r h er es et =
    let m : n - j ≡ suc (n - (j + 1)) = omega arith in
    rw (es, er, add-one) (rw (m, add-one) at et)

pub raise-done : (d j n : ℕ) (s t : List ℕ) → n ≤ j → raised d j (n - j) s ≡ t → s ≡ t
unfolding raised
raise-done d j n s t h e =
    let m : n - j ≡ 0 = omega arith in
    rw m at e

abbrev pub invariant-loop-j : goal.invariant-loop-j
invariant-loop-j l = raised l.by l.j (l.to - l.j) l.records ≡ raised l.by l.from (l.to - l.from) l.initial.records
