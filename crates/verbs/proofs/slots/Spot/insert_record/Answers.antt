use Rattle.std.proofs.Common.{◌≡◌, ◌+◌, ◌-◌, ◌*◌, length, ap, ◌∙◌, arith}
use Rattle.octets.proofs.PartLaws.{moved_up}
use Rattle.store.specs.Maps.{pair}
use Rattle.store.specs.Records.{record_of}
use Rattle.store.specs.Slots.{raised}
use Rattle.verbs.specs.Verbs.{record_in}
use Rattle.store.proofs.RecordLaws.{length_record}
use Rattle.verbs.proofs.slots.Spot.insert_record.Goals as goal

pub returns : goal.returns
unfolding record_in
returns c =
    let a = c.args in
    let n : a.self.count + 1 - (a.self.slot + 1) ≡ a.self.count - a.self.slot = omega arith in
    let p = pair a.key.bytes.now a.value.now in
    let l = length_record a.self.id a.place p a.key.short in
    rw n at c.raise_places.ensures
    ∙ ap (raised (length a.value.now) (a.self.slot + 1) (a.self.count - a.self.slot))
    (moved_up (32 * a.self.slot) (32 * (a.self.count - a.self.slot)) (record_of a.self.id a.place p) _ _ _ c.write_record.ensures (rw l c.slide.ensures)
    (omega (arith, c.requires.slot, c.requires.free)))
