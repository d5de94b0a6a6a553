use mathlib.Core.Path.{◌∙◌}
use mathlib.Core.List.{[], ◌∷◌}
use native.Mathlib.Omega.{arith}
use Rattle.octets.specs.Octets.{bytes, zeros}
use Rattle.octets.proofs.PartLaws.{put_on, puts_whole}
use Rattle.memory.specs.Memory.{half_of}
use Rattle.memory.proofs.labels.write_label.Goals as goal

pub returns : goal.returns
unfolding half_of
returns c =
    let a = c.args in
    let e3 = put_on _ _ (put_on _ _ c.write32.ensures c.write32-2.ensures) c.write32-3.ensures in
    put_on _ _ (put_on _ _ (put_on _ _ e3 c.write32-4.ensures) c.write32-5.ensures) c.clear.ensures
    ∙ puts_whole (bytes 4 a.label.id)
    (bytes 4 a.label.index ∷ bytes 4 a.label.size ∷ bytes 4 a.label.count ∷ bytes 4 a.label.used ∷ zeros 12 ∷ [])
    a.half.now (omega arith)
