use native.Mathlib.Numerals.{towards_suc}
use native.Mathlib.Omega.{arith}
use lib.ListN.{length-set}
use Rattle.octets.proofs.PartLaws.{sets_put}
use Rattle.bench.proofs.texts.write_byte.Goals as goal

pub bounds-text-at-2 : goal.bounds-text-at-2
bounds-text-at-2 c = simp length-set (omega arith)

pub returns : goal.returns
returns c =
    let a = c.args in
    rw (c.digit_of.ensures, c.digit_of-2.ensures) (simp towards_suc (sets_put a.at _ a.text.now (omega arith)))
