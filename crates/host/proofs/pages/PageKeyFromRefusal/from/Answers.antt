use mathlib.Core.Path.{◌≡◌}
use native.Mathlib.Omega.{arith}
use Rattle.std.proofs.lemmas.Grind.{common_steps}
use Rattle.octets.specs.Octets.{zeros}
use Rattle.host.proofs.pages.PageKeyFromRefusal.from.Goals as goal

pub returns : goal.returns
returns c =
    let key : c.default.result.key ≡ zeros 16 = grind (arith, common_steps) in
    simp (c.number.ensures, key, c.default.ensures.1.0, c.default.ensures.1.1.0)
