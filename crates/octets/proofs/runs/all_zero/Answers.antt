use mathlib.Core.Path.{◌∙◌}
use Rattle.std.proofs.Common.{rules}
use Rattle.std.proofs.lemmas.Iterator.{YieldsList-from_slice}
use Rattle.std.proofs.lemmas.Iterator.Search.{all_from_yields_List}
use Rattle.octets.specs.Octets.{all_zero}
use Rattle.octets.proofs.ZeroLaws.{zero_parts}
use Rattle.octets.proofs.runs.all_zero.Goals as goal

pub returns-then-all : goal.returns-then-all
returns-then-all c =
    let b = all_from_yields_List all_zero _ _ c.all.result c.all.ensures.ran (YieldsList-from_slice _ c.iter.ensures.rest) (λ x b q k. search rules) in
    c.zero_run.ensures ∙ rw c.if-all.true at (zero_parts 1024 _ _ b c.as_chunks.ensures.front c.as_chunks.ensures.back)

pub returns-else-all : goal.returns-else-all
returns-else-all c =
    let b = all_from_yields_List all_zero _ _ c.all.result c.all.ensures.ran (YieldsList-from_slice _ c.iter.ensures.rest) (λ x b q k. search rules) in
    c.if-all.false ∙ rw c.if-all.false at (zero_parts 1024 _ _ b c.as_chunks.ensures.front c.as_chunks.ensures.back)
