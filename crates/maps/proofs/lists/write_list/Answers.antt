use mathlib.Core.Path.{◌∙◌}
use native.Mathlib.Omega.{arith}
use lib.ListN.{length-take, length-drop}
use Rattle.octets.specs.Octets.{part}
use Rattle.maps.proofs.lists.Loop.{listed_none, listed_padded, listed_more, listed_full, listed_all}
use Rattle.maps.proofs.lists.write_list.Goals as goal

pub loop-j-init : goal.loop-j-init
loop-j-init c = listed_none c.requires

pub invariant_of-field : goal.invariant_of-field
unfolding part
invariant_of-field c =
    record {
      sixteen = simp (length-take, length-drop) (omega arith);
      fits = omega arith;
      clear = listed_padded c.loop-j.invariant _ _ c.key_len-len.ensures.0 c.page_entry_size-entry.ensures (omega arith);
    }

pub loop-j-preserved : goal.loop-j-preserved
unfolding part
loop-j-preserved c =
    let more = listed_more c.loop-j.invariant _ _ c.key_len-len.ensures.0 c.page_entry_size-entry.ensures (omega arith) in
    more _ c.write_page_entry.ensures (omega arith)

pub returns-then-end-at : goal.returns-then-end-at
returns-then-end-at c =
    c.write32.ensures
    ∙ listed_full c.loop-j.invariant _ _ c.key_len-len.ensures.0 c.page_entry_size-entry.ensures (omega arith) c.if-end-at.true

pub returns : goal.returns
returns c = c.write32-2.ensures ∙ listed_all c.loop-j.invariant (omega arith)
