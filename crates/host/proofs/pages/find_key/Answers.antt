use borrow.Author.Rules.{rules}
use Rattle.octets.specs.Octets.{part}
use Rattle.octets.proofs.PartLaws.{part_rest}
use Rattle.host.proofs.pages.Loop.{page_short, passed_none, passed_asked, passed_other}
use Rattle.host.proofs.pages.find_key.Goals as goal
use Rattle.host.proofs.pages.find_key.Goals.{then-i-ordinal, else-i-ordinal}

pub returns-then-page-lt4 : goal.returns-then-page-lt4
returns-then-page-lt4 c = search page_short

pub loop-i-init : goal.loop-i-init
unfolding part
loop-i-init c = rw (part_rest 4 c.args.page.now) (search (rules, passed_none))

pub loop-i-preserved : goal.loop-i-preserved
unfolding part
loop-i-preserved c =
    elim c.if-i-ordinal.branch [
      | then-i-ordinal w ↦ rw w.asked-is (search (rules, passed_asked))
      | else-i-ordinal w ↦ rw w.asked-is (search (rules, passed_other))
    ]
