use native.Mathlib.Omega.{arith}
use Rattle.sheets.proofs.PageLaws.{entry_last, entry_none}
use Rattle.sheets.proofs.pages.Field.write_last.Goals as goal

pub returns-then-self-gt14 : goal.returns-then-self-gt14
returns-then-self-gt14 c =
    entry_last c.args.self.now _ c.requires _ _ c.copy_word.ensures c.write16.ensures (omega arith)

pub returns-else-self-gt14 : goal.returns-else-self-gt14
returns-else-self-gt14 c =
    entry_none c.args.self.now _ c.requires _ (omega arith)
