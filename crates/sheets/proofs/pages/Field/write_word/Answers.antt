use native.Mathlib.Omega.{arith}
use Rattle.sheets.proofs.PageLaws.{entry_word, entry_none}
use Rattle.sheets.proofs.pages.Field.write_word.Goals as goal

pub returns-then-from-self : goal.returns-then-from-self
returns-then-from-self c =
    entry_word c.args.self.now _ c.requires.0 c.args.from _ c.copy_word.ensures (omega arith) (omega arith)

pub returns-else-from-self : goal.returns-else-from-self
returns-else-from-self c =
    entry_none c.args.self.now _ c.requires.0 _ (omega arith)
