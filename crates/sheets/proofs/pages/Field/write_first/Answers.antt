use Rattle.sheets.proofs.PageLaws.{entry_first}
use Rattle.sheets.proofs.pages.Field.write_first.Goals as goal

pub returns : goal.returns
returns c =
    entry_first c.args.self.now _ c.requires _ _ c.write16.ensures c.copy_word.ensures
