use Rattle.sheets.proofs.PageLaws.{entry_words}
use Rattle.sheets.proofs.pages.Field.write_page_entry.Goals as goal

pub returns : goal.returns
returns c =
    entry_words c.args.self.now _ c.requires
    _ _ _ _ _ c.write_first.ensures c.write_word.ensures c.write_word-2.ensures c.write_word-3.ensures c.write_last.ensures
