use Rattle.identify.proofs.pages.Writes.{page_written}
use Rattle.identify.proofs.pages.write_page.Goals as goal

pub returns : goal.returns
returns c =
    page_written _ _ _ _ c.told-page c.write_front.ensures c.write_descriptors.ensures c.clear.ensures
