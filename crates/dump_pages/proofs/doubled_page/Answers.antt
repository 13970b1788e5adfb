-- `doubled_page` searches the keys of the frames.
use Rattle.dump_pages.proofs.Pages.{doubled-page-by}
use borrow.Author.Rules.{rules}
use Rattle.dump_pages.proofs.doubled_page.Goals as goal

pub returns : goal.returns
returns c = doubled-page-by _ _ _ _ _ c.page_keys.ensures (search rules) c.lowest_double.ensures.0
