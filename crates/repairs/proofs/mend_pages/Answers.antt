-- `mend_pages` repairs where no page is doubled.
use Rattle.dumps.proofs.Checks.{none-by}
use Rattle.repairs.proofs.Mended.{pages-doubled, pages-mended}
use borrow.Author.Rules.{rules}
use Rattle.repairs.proofs.mend_pages.Goals as goal

pub mend_lines-requires : goal.mend_lines-requires
mend_lines-requires c = (search rules, search rules, search (rules, none-by), search rules, search rules, search rules)

pub returns-in-Some : goal.returns-in-Some
returns-in-Some c = search (rules, pages-doubled)

pub returns-in-None : goal.returns-in-None
returns-in-None c = search (rules, pages-mended)
