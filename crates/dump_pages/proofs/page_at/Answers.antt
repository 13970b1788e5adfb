-- `page_at` reads the page off the word.
use Rattle.dump_pages.proofs.Pages.{page-low, page-even, page-some, page-other}
use borrow.Author.Rules.{rules}
use Rattle.dump_pages.proofs.page_at.Goals as goal

pub returns-then-f-s : goal.returns-then-f-s
returns-then-f-s c = search (rules, page-low)

pub returns-then-ordinary_page : goal.returns-then-ordinary_page
returns-then-ordinary_page c = search (rules, page-some)

pub returns-else-ordinary_page : goal.returns-else-ordinary_page
returns-else-ordinary_page c = search (rules, page-other)

pub returns-else-w-eq1 : goal.returns-else-w-eq1
returns-else-w-eq1 c = search (rules, page-even)
