-- `of_page` is for the names of the page.
use Rattle.visits.proofs.Visits.{page_is}
use borrow.Author.Rules.{rules}
use Rattle.visits.proofs.of_page.Goals as goal

pub returns : goal.returns
returns c = search (rules, page_is)
