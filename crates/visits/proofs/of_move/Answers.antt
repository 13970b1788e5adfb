-- `of_move` is for the names of the two pages.
use Rattle.visits.proofs.Visits.{pages-are}
use borrow.Author.Rules.{rules}
use Rattle.visits.proofs.of_move.Goals as goal

pub returns : goal.returns
returns c = search (rules, pages-are)
