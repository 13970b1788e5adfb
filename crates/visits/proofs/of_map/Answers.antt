-- `of_map` is for the names of the page and of the frame's prefix 1 page.
use Rattle.visits.proofs.Visits.{pages-are}
use borrow.Author.Rules.{rules}
use Rattle.visits.proofs.of_map.Goals as goal

pub returns : goal.returns
returns c = search (rules, pages-are)
