-- `names_to` counts from the place of the range's first name, round the end if it must.
use Rattle.ranges.proofs.Places.{names-on, names-round}
use borrow.Author.Rules.{rules}
use Rattle.ranges.proofs.names_to.Goals as goal

pub returns-then-start-place : goal.returns-then-start-place
returns-then-start-place c = (search rules, search (rules, names-on))

pub returns : goal.returns
returns c = (search rules, search (rules, names-round))
