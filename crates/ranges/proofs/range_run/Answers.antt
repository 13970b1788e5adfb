-- `range_run` goes on with the range from this place, or from the place of its first name.
use Rattle.ranges.proofs.Places.{run-nameless, run-here, run-first, run-over}
use borrow.Author.Rules.{rules}
use Rattle.ranges.proofs.range_run.Goals as goal

pub returns-then-r-eq0 : goal.returns-then-r-eq0
returns-then-r-eq0 c = search (rules, run-nameless)

pub returns-then-before-r : goal.returns-then-before-r
returns-then-before-r c = search (rules, run-here)

pub returns-then-place-before : goal.returns-then-place-before
returns-then-place-before c = search (rules, run-first)

pub returns : goal.returns
returns c = search (rules, run-over)
