-- `next_run` takes the run that starts first.
use Rattle.ranges.proofs.Places.{run-one, run-earlier, run-all}
use borrow.Author.Rules.{rules}
use Rattle.ranges.proofs.next_run.Goals as goal

pub returns-in-One : goal.returns-in-One
returns-in-One c = search (rules, run-one)

pub returns-in-Two : goal.returns-in-Two
returns-in-Two c = search (rules, run-earlier)

pub returns-in-All : goal.returns-in-All
returns-in-All c = search (rules, run-all)
