-- `is_named` tests each range.
use Rattle.ranges.proofs.Ranges.{named-one, named-two, named-all}
use borrow.Author.Rules.{rules}
use Rattle.ranges.proofs.is_named.Goals as goal

pub returns-in-One : goal.returns-in-One
returns-in-One c = search (rules, named-one)

pub returns-in-Two : goal.returns-in-Two
returns-in-Two c = search (rules, named-two)

pub returns-in-All : goal.returns-in-All
returns-in-All c = search (rules, named-all)
