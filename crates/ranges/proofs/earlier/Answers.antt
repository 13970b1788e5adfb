-- `earlier` compares the starts.
use borrow.Author.Rules.{rules}
use Rattle.address.proofs.Tests.{tests}
use Rattle.ranges.proofs.earlier.Goals as goal

pub returns-then-a-b : goal.returns-then-a-b
returns-then-a-b c = search (rules, tests)

pub returns-else-a-b : goal.returns-else-a-b
returns-else-a-b c = search (rules, tests)
