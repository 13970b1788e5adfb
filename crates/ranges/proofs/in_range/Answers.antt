-- `in_range` compares without a sum that could wrap.
use Rattle.ranges.proofs.Ranges.{in-below, in-from}
use borrow.Author.Rules.{rules}
use Rattle.ranges.proofs.in_range.Goals as goal

pub returns-then-r-name : goal.returns-then-r-name
returns-then-r-name c = search (rules, in-from)

pub returns-else-r-name : goal.returns-else-r-name
returns-else-r-name c = search (rules, in-below)
