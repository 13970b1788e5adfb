-- `weight` is a shift.
use borrow.Author.Rules.{rules}
use Rattle.log_numbers.proofs.Groups.{weight-shift}
use Rattle.log_numbers.proofs.weight.Goals as goal

pub returns : goal.returns
returns c = weight-shift _ (search rules)
