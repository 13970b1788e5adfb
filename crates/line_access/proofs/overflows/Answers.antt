-- `overflows` shifts the end of the width's values into place.
use Rattle.line_access.proofs.Lines.{large-shifted}
use borrow.Author.Rules.{rules}
use Rattle.line_access.proofs.overflows.Goals as goal

pub returns : goal.returns
returns c = search (rules, large-shifted)
