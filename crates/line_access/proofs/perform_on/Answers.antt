-- `perform_on` is `perform` with its mark.
use Rattle.line_access.proofs.Lines.{performed-on}
use borrow.Author.Rules.{rules}
use Rattle.line_access.proofs.perform_on.Goals as goal

pub returns : goal.returns
returns c = search (rules, performed-on)
