-- `too_large` asks `overflows` of the widths that may be.
use Rattle.line_access.proofs.Lines.{width_is, large-none}
use borrow.Author.Rules.{rules}
use Rattle.line_access.proofs.too_large.Goals as goal

pub overflows-requires : goal.overflows-requires
overflows-requires c = search (rules, width_is)

pub returns : goal.returns
returns c = search (rules, large-none)
