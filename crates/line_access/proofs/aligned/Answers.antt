-- `aligned` looks up a bit of the table.
use Rattle.line_access.proofs.Lines.{aligned-bit, aligned-none}
use borrow.Author.Rules.{rules}
use Rattle.line_access.proofs.aligned.Goals as goal

pub returns-then-width-lt8 : goal.returns-then-width-lt8
returns-then-width-lt8 c = search (rules, aligned-bit)

pub returns : goal.returns
returns c = search (rules, aligned-none)
