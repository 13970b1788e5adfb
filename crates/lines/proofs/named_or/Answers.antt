-- `named_or` compares one name.
use Rattle.lines.specs.Records.{line_at}
use Rattle.lines.proofs.Holders.{named_here, named-later}
use borrow.Author.Rules.{rules}
use Rattle.lines.proofs.named_or.Goals as goal

pub returns-then-records-i : goal.returns-then-records-i
unfolding line_at
returns-then-records-i c = search (rules, named_here)

pub returns : goal.returns
unfolding line_at
returns c = search (rules, named-later)
