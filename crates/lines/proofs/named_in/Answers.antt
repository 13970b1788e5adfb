-- `named_in` compares the four names, the last first.
use Rattle.lines.proofs.Holders.{named-four}
use borrow.Author.Rules.{rules}
use Rattle.lines.proofs.named_in.Goals as goal

pub returns : goal.returns
returns c = search (rules, named-four)
