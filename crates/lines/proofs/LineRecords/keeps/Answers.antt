-- `keeps` is a held line of this physical line.
use Rattle.lines.proofs.Holders.{keeps-by}
use borrow.Author.Rules.{rules}
use Rattle.lines.proofs.LineRecords.keeps.Goals as goal

pub returns : goal.returns
returns c = search (rules, keeps-by)
