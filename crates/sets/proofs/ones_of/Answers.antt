-- `ones_of` adds up four entries.
use Rattle.sets.proofs.Rows.{ones-by}
use borrow.Author.Rules.{rules}
use Rattle.sets.proofs.ones_of.Goals as goal

pub returns : goal.returns
returns c = search (rules, ones-by)
