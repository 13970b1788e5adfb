-- `fewest_of` compares the lines one after the other.
use Rattle.sets.proofs.Rows.{fewest-by}
use borrow.Author.Rules.{rules}
use Rattle.sets.proofs.fewest_of.Goals as goal

pub returns : goal.returns
returns c = search (rules, fewest-by)
