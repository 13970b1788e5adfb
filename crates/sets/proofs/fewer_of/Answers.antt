-- `fewer_of` compares the ones of two rows.
use Rattle.sets.proofs.Rows.{fewer-first, fewer-second}
use borrow.Author.Rules.{rules}
use Rattle.sets.proofs.fewer_of.Goals as goal

pub returns-then-ones_of : goal.returns-then-ones_of
returns-then-ones_of c = search (rules, fewer-first)

pub returns-else-ones_of : goal.returns-else-ones_of
returns-else-ones_of c = search (rules, fewer-second)
