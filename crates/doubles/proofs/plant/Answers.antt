-- `plant` opens every link.
use borrow.Author.Rules.{rules}
use Rattle.doubles.proofs.Trees.{tree-empty}
use Rattle.doubles.proofs.plant.Goals as goal

pub returns : goal.returns
returns c = (search rules, tree-empty _ _ _ (c.fill.ensures.after (λ y h. h)))
