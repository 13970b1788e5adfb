-- `double_in` walks the places: no place below `best` stands again among those passed.
use borrow.Author.Rules.{rules}
use Rattle.doubles.proofs.Doubles.{best-start, best-lower, best-same, best-at, best_none}
use Rattle.doubles.proofs.double_in.Goals as goal
use Rattle.doubles.proofs.double_in.Goals.{then-at-i, else-at-i}

pub loop-i-init : goal.loop-i-init
loop-i-init c = search (rules, best-start)

pub loop-i-preserved : goal.loop-i-preserved
loop-i-preserved c = (
  search rules,
  search rules,
  elim c.if-at-i.branch [ then-at-i w ↦ search (rules, best-lower) | else-at-i w ↦ search (rules, best-same) ],
)

pub returns-then-best-keys : goal.returns-then-best-keys
returns-then-best-keys c = search (rules, best-at)

pub returns : goal.returns
returns c = search (rules, best_none)
