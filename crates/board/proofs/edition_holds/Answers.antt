-- `edition_holds` asks for four lines where a set has four, and else for one line in a set.
use Rattle.board.proofs.Shapes.{edition-four, edition-other}
use borrow.Author.Rules.{rules}
use Rattle.board.proofs.edition_holds.Goals as goal

pub returns-then-s-eq-SET_LINES : goal.returns-then-s-eq-SET_LINES
returns-then-s-eq-SET_LINES c = search (rules, edition-four)

pub returns : goal.returns
returns c = search (rules, edition-other)
