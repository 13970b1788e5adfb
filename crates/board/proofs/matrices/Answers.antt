-- `matrices` counts the sets of four.
use Rattle.board.proofs.Shapes.{matrices-four, matrices-none}
use borrow.Author.Rules.{rules}
use Rattle.board.proofs.matrices.Goals as goal

pub returns-then-s-eq-SET_LINES : goal.returns-then-s-eq-SET_LINES
returns-then-s-eq-SET_LINES c = search (rules, matrices-four)

pub returns : goal.returns
returns c = search (rules, matrices-none)
