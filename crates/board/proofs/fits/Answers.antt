-- `fits` is the shape check: the limits first, since the lengths are products that have to fit.
use Rattle.board.proofs.Shapes.{limits-frames, limits-processes, limits-lines, fits-lengths, fits_not}
use borrow.Author.Rules.{rules}
use Rattle.board.proofs.fits.Goals as goal

pub lengths_agree-requires : goal.lengths_agree-requires
lengths_agree-requires c = search (rules, limits-frames, limits-processes, limits-lines)

pub returns-then-limits_hold : goal.returns-then-limits_hold
returns-then-limits_hold c = search (rules, fits-lengths)

pub returns : goal.returns
returns c = search (rules, fits_not)
