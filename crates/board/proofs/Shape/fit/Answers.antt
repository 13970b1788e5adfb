-- `Shape::fit` says what `fits` says. By name, so that another length is told by the fact.
use Rattle.board.proofs.Shape.fit.Goals as goal

pub returns-then-fits : goal.returns-then-fits
returns-then-fits c = rw (← c.fits.ensures, c.if-fits.true)

pub returns : goal.returns
returns c = rw (← c.fits.ensures, c.if-fits.false)
