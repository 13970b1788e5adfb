-- `fit_lines` asks the shape.
use Rattle.record_steps.proofs.Decided.{lines-fit, lines-unfit}
use Rattle.record_steps.proofs.fit_lines.Goals as goal

pub returns-then-fits : goal.returns-then-fits
returns-then-fits c = lines-fit _ _ _ _ _ _ _ c.fits.ensures c.if-fits.true

pub returns : goal.returns
returns c = lines-unfit _ _ _ _ _ _ _ c.fits.ensures c.if-fits.false
