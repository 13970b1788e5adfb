-- `sets_of` counts the sets, of four lines or of one.
use Rattle.lines.proofs.Holders.{sets-four, sets-single}
use Rattle.lines.proofs.sets_of.Goals as goal

pub returns-then-s-eq-SET_LINES : goal.returns-then-s-eq-SET_LINES
returns-then-s-eq-SET_LINES c = sets-four _ c.requires c.if-s-eq-SET_LINES.true

pub returns : goal.returns
returns c = sets-single _ c.requires c.if-s-eq-SET_LINES.false
