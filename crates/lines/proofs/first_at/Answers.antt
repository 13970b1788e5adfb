-- `first_at` is the first record of a place.
use native.Mathlib.Omega.{arith}
use Rattle.lines.proofs.Holders.{first-four, first-single}
use Rattle.lines.proofs.first_at.Goals as goal

pub overflow_mul-result : goal.overflow_mul-result
overflow_mul-result c = omega (arith, c.requires.0.lines_max, (first-four _ c.requires.0 c.if-s-eq-SET_LINES.true _ c.requires.1).1)

pub returns-then-s-eq-SET_LINES : goal.returns-then-s-eq-SET_LINES
returns-then-s-eq-SET_LINES c = first-four _ c.requires.0 c.if-s-eq-SET_LINES.true _ c.requires.1

pub returns : goal.returns
returns c = first-single _ c.requires.0 c.if-s-eq-SET_LINES.false _ c.requires.1
