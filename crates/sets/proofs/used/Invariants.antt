-- `used` writes a row of ones, then a zero into each row: the rows below the index are cleared.
use Rattle.std.proofs.Common.{◌≡◌, set}
use Rattle.sets.specs.Matrices.{all_ones, cleared}
use Rattle.sets.proofs.used.Given as goal

abbrev pub invariant-loop-row : goal.invariant-loop-row
invariant-loop-row l = l.row-items ≡ cleared l.row-index l.r (set l.fn.m l.r all_ones)
