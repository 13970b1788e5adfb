-- `used` writes a row of ones, then a zero into each row: the rows below the index are cleared.
use native.Mathlib.Numerals.{add-one}
use native.Mathlib.Omega.{arith}
use mathlib.Core.Path.{◌≡◌, refl}
use Rattle.sets.specs.Matrices.{used as used_of, cleared}
use Rattle.sets.proofs.used.Goals as goal

pub loop-row-init : goal.loop-row-init
unfolding cleared
loop-row-init c = refl

pub loop-row-preserved : goal.loop-row-preserved
unfolding cleared
loop-row-preserved c = rw (add-one, c.loop-row.invariant) refl

pub returns : goal.returns
unfolding used_of
returns c = let e : c.loop-row.row-index ≡ 4 = omega arith in rw e at c.loop-row.invariant
