-- `place_of` is the remainder: the number of sets has one bit set.
use mathlib.Core.Path.{refl}
use native.Mathlib.Omega.{arith}
use native.Mathlib.Nat.{mod-lt}
use Rattle.lines.proofs.OneBit.{one-bit-lt, one_shl, one-pos}
use Rattle.lines.proofs.place_of.Goals as goal

pub overflow_cast-result : goal.overflow_cast-result
overflow_cast-result c = omega (arith, one-bit-lt 64 _ c.ranges.sets.fits c.requires)

pub overflow_shl-result : goal.overflow_shl-result
overflow_shl-result c = one-bit-lt 64 _ c.ranges.sets.fits c.requires

pub nonzero_rem-result : goal.nonzero_rem-result
nonzero_rem-result c = rw (one_shl _ c.ranges.sets.fits c.requires) (one-pos _ c.ranges.sets.fits c.requires)

pub returns : goal.returns
returns c = rw (one_shl _ c.ranges.sets.fits c.requires) (refl, mod-lt _ (one-pos _ c.ranges.sets.fits c.requires))
