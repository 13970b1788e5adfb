-- `taken` is the lesser of the two.
use Rattle.std.proofs.Common.{◌∙◌, refl, arith}
use Rattle.ranges.proofs.Places.{lesser}
use Rattle.ranges.proofs.taken.Goals as goal

pub returns : goal.returns
returns c = (c.min.ensures ∙ lesser c.args.names c.args.room _ refl, omega (arith, c.min.ensures))
