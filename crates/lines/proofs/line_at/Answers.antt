-- `line_at` reads the two words of a record.
use Prim.Native.Nat.{◌+◌, ◌*◌}
use mathlib.Core.Path.{refl}
use native.Mathlib.Omega.{arith}
use Rattle.lines.specs.Records.{line_at}
use Rattle.lines.proofs.line_at.Goals as goal

pub returns : goal.returns
unfolding line_at
returns c = (refl, omega (arith, c.type_inv.records (2 * c.args.i + 1)))
