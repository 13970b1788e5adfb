-- `one_of` counts an entry.
use Rattle.std.proofs.Common.{eqb}
use Rattle.sets.proofs.Rows.{one-is}
use Rattle.sets.proofs.one_of.Goals as goal

pub returns : goal.returns
returns c = one-is (eqb c.args.x 0) _ c.from.ensures
