-- `has_room` asks the scratch's lengths.
use mathlib.Core.Path.{refl}
use Rattle.dumps.proofs.has_room.Goals as goal

pub returns : goal.returns
returns c = refl
