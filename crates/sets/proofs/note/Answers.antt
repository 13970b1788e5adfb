-- `note` takes a matrix out, uses it and puts it back.
use mathlib.Core.Path.{refl}
use Rattle.sets.proofs.note.Goals as goal

pub returns : goal.returns
returns c = rw c.used.ensures refl
