-- `lengths_agree` compares what the definition compares, buffer by buffer.
use mathlib.Core.Path.{refl}
use Rattle.board.proofs.lengths_agree.Goals as goal

pub returns : goal.returns
returns c = rw c.matrices-matrices.ensures refl
