-- `not_of` compares 32 bits: where these differ, the words do.
use Rattle.pages.proofs.Frames.{other-bits}
use Rattle.pages.proofs.not_of.Goals as goal

pub returns : goal.returns
returns c = other-bits _ _
