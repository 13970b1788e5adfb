-- `zero_frame` fills: what the lent frame leaves.
use Rattle.line_bytes.specs.Bytes.{zeros}
use Rattle.line_bytes.proofs.Bytes.{zero-lent}
use borrow.Author.Rules.{rules}
use Rattle.line_bytes.proofs.zero_frame.Goals as goal

pub returns : goal.returns
unfolding zeros
returns c = let a = c.args in simp (c.fill.ensures.after (λ y h. h)) (zero-lent a.memory.now a.frame (search rules))
