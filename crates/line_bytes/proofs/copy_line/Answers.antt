-- `copy_line` copies by a local: what the lent line leaves.
use Rattle.line_bytes.proofs.Bytes.{line-lent}
use borrow.Author.Rules.{rules}
use Rattle.line_bytes.proofs.copy_line.Goals as goal

pub returns : goal.returns
returns c = let a = c.args in
    simp (c.copy_from_slice-2.ensures.after, c.copy_from_slice.ensures.after)
    (line-lent a.dst.now a.src.now a.i a.j (search rules) (search rules))
