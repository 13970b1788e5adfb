-- `same_line` compares two parts of the buffers.
use Rattle.dump_lines.proofs.Lines.{lines-same}
use Rattle.dump_lines.proofs.same_line.Goals as goal

pub returns : goal.returns
returns c = lines-same _ _ _ _ _ c.eq.ensures
