-- `doubled_line` searches the keys of the places.
use borrow.Author.Rules.{rules}
use Rattle.dump_lines.proofs.Lines.{doubled-line-by}
use Rattle.dump_lines.proofs.Dump.doubled_line.Goals as goal

pub returns : goal.returns
returns c = doubled-line-by _ _ _ _ _ _ _ _ c.place_keys.ensures (search rules) c.lowest_double.ensures.0
