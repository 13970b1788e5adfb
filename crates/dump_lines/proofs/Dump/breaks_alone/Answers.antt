-- `breaks_alone` is rule 4 or rule 5.
use borrow.Author.Rules.{rules}
use Rattle.dump_lines.proofs.Lines.{breaks-either}
use Rattle.dump_lines.proofs.Dump.breaks_alone.Goals as goal

pub returns : goal.returns
returns c = search (rules, breaks-either)
