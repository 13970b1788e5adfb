-- `mend_line` drops a held line that is not to be kept.
use Rattle.repairs.proofs.Repairs.{mended-drop, mended-keep, mended-gone}
use borrow.Author.Rules.{rules}
use Rattle.repairs.proofs.mend_line.Goals as goal

pub returns-then-gone : goal.returns-then-gone
returns-then-gone c = (search (rules, mended-drop), search (rules, mended-gone))

pub returns-else-gone : goal.returns-else-gone
returns-else-gone c = (search (rules, mended-keep), search (rules, mended-gone))
