-- `mend_lines` asks the checker, then repairs.
use Rattle.repairs.proofs.Mended.{lines-mended}
use borrow.Author.Rules.{rules}
use Rattle.repairs.proofs.mend_lines.Goals as goal

pub repair_lines-dropped-requires : goal.repair_lines-dropped-requires
repair_lines-dropped-requires c = (search rules, search rules, search rules, search rules, search rules, search rules)

pub returns : goal.returns
returns c = search (rules, lines-mended)
