-- `holds_name` compares the name before the rest.
use Rattle.lines.proofs.Holders.{holds_named, holds-other}
use borrow.Author.Rules.{rules}
use Rattle.lines.proofs.LineRecords.holds_name.Goals as goal

pub returns-then-l-name : goal.returns-then-l-name
returns-then-l-name c = search (rules, holds_named)

pub returns-else-l-name : goal.returns-else-l-name
returns-else-l-name c = search (rules, holds-other)
