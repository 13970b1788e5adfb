-- `visit_line` treats a held line of the names.
use Rattle.visits.proofs.Visits.{visited-treated, visited-none, visited-other}
use borrow.Author.Rules.{rules}
use Rattle.visits.proofs.Lines.visit_line.Goals as goal
use Rattle.visits.proofs.Lines.visit_line.Goals.{else-is_named-via-then-is_named+else-holds, else-is_named-via-else-is_named}

pub returns-then-holds-clause-visited : goal.returns-then-holds-clause-visited
returns-then-holds-clause-visited c = search (rules, visited-treated)

pub returns-else-is_named-clause-visited : goal.returns-else-is_named-clause-visited
returns-else-is_named-clause-visited c = elim c.else-is_named.branch [
  | else-is_named-via-then-is_named+else-holds w ↦ search (rules, visited-none)
  | else-is_named-via-else-is_named w ↦ search (rules, visited-other)
]
