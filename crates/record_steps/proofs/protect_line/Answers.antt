-- `protect_line` changes a held line of the page, and no other.
use Rattle.record_steps.proofs.Single.{permitted-now, permitted-not}
use borrow.Author.Rules.{rules}
use Rattle.record_steps.proofs.protect_line.Goals as goal

pub returns-then-h-l : goal.returns-then-h-l
returns-then-h-l c = search (rules, permitted-now)

pub returns : goal.returns
returns c = search (rules, permitted-not)
