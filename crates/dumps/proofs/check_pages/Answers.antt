-- `check_pages` is rule 2, then 3 to 5.
use Rattle.dumps.proofs.Checks.{or_at, or_later}
use borrow.Author.Rules.{rules}
use Rattle.dumps.proofs.check_pages.Goals as goal

pub returns-in-Some : goal.returns-in-Some
returns-in-Some c = search (rules, or_at)

pub returns-in-None : goal.returns-in-None
returns-in-None c = search (rules, or_later)
