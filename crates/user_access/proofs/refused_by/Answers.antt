-- `refused_by` asks for the value: one law a return.
use Rattle.user_access.proofs.Checks.{refused-value, refused-other}
use borrow.Author.Rules.{rules}
use Rattle.user_access.proofs.refused_by.Goals as goal

pub returns-then-too_large : goal.returns-then-too_large
returns-then-too_large c = search (rules, refused-value)

pub returns : goal.returns
returns c = search (rules, refused-other)
