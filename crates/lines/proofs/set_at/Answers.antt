-- `set_at` is the place of a record.
use Rattle.lines.proofs.Holders.{set-four, set_single}
use borrow.Author.Rules.{rules}
use Rattle.lines.proofs.set_at.Goals as goal

pub returns-then-s-eq-SET_LINES : goal.returns-then-s-eq-SET_LINES
returns-then-s-eq-SET_LINES c = search (rules, set-four)

pub returns : goal.returns
returns c = search (rules, set_single)
