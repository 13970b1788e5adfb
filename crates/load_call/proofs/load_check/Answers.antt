-- `load_check` asks the line and the tag, then the home.
use Rattle.load_call.proofs.Loads.{check-outside, check-empty, check-home}
use borrow.Author.Rules.{rules}
use Rattle.load_call.proofs.load_check.Goals as goal

pub returns-then-line-map : goal.returns-then-line-map
returns-then-line-map c = search (rules, check-outside)

pub returns-then-not-pending : goal.returns-then-not-pending
returns-then-not-pending c = search (rules, check-empty)

pub returns : goal.returns
returns c = search (rules, check-home)
