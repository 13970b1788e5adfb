-- `empty_in` looks from record to record of a set: the search from `i` on is the whole.
use mathlib.Core.Path.{◌∙◌, refl, sym}
use Rattle.board.proofs.Searches.{first-start, first-end}
use Rattle.lines.proofs.Holders.{empty-here, empty-more}
use borrow.Author.Rules.{rules}
use Rattle.lines.proofs.LineRecords.empty_in.Goals as goal

pub loop-i-init : goal.loop-i-init
loop-i-init c = first-start _ _ _ _ refl

pub loop-i-preserved : goal.loop-i-preserved
loop-i-preserved c = c.loop-i.invariant ∙ search (rules, empty-more)

pub returns-then-not-holds : goal.returns-then-not-holds
returns-then-not-holds c = sym (c.loop-i.invariant ∙ search (rules, empty-here))

pub returns : goal.returns
returns c = sym (c.loop-i.invariant ∙ search (rules, first-end))
