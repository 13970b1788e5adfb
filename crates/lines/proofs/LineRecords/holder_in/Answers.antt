-- `holder_in` looks from record to record of a set, from the first that has the name: the search from `i` on is the whole.
use mathlib.Core.Path.{◌∙◌, sym}
use Rattle.board.proofs.Searches.{first-here, first_more, first-end}
use Rattle.lines.proofs.Holders.{named_start}
use borrow.Author.Rules.{rules}
use Rattle.lines.proofs.LineRecords.holder_in.Goals as goal

pub loop-i-init : goal.loop-i-init
loop-i-init c = search (rules, named_start)

pub returns-then-holds_name : goal.returns-then-holds_name
returns-then-holds_name c = sym (c.loop-i.invariant ∙ search (rules, first-here))

pub loop-i-preserved : goal.loop-i-preserved
loop-i-preserved c = c.loop-i.invariant ∙ search (rules, first_more)

pub returns : goal.returns
returns c = sym (c.loop-i.invariant ∙ search (rules, first-end))
