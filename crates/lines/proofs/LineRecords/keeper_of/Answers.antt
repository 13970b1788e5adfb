-- `keeper_of` looks from record to record: the search from `i` on is the whole.
use mathlib.Core.Path.{◌∙◌, sym}
use native.Mathlib.Nat.{sub-zero}
use Rattle.board.proofs.Searches.{first-here, first_more, first-end}
use Rattle.lines.specs.Holds.{keeper_of}
use borrow.Author.Rules.{rules}
use Rattle.lines.proofs.LineRecords.keeper_of.Goals as goal

pub loop-i-init : goal.loop-i-init
unfolding keeper_of
loop-i-init c = rw sub-zero

pub returns-then-keeps : goal.returns-then-keeps
unfolding keeper_of
returns-then-keeps c = sym (c.loop-i.invariant ∙ search (rules, first-here))

pub loop-i-preserved : goal.loop-i-preserved
unfolding keeper_of
loop-i-preserved c = c.loop-i.invariant ∙ search (rules, first_more)

pub returns : goal.returns
unfolding keeper_of
returns c = sym (c.loop-i.invariant ∙ search (rules, first-end))
