-- `lowest_stale` looks from record to record: the search from `i` on is the whole.
use mathlib.Core.Path.{◌∙◌, sym}
use native.Mathlib.Nat.{sub-zero}
use borrow.Author.Rules.{rules}
use Rattle.board.proofs.Searches.{first-here, first_more, first-end}
use Rattle.dump_lines.proofs.Dump.lowest_stale.Goals as goal

pub loop-i-init : goal.loop-i-init
loop-i-init c = rw sub-zero

pub returns-then-is_stale : goal.returns-then-is_stale
returns-then-is_stale c = sym (c.loop-i.invariant ∙ search (rules, first-here))

pub loop-i-preserved : goal.loop-i-preserved
loop-i-preserved c = c.loop-i.invariant ∙ search (rules, first_more)

pub returns : goal.returns
returns c = sym (c.loop-i.invariant ∙ search (rules, first-end))
