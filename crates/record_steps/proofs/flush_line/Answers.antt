-- `flush_line` copies a held and changed line: its physical line is inside memory.
use native.Mathlib.Omega.{arith}
use Rattle.lines.proofs.Holders.{holds-inside}
use Rattle.record_steps.proofs.Single.{flushed-now, flushed-not, memory-now, memory-clean, memory-not}
use borrow.Author.Rules.{rules}
use Rattle.record_steps.proofs.flush_line.Goals as goal

pub copy_line-requires : goal.copy_line-requires
copy_line-requires c = omega (arith, holds-inside _ _ _ _ c.holds.ensures c.if-holds.true)

pub returns-then-l : goal.returns-then-l
returns-then-l c = search (rules, flushed-now, memory-now)

pub returns-else-l : goal.returns-else-l
returns-else-l c = search (rules, flushed-now, memory-clean)

pub returns : goal.returns
returns c = search (rules, flushed-not, memory-not)
