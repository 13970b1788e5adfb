-- `write_back` copies a held and changed line: its physical line is inside memory.
use native.Mathlib.Omega.{arith}
use Rattle.lines.proofs.Holders.{holds-inside}
use Rattle.stores.proofs.Stores.{written-not, written-clean, written-now, writes-not, writes-clean, writes-now}
use borrow.Author.Rules.{rules}
use Rattle.stores.proofs.write_back.Goals as goal
use Rattle.stores.proofs.write_back.Goals.{else-holds-via-then-holds+else-l, else-holds-via-else-holds}

pub copy_line-requires : goal.copy_line-requires
copy_line-requires c = omega (arith, holds-inside _ _ _ _ c.holds.ensures c.if-holds.true)

pub returns-then-l : goal.returns-then-l
returns-then-l c = (search (rules, written-now), search (rules, writes-now))

pub returns : goal.returns
returns c = elim c.else-holds.branch [
  | else-holds-via-then-holds+else-l w ↦ (search (rules, written-clean), search (rules, writes-clean))
  | else-holds-via-else-holds w ↦ (search (rules, written-not), search (rules, writes-not))
]
