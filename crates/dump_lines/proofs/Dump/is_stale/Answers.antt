-- `is_stale` asks held and unchanged records only.
use native.Mathlib.Omega.{arith}
use borrow.Author.Rules.{rules}
use Rattle.lines.proofs.Holders.{holds-inside}
use Rattle.dump_lines.proofs.Lines.{stale-none, stale-changed, stale-held}
use Rattle.dump_lines.proofs.Dump.is_stale.Goals as goal

pub returns-then-l : goal.returns-then-l
returns-then-l c = search (rules, stale-changed)

pub same_line-requires : goal.same_line-requires
same_line-requires c = let d = c.args.self.now in let h = holds-inside _ _ _ _ c.holds.ensures c.if-holds.true in (omega (arith, d.sized.cache_is), omega (arith, h, d.sized.memory_is))

pub returns-then-holds : goal.returns-then-holds
returns-then-holds c = search (rules, stale-held)

pub returns : goal.returns
returns c = search (rules, stale-none)
