-- `memory_access` stores or loads past the cache.
use Rattle.line_access.proofs.Lines.{memory-stored, memory-loaded}
use borrow.Author.Rules.{rules}
use Rattle.line_access.proofs.memory_access.Goals as goal

pub returns-then-a : goal.returns-then-a
returns-then-a c = search (rules, memory-stored)

pub returns : goal.returns
returns c = search (rules, memory-loaded)
