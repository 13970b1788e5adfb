-- `way_to` looks for a record, then for a home.
use native.Mathlib.Omega.{arith}
use Rattle.lines.proofs.Sets.{holder-inside}
use Rattle.reach.proofs.Reach.{way_at, way-line, way-nowhere}
use borrow.Author.Rules.{rules}
use Rattle.reach.proofs.way_to.Goals as goal

pub line_at-l-requires : goal.line_at-l-requires
line_at-l-requires c = omega (arith, holder-inside _ _ _ _ _ c.holder_of.ensures c.in-Some.is c.requires.0)

pub returns-in-Some : goal.returns-in-Some
returns-in-Some c = search (rules, way_at)

pub returns-in_ok-home-in-None : goal.returns-in_ok-home-in-None
returns-in_ok-home-in-None c = search (rules, way-line)

pub returns-in_err-home-in-None : goal.returns-in_err-home-in-None
returns-in_err-home-in-None c = rw c.from_residual.ensures (search (rules, way-nowhere))
