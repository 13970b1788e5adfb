-- `place` puts a place at the open link where its search ended.
use native.Mathlib.Omega.{arith}
use borrow.Author.Rules.{rules}
use Rattle.doubles.proofs.Trees.{placed-root, placed-none, placed-taken, placed-open, open-inside}
use Rattle.doubles.proofs.place.Goals as goal

pub returns-then-i-eq0 : goal.returns-then-i-eq0
returns-then-i-eq0 c = search (rules, placed-root)

pub returns-then-keys-i-eq0 : goal.returns-then-keys-i-eq0
returns-then-keys-i-eq0 c = search (rules, placed-none)

pub offset_bounds-links-slot : goal.offset_bounds-links-slot
offset_bounds-links-slot c = omega (arith, open-inside _ _ _ _ _ c.seek.ensures c.in-Open.is)

pub bounds-links-slot : goal.bounds-links-slot
bounds-links-slot c = omega (arith, open-inside _ _ _ _ _ c.seek.ensures c.in-Open.is)

pub returns-in-Taken : goal.returns-in-Taken
returns-in-Taken c = search (rules, placed-taken)

pub returns-in-Open : goal.returns-in-Open
returns-in-Open c = placed-open _ _ _ c.requires.0 _ _ c.if-keys-i-eq0.false (omega arith) (omega arith) c.seek.ensures c.in-Open.is
