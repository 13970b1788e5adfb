-- `seek` goes down the tree: what the search finds from here, it finds from the start.
use native.Mathlib.Omega.{arith}
use Rattle.doubles.proofs.Trees.{at-start, at_on, at_less, sought-taken, sought-open}
use borrow.Author.Rules.{rules}
use Rattle.doubles.proofs.seek.Goals as goal

pub loop-node-init : goal.loop-node-init
loop-node-init c = search (rules, at-start)

pub returns-then-next-eq0 : goal.returns-then-next-eq0
returns-then-next-eq0 c = search (rules, sought-open)

pub loop-node-smaller : goal.loop-node-smaller
loop-node-smaller c = omega (arith, at_less _ _ _ _ _ _ c.loop-node.invariant c.loop-node-test.true c.requires.0 c.requires.2 c.requires.1 c.requires.3 c.if-next-eq0.false)

pub loop-node-preserved : goal.loop-node-preserved
loop-node-preserved c = search (rules, at_on)

pub returns : goal.returns
returns c = search (rules, sought-taken)
