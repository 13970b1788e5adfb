-- `seek` goes down the tree: what the search finds from here, it finds from the start.
use Prim.Native.Nat.{◌-◌}
use Rattle.doubles.proofs.Trees.{At}
use Rattle.doubles.proofs.seek.Given as goal

abbrev pub invariant-loop-node : goal.invariant-loop-node
invariant-loop-node l = At l.keys l.links l.i l.key l.node l.rest

abbrev pub decreases-loop-node : goal.decreases-loop-node
decreases-loop-node l = l.i - l.node
