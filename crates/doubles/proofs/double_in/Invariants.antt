-- `double_in` walks the places: no place below `best` stands again among those passed.
use mathlib.Core.Path.{◌≡◌}
use lib.ListN.{length}
use Rattle.doubles.specs.Trees.{Tree}
use Rattle.doubles.proofs.Doubles.{Best}
use Rattle.doubles.proofs.double_in.Given as goal

abbrev pub invariant-loop-i : goal.invariant-loop-i
invariant-loop-i l = Tree l.keys l.links l.i × (length l.links ≡ length l.initial.links) × Best l.keys l.best l.i
