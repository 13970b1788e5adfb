-- `holder_in` looks from record to record of a set, from the first that has the name: the search from `i` on is the whole.
use Prim.Native.Nat.{◌-◌}
use mathlib.Core.Path.{◌≡◌}
use Rattle.board.specs.Shapes.{set_lines}
use Rattle.board.specs.Searches.{first as lowest}
use Rattle.lines.specs.Holds.{holds_name}
use Rattle.lines.proofs.LineRecords.holder_in.Given as goal

abbrev pub invariant-loop-i : goal.invariant-loop-i
invariant-loop-i l = lowest (holds_name l.self.shape l.self.records.now l.name) l.first set_lines ≡ lowest (holds_name l.self.shape l.self.records.now l.name) l.i (l.i-end - l.i)
