-- `empty_in` looks from record to record of a set: the search from `i` on is the whole.
use Prim.Native.Nat.{◌-◌}
use mathlib.Core.Path.{◌≡◌}
use Rattle.board.specs.Shapes.{set_lines}
use Rattle.board.specs.Searches.{first as lowest}
use Rattle.lines.specs.Victims.{is_empty}
use Rattle.lines.proofs.LineRecords.empty_in.Given as goal

abbrev pub invariant-loop-i : goal.invariant-loop-i
invariant-loop-i l = lowest (is_empty l.self.shape l.self.records.now) l.first set_lines ≡ lowest (is_empty l.self.shape l.self.records.now) l.i (l.i-end - l.i)
