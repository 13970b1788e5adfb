-- `keeper_of` looks from record to record: the search from `i` on is the whole.
use Prim.Native.Nat.{◌-◌}
use mathlib.Core.Path.{◌≡◌}
use Rattle.board.specs.Searches.{first}
use Rattle.lines.specs.Holds.{keeps_line, keeper_of}
use Rattle.lines.proofs.LineRecords.keeper_of.Given as goal

abbrev pub invariant-loop-i : goal.invariant-loop-i
invariant-loop-i l = keeper_of l.self.shape l.self.records.now l.line ≡ first (keeps_line l.self.shape l.self.records.now l.line) l.i (l.self.shape.lines - l.i)
