-- `lowest_stale` looks from record to record: the search from `i` on is the whole.
use Prim.Native.Nat.{◌-◌}
use mathlib.Core.Path.{◌≡◌}
use Rattle.board.specs.Searches.{first}
use Rattle.dump_lines.specs.Dumped.{store_in}
use Rattle.dump_lines.specs.Lines.{stale}
use Rattle.dump_lines.proofs.Dump.lowest_stale.Given as goal

abbrev pub invariant-loop-i : goal.invariant-loop-i
invariant-loop-i l =
    first (stale l.self.shape (store_in l.self)) 0 l.self.shape.lines
    ≡ first (stale l.self.shape (store_in l.self)) l.i (l.self.shape.lines - l.i)
