-- `lowest_astray` looks from record to record: the search from `i` on is the whole.
use Prim.Native.Nat.{◌-◌}
use mathlib.Core.Path.{◌≡◌}
use Rattle.board.specs.Searches.{first}
use Rattle.dump_lines.specs.Dumped.{homes_in, store_in}
use Rattle.dump_lines.specs.Lines.{astray}
use Rattle.dump_lines.proofs.Dump.lowest_astray.Given as goal

abbrev pub invariant-loop-i : goal.invariant-loop-i
invariant-loop-i l =
    first (astray l.self.shape (homes_in l.self) (store_in l.self)) 0 l.self.shape.lines
    ≡ first (astray l.self.shape (homes_in l.self) (store_in l.self)) l.i (l.self.shape.lines - l.i)
