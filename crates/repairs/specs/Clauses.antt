-- The contract of `repair`: the report, the board after it and the flags, whatever stands in the scratch; and where the call is refused or the lengths are
-- wrong the scratch stays as it was.
use Rattle.std.specs.Prelude.{◌≡◌, false, ◌&&◌, eqb, length}
use Rattle.board.specs.declared.Shape.{Shape}
use Rattle.stores.specs.Lent.{Buffer}
use Rattle.machine.specs.Boards.{Board, fits_board, with_store}
use Rattle.dumps.specs.Checks.{room_for}
use Rattle.dumps.specs.Clauses.{Kept}
use Rattle.dumps.specs.declared.Report.{Report}
use Rattle.repairs.specs.Repairs.{repair_outcome, repair_call}

-- b is the board before, c the board after
pub record Repair (s : Shape) (b : Board) (keys links flags : Buffer) (r : Report) (c : Board) : Type 0 where
  -- all of the board but its store is as it was: slots, words, tag
  pub rest_kept : c ≡ with_store b c.store
  pub outcome_is : repair_outcome r c.store flags.after ≡ repair_call s b (length keys.before) (length links.before) flags.before
  pub scratch_kept : (fits_board s b && (room_for s (length keys.before) (length links.before) && eqb (length flags.before) s.lines)) ≡ false
      → Kept keys × Kept links
