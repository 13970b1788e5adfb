-- The contract of `check`: the report, by the lengths of the scratch alone, whatever stands in it; and where nothing is to be checked the scratch stays as
-- it was.
use Rattle.std.specs.Prelude.{◌≡◌, false, ◌&&◌, length}
use Rattle.board.specs.declared.Shape.{Shape}
use Rattle.stores.specs.Lent.{Buffer}
use Rattle.machine.specs.Boards.{Board, fits_board}
use Rattle.dumps.specs.Checks.{room_for, check_call}
use Rattle.dumps.specs.declared.Report.{Report}

-- a buffer is as it was
abbrev pub Kept : Buffer → Type 0
Kept l = l.after ≡ l.before

-- the two buffers of scratch, where the lengths of the board or of the scratch are wrong
abbrev pub ScratchKept : Shape → Board → Buffer → Buffer → Type 0
ScratchKept s b keys links = (fits_board s b && room_for s (length keys.before) (length links.before)) ≡ false → Kept keys × Kept links

pub record Check (s : Shape) (b : Board) (keys links : Buffer) (r : Report) : Type 0 where
  pub report_is : r ≡ check_call s b (length keys.before) (length links.before)
  pub scratch_kept : ScratchKept s b keys links
