-- What the code of move decides before it changes anything: a refusal, or the frame it goes on with.
use Rattle.std.specs.Prelude.{ℕ, List, Result}
use Rattle.pages.specs.Pages.{mapped_to}
use Rattle.board.specs.declared.Refusal.{Refusal}
use Rattle.board.specs.declared.Shape.{Shape}
use Rattle.machine.specs.Refusals.{checked}
use Rattle.machine.specs.Calls.{found_frame, move_rows}

-- numbers 2, 8 and 11 of move, or the old page's frame
unfoldable pub move_frame : Shape → List ℕ → ℕ → ℕ → Result ℕ Refusal
move_frame s words page new = checked (move_rows s words page new) (found_frame (mapped_to s words page))
