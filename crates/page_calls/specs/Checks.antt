-- What the code of unmap and protect, and of move for its old page, decides before it changes anything: a refusal, or the frame it goes on with.
use Rattle.std.specs.Prelude.{ℕ, List, Result}
use Rattle.pages.specs.Pages.{mapped_to}
use Rattle.board.specs.declared.Refusal.{Refusal}
use Rattle.board.specs.declared.Shape.{Shape}
use Rattle.machine.specs.Refusals.{checked}
use Rattle.machine.specs.Calls.{found_frame, page_rows}

-- numbers 2 and 8 of such a call, or the page's frame
unfoldable pub page_frame : Shape → List ℕ → ℕ → Result ℕ Refusal
page_frame s words page = checked (page_rows s words page) (found_frame (mapped_to s words page))
