-- What the code of load-and-map decides before it changes anything: why it refuses, or the permission it goes on with.
use Rattle.std.specs.Prelude.{ℕ, Bool, List, Result}
use Rattle.board.specs.declared.Shape.{Shape}
use Rattle.board.specs.declared.Pending.{Pending}
use Rattle.board.specs.declared.Refusal.{Refusal}
use Rattle.machine.specs.Refusals.{checked}
use Rattle.machine.specs.Calls.{home_rows, load_rows, name_writes}

-- numbers 8 and 13 of load-and-map, or the page's permission
unfoldable pub load_frame : Shape → List ℕ → ℕ → ℕ → Result Bool Refusal
load_frame s words name line = checked (home_rows s words name line) (name_writes s words name)

-- numbers 2, 3, 8 and 13 of load-and-map, or the page's permission
unfoldable pub load_check : Shape → List ℕ → Pending → ℕ → Result Bool Refusal
load_check s words tag line = checked (load_rows s words tag line) (name_writes s words tag.name)
