-- What the code of map decides before it changes anything.
use Rattle.std.specs.Prelude.{ℕ, List, Result}
use Rattle.board.specs.declared.Refusal.{Refusal}
use Rattle.board.specs.declared.Shape.{Shape}
use Rattle.machine.specs.Refusals.{checked}
use Rattle.machine.specs.Calls.{map_rows}

-- numbers 2, 10 and 11 of map, or nothing against it
unfoldable pub map_check : Shape → List ℕ → ℕ → ℕ → Result Unit Refusal
map_check s words page frame = checked (map_rows s words page frame) tt
