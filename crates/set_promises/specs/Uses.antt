-- CR 4: what a use makes of a matrix, which calls change which matrices, and that drops leave them. (A refused call leaves everything: demand 1)
use Rattle.std.specs.Prelude.{ℕ, ◌<◌, ◌≡◌, Bool, cond, eqb, Option, Some, None}
use Rattle.board.specs.Shapes.{set_lines}
use Rattle.board.specs.declared.Shape.{Shape}
use Rattle.sets.specs.Matrices.{Matrix, entry_at, Square, used}
use Rattle.lines.specs.Victims.{Uses, used_in}
use Rattle.machine.specs.Boards.{Board}
use Rattle.promises.specs.Runs.{map, unmap, protect, move, flush_all, Call, supervisor, step}
use Rattle.set_promises.specs.LastUses.{used_by}

-- a use of the record, if there is one
unfoldable pub used_if : Shape → Uses → Option ℕ → Uses
used_if s uses (Some i) = used_in s uses i
used_if s uses None = uses

-- of any matrix of four rows of four, wild ones too
pub record EntriesTold : Type 0 where
  -- a use of line r makes its column 0 and the rest of its row 1; other entries stay
  pub entries : (m : Matrix) (r a b : ℕ) → Square m → r < set_lines → a < set_lines → b < set_lines
      → entry_at (used m r) a b ≡ cond (eqb b r) 0 (cond (eqb a r) 1 (entry_at m a b))
  -- it stays four rows of four
  pub still_square : (m : Matrix) (r : ℕ) → Square m → r < set_lines → Square (used m r)

-- of any board
pub record UsesTold : Type 0 where
  -- the matrices after a call are those before it, with the use of the record that the call uses
  pub by_use : (s : Shape) (b : Board) (k : Call) → (step s b k).after.uses ≡ used_if s b.uses (used_by s b k)
  -- the calls that drop lines, move among them (CR 9), and protect leave every matrix
  pub map_leaves : (s : Shape) (b : Board) (page frame : ℕ) (write : Bool) → (step s b (supervisor (map page frame write))).after.uses ≡ b.uses
  pub unmap_leaves : (s : Shape) (b : Board) (page : ℕ) → (step s b (supervisor (unmap page))).after.uses ≡ b.uses
  pub protect_leaves : (s : Shape) (b : Board) (page : ℕ) (write : Bool) → (step s b (supervisor (protect page write))).after.uses ≡ b.uses
  pub move_leaves : (s : Shape) (b : Board) (page new : ℕ) → (step s b (supervisor (move page new))).after.uses ≡ b.uses
  pub flush_leaves : (s : Shape) (b : Board) → (step s b (supervisor flush_all)).after.uses ≡ b.uses
