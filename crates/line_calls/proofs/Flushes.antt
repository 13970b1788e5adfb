-- Flush all: its return.
use Rattle.std.specs.Prelude.{Result, Ok}
use Prim.Native.Nat.{ℕ}
use mathlib.Core.Path.{◌≡◌}
use mathlib.Core.List.{List}
use lib.ListN.{length}
use Rattle.board.specs.Answers.{answer}
use Rattle.board.specs.Shapes.{fits_shape}
use Rattle.board.specs.declared.Shape.{Shape}
use Rattle.board.specs.Refusals.{fit}
use Rattle.board.specs.declared.Refusal.{Refusal}
use Rattle.board.specs.declared.Pending.{Pending}
use Rattle.lines.specs.Victims.{Uses}
use Rattle.stores.specs.Stores.{store}
use Rattle.visits.specs.Visits.{flush_visit, visited_all}
use Rattle.visits.specs.declared.Visit.{Visit}
use Rattle.machine.specs.Boards.{sets_board, outcome}
use Rattle.machine.specs.Refusals.{by_table}
use Rattle.machine.specs.Calls.{flush_all}
use Rattle.machine.proofs.Fits.{fitted}

pub flush-done : (s : Shape) (slots w r c m : List ℕ) (u : Uses) (tag : Pending) (t : Result Unit Refusal)
    → t ≡ fit (fits_shape s (length slots) (length w) (length r) (length c) (length m) (length u)) → t ≡ Ok tt
    → (v : Visit) (r₁ m₁ : List ℕ) → v ≡ flush_visit → store r₁ c m₁ ≡ visited_all s v (store r c m)
    → outcome (answer 0 0 0) (sets_board slots w r₁ c m₁ u tag) ≡ flush_all s (sets_board slots w r c m u tag)
unfolding flush_all by_table
flush-done s slots w r c m u tag t f h v r₁ m₁ k e = rw (← fitted s slots w r c m u t f h, ← k, ← e)
