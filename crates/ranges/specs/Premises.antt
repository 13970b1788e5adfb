-- What the code inside asks of its callers. No call's definition needs this.
use Rattle.std.specs.Prelude.{ℕ, ◌≤◌, ◌<◌, ◌≡◌}
use Rattle.std.specs.Int.Count.{ones}
use Rattle.board.specs.Shapes.{max_lines}

-- one of the places of a cache with so many sets
abbrev pub IsPlace : ℕ → ℕ → Type 0
IsPlace sets place = (ones sets ≡ 1) × (sets ≤ max_lines) × (place < sets)
