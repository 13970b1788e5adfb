-- What the code inside asks of its callers, and how it looks through a set. No call's definition needs this: a public call asks nothing.
use Rattle.std.specs.Prelude.{ℕ, zero, suc, ◌≤◌, ◌≡◌, Bool, true, cond, List, eqb}
use Rattle.std.specs.Int.Count.{ones}
use Rattle.board.specs.Shapes.{max_frames, max_lines, edition_holds}
use Rattle.board.specs.declared.Shape.{Shape}
use Rattle.lines.specs.Records.{line_at}

-- the shape is one that is accepted, by what is asked of lines and frames
pub record Lined (s : Shape) : Type 0 where
  pub one : ones s.lines ≡ 1
  pub edition : edition_holds s ≡ true
  pub lines_max : s.lines ≤ max_lines
  pub frames_max : s.frames ≤ max_frames

-- record i has this name, held or not
unfoldable pub has_name : List ℕ → ℕ → ℕ → Bool
has_name records name i = eqb (line_at records i).name name

-- the lowest of the n numbers from i on that passes, else the end
unfoldable pub first_or : (ℕ → Bool) → ℕ → ℕ → ℕ
first_or test i zero = i
first_or test i (suc n) = cond (test i) i (first_or test (suc i) n)
