-- CR 1: "The program replays up to 8 frames, 64 lines and 16 processes".
use Rattle.std.specs.Prelude.{ℕ, ◌≤◌}
use Rattle.board.specs.declared.Shape.{Shape}

abbrev pub most_frames : ℕ
most_frames = 8

abbrev pub most_lines : ℕ
most_lines = 64

abbrev pub most_processes : ℕ
most_processes = 16

-- a board that the program takes
pub record Small (s : Shape) : Type 0 where
  pub frames : s.frames ≤ most_frames
  pub lines : s.lines ≤ most_lines
  pub processes : s.processes ≤ most_processes
