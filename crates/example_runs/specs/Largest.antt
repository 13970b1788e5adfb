-- CR 7's numbers: a run on a board of 64 processes and 65,536 lines, in which the last process uses its last slot and its line has the last place;
-- and 65 processes and 131,072 lines, which every call refuses by 1.
use Rattle.std.specs.Prelude.{ℕ, ◌*◌, ◌-◌, ◌^◌, ◌≡◌, true, List, [], ◌∷◌}
use Rattle.address.specs.Layout.{line_bytes, page_bytes}
use Rattle.board.specs.Answers.{answer}
use Rattle.board.specs.declared.Shape.{Shape}
use Rattle.line_bytes.specs.Bytes.{zeros}
use Rattle.lines.specs.Records.{line_at, new_line, changed_line}
use Rattle.machine.specs.Boards.{Board, fresh}
use Rattle.promises.specs.Runs.{attach, map, Call, supervisor, after}
use Rattle.promises.specs.Limits.{Within, AsLong, By1}
use Rattle.example_runs.specs.Examples.{load, save, answers}

-- ---- at the limits

-- L is 2 to this power: 65,536
abbrev pub place_bits : ℕ
place_bits = 16

abbrev pub shape : Shape
shape = record { frames = 1; uncached = 0; processes = 64; lines = 2 ^ place_bits; ways = 1 }

abbrev pub last_process : ℕ
last_process = shape.processes - 1

abbrev pub last_place : ℕ
last_place = shape.lines - 1

-- a fresh board, its cache and memory zeros
abbrev pub start : Board
start = fresh shape (zeros (line_bytes * shape.lines)) (zeros page_bytes)

-- page 0x2003FF, the last of segment 2048, is mapped to frame 0; process 64, one past the last, tries to attach the segment; the last process attaches
-- it to its slot 511, stores 50 in the segment's last four bytes and loads the last byte
abbrev pub run : List Call
run =
    supervisor (map 0x2003FF 0 true) ∷ supervisor (attach shape.processes 511 2048 true) ∷ supervisor (attach last_process 511 2048 true)
    ∷ save last_process 4 0x7FFFFFFC 50 ∷ load last_process 0x7FFFFFFF ∷ []

pub record LargestBoard : Type 0 where
  -- it meets the premises of `LimitsStand`, field `taken`
  pub within : Within shape place_bits
  pub as_long : AsLong shape start
  -- the attach for the process past the last is refused by 2, all else is done, and the load finds its line held
  pub answers_are : answers shape start run ≡ answer 0 0 0 ∷ answer 2 0 0 ∷ answer 0 0 0 ∷ answer 0 0 2 ∷ answer 0 50 1 ∷ []
  -- that line, name 0x2003FFFF and physical line 255, has the last place
  pub last_line : line_at (after shape start run).store.records last_place ≡ changed_line (new_line 0x2003FFFF 255 true)

-- ---- past them

-- 65 processes, and 131,072 lines: every call is refused by 1, whatever the other numbers and the buffers
pub record PastLimits : Type 0 where
  pub processes : (s : Shape) (b : Board) → s.processes ≡ 65 → By1 s b
  pub lines : (s : Shape) (b : Board) → s.lines ≡ 131072 → By1 s b
