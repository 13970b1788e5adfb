-- "At no moment are two cached lines copies of one physical line" (demand 3): where this is more than arithmetic.
-- With 256 lines or fewer a line and its copy would have one place, which in 01's edition is one record. With 512 lines a board can hold two copies,
-- and it is what map drops that keeps a run from it.
use Rattle.std.specs.Prelude.{ℕ, ◌%◌, ◌≤◌, ◌≡◌, true, List, [], ◌∷◌, replicate, set}
use Rattle.address.specs.Layout.{page_lines}
use Rattle.address.specs.Addresses.{global}
use Rattle.board.specs.Answers.{answer}
use Rattle.board.specs.Shapes.{limits_hold}
use Rattle.board.specs.declared.Shape.{Shape}
use Rattle.pages.specs.Pages.{frame_word}
use Rattle.line_bytes.specs.Bytes.{zeros}
use Rattle.lines.specs.Records.{line_at, put_line, no_line, new_line, changed_line}
use Rattle.lines.specs.Holds.{holds_at}
use Rattle.lines.specs.declared.Line.{Line}
use Rattle.stores.specs.Stores.{Store}
use Rattle.machine.specs.Boards.{Board, board, fresh, no_tag, with_pages}
use Rattle.machine.specs.Calls.{zeroed_store}
use Rattle.promises.specs.Runs.{access, attach, map, Call, supervisor, after}
use Rattle.promises.specs.Sound.{ShapeHolds, LinesMapped, LinesOnce}
use Rattle.example_runs.specs.Examples.{load, answers}

-- ---- 256 lines or fewer

-- each held line is as far into its page as its physical line is into its frame
abbrev pub LinesInStep : Shape → Store → Type 0
LinesInStep s x =
    (i : ℕ) → holds_at s x.records i ≡ true → (line_at x.records i).name % page_lines ≡ (line_at x.records i).physical % page_lines

-- a line whose name maps to its physical line is so, under prefix 1 too; this speaks of the record alone, so it stays so whatever is mapped later
abbrev pub MappedInStep : Type 0
MappedInStep = (s : Shape) (words : List ℕ) (x : Store) → LinesMapped s words x → LinesInStep s x

-- two names of one physical line then have one place, if there are no more places than lines in a page: with one line in a set no physical line is
-- held twice, whatever is mapped and whatever map and unmap left in the cache. (A set of four has room for both.)
abbrev pub FewLinesOnce : Type 0
FewLinesOnce = (s : Shape) (x : Store) → limits_hold s ≡ true → s.ways ≡ 1 → s.lines ≤ page_lines → LinesInStep s x → LinesOnce s x

-- ---- 512 lines

-- one frame, one process, 512 lines
abbrev pub shape : Shape
shape = record { frames = 1; uncached = 0; processes = 1; lines = 512; ways = 1 }

-- physical line 0 under its prefix 1 name, changed: place 0; and as the first line of page 0x200001: place 256
abbrev pub direct_line : Line
direct_line = changed_line (new_line 0x10000000 0 true)

abbrev pub page_line : Line
page_line = new_line 0x20000100 0 true

-- every byte of memory is 255
unfoldable pub memory : List ℕ
memory = replicate 4096 255

-- a board whose page 0x200001 is mapped to frame 0, and which holds both lines
abbrev pub twice : Board
twice =
    board (replicate 512 0) (frame_word 0x200001 true ∷ []) (put_line (put_line (replicate 1024 0) 0 direct_line) 256 page_line) (zeros 8192) memory no_tag

-- it fits, its lines are in step, and physical line 0 is held twice
pub record TwoCopies : Type 0 where
  pub fits : ShapeHolds shape twice
  pub in_step : LinesInStep shape twice.store
  pub not_once : LinesOnce shape twice.store → ⊥

-- a fresh board
abbrev pub start : Board
start = fresh shape (zeros 8192) memory

-- the supervisor stores 50 at 0 of frame 0 under prefix 1
abbrev pub direct_store : Call
direct_store = supervisor (access (record { store = true; width = 4; value = 50 }) (global 0x100000000))

-- process 0 attaches segment 2048 to its slot 0 and loads byte 3 of the segment's page 0x200001
abbrev pub used : List Call
used = supervisor (attach 0 0 2048 true) ∷ load 0 0x1003 ∷ []

-- the frame that the supervisor stored to is mapped to page 0x200001, and the process uses it
abbrev pub handed : List Call
handed = direct_store ∷ supervisor (map 0x200001 0 true) ∷ used

-- a map that drops no line (`mapped` without its visit of the records): it fills frame 0 with zeros and sets its word
abbrev pub undropped : Board → Board
undropped b = with_pages b (record { words = set b.words 0 (frame_word 0x200001 true); store = zeroed_store 0 b.store })

pub record OneCopyKept : Type 0 where
  -- the store leaves the prefix 1 line in record 0
  pub direct_held : line_at (after shape start (direct_store ∷ [])).store.records 0 ≡ direct_line
  -- all calls are done; the process gets the 0 of the map, not 50 and not 255
  pub answers_are : answers shape start handed ≡ answer 0 0 2 ∷ answer 0 0 0 ∷ answer 0 0 0 ∷ answer 0 0 2 ∷ []
  -- at the end record 0 holds nothing and record 256 the page's line: one copy of physical line 0
  pub direct_dropped : line_at (after shape start handed).store.records 0 ≡ no_line
  pub page_held : line_at (after shape start handed).store.records 256 ≡ page_line
  pub once : LinesOnce shape (after shape start handed).store
  -- with the map that drops no line there are two
  pub two_without : LinesOnce shape (after shape (undropped (after shape start (direct_store ∷ []))) used).store → ⊥
