-- Sound boards: the rules by which a board can be checked, each with its own name.
use Rattle.std.specs.Prelude.{ℕ, zero, suc, ◌*◌, ◌≤◌, ◌<◌, ◌≡◌, true, false, List, [], ◌++◌, length, get_or, Option, Some}
use Rattle.address.specs.Layout.{page_lines}
use Rattle.address.specs.Addresses.{ordinary_page}
use Rattle.pages.specs.Pages.{names_page, home_of}
use Rattle.board.specs.Homes.{at_line}
use Rattle.board.specs.declared.Shape.{Shape}
use Rattle.board.specs.declared.Home.{Home}
use Rattle.line_bytes.specs.Bytes.{line_of}
use Rattle.lines.specs.Records.{line_at}
use Rattle.stores.specs.Stores.{Store, current}
use Rattle.lines.specs.Holds.{holds_at}
use Rattle.machine.specs.Boards.{Board, fits_board, Fresh}

-- the lengths agree and the limits hold
abbrev pub ShapeHolds : Shape → Board → Type 0
ShapeHolds s b = fits_board s b ≡ true

-- no page has two frames from U up
abbrev pub PagesOnce : Shape → List ℕ → Type 0
PagesOnce s words =
    (page f g : ℕ) → ordinary_page page ≡ true → s.uncached ≤ f → f < s.frames → s.uncached ≤ g → g < s.frames
    → names_page (get_or words f 0) page ≡ true → names_page (get_or words g 0) page ≡ true → f ≡ g

-- no physical line is held twice
abbrev pub LinesOnce : Shape → Store → Type 0
LinesOnce s x =
    (i j : ℕ) → holds_at s x.records i ≡ true → holds_at s x.records j ≡ true
    → (line_at x.records i).physical ≡ (line_at x.records j).physical → i ≡ j

-- each held line's physical line is the one its name maps to, with that page's permission; what names map to is any map of homes
abbrev pub LinesAtHome : (ℕ → Option Home) → Shape → Store → Type 0
LinesAtHome home s x =
    (i : ℕ) → holds_at s x.records i ≡ true
    → home (line_at x.records i).name ≡ Some (at_line (line_at x.records i).physical (line_at x.records i).write)

-- by the frame words (a prefix 1 line: its frame is from U up with word 0, and it may be written; any other name maps to nothing)
abbrev pub LinesMapped : Shape → List ℕ → Store → Type 0
LinesMapped s words x = LinesAtHome (home_of s words) s x

-- every unchanged held line equals memory
abbrev pub CleanLinesEqual : Shape → Store → Type 0
CleanLinesEqual s x =
    (i : ℕ) → holds_at s x.records i ≡ true → (line_at x.records i).changed ≡ false
    → line_of x.cache i ≡ line_of x.memory (line_at x.records i).physical

pub record Sound (s : Shape) (b : Board) : Type 0 where
  pub shape_holds : ShapeHolds s b
  pub pages_once : PagesOnce s b.words
  pub lines_once : LinesOnce s b.store
  pub lines_mapped : LinesMapped s b.words b.store
  pub clean_lines_equal : CleanLinesEqual s b.store

-- a fresh board that fits is sound
abbrev pub FreshSound : Type 0
FreshSound = (s : Shape) (b : Board) → Fresh b → ShapeHolds s b → Sound s b

-- every valid record holds a line. No rule of a sound board (a board from elsewhere may have valid records that hold nothing),
-- but it is so on a fresh one, and stays so
abbrev pub ValidHolds : Shape → Store → Type 0
ValidHolds s x = (i : ℕ) → (line_at x.records i).valid ≡ true → holds_at s x.records i ≡ true

-- no physical line stands in two valid records
abbrev pub ValidOnce : Store → Type 0
ValidOnce x =
    (i j : ℕ) → (line_at x.records i).valid ≡ true → (line_at x.records j).valid ≡ true
    → (line_at x.records i).physical ≡ (line_at x.records j).physical → i ≡ j

-- a flat memory has the bytes that the board shows at every physical line
pub record Shows (s : Shape) (b : Board) (memory : List ℕ) : Type 0 where
  pub same_length : length memory ≡ length b.store.memory
  pub same_lines : (line : ℕ) → line < page_lines * s.frames → current s b.store line ≡ line_of memory line

-- the bytes that look shows at the first n physical lines, one line after another
unfoldable pub shown_lines : Shape → Store → ℕ → List ℕ
shown_lines s x zero = []
shown_lines s x (suc n) = shown_lines s x n ++ current s x n

-- every board that fits shows such a memory
abbrev pub ShowsSome : Type 0
ShowsSome = (s : Shape) (b : Board) → ShapeHolds s b → Shows s b (shown_lines s b.store (page_lines * s.frames))
