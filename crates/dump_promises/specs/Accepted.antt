-- 02, CR 13: demands 2 and 3, and one copy, from any board that the checker accepts. The plain machine starts from that board's slots, words and tag and
-- the bytes that look shows.
use Rattle.std.specs.Prelude.{ℕ, ◌*◌, ◌<◌, ◌≡◌, List}
use Rattle.address.specs.Layout.{page_lines}
use Rattle.board.specs.declared.Shape.{Shape}
use Rattle.line_bytes.specs.Bytes.{line_of}
use Rattle.stores.specs.Lent.{Buffer}
use Rattle.machine.specs.Boards.{Board, Fresh}
use Rattle.machine.specs.Looks.{look}
use Rattle.promises.specs.Runs.{Call, after}
use Rattle.promises.specs.Sound.{ShapeHolds, Shows, LinesOnce, shown_lines}
use Rattle.promises.specs.Demand2.{Alike}
use Rattle.promises.specs.Demand3.{SameFor, Apart, MovesAlike, SameForProcess}
use Rattle.promises.specs.Brought.{Brought, EachBrings, brought_after, BroughtAlike, TwoRuns, BroughtApart, BroughtMovesAlike, BroughtSameForProcess}
use Rattle.promises.specs.Lists.{ListRuns}
use Rattle.dumps.specs.declared.Report.{Report}
use Rattle.dumps.specs.Checks.{yes, checked}
use Rattle.dumps.specs.Clauses.{Check}

-- the bytes that look shows, all of them, as a flat memory
abbrev pub shown_memory : Shape → Board → List ℕ
shown_memory s b = shown_lines s b.store (page_lines * s.frames)

-- what is promised of the runs from a board
pub record Runs (s : Shape) (b : Board) (memory : List ℕ) : Type 0 where
  -- the memory has the bytes that look shows
  pub shown : Shows s b memory
  pub looks : (line : ℕ) → line < page_lines * s.frames → look s b line ≡ line_of memory line
  -- demand 2, and the checker says yes after any calls too
  pub plain : (ks : List Call) → Alike s b memory ks
  pub stays : (ks : List Call) → checked s (after s b ks) ≡ yes
  -- demand 3
  pub apart : (ks ls : List Call) (process : ℕ) → SameFor process ks ls → Apart s b ks process → MovesAlike s b ks ls process
      → SameForProcess s b memory ks ls process
  pub one_copy : (ks : List Call) → LinesOnce s (after s b ks).store
  -- the same of runs in which each call brings its own numbers
  pub brought_plain : (ks : List Brought) → EachBrings s b ks → BroughtAlike s b memory ks
  pub brought_stays : (ks : List Brought) → EachBrings s b ks → checked s (brought_after b ks) ≡ yes
  pub brought_apart : (ks ls : List Brought) (process : ℕ) → TwoRuns s b ks ls process → BroughtApart s b ks process → BroughtMovesAlike b ks ls process
      → BroughtSameForProcess s b memory ks ls process
  pub brought_one_copy : (ks : List Brought) → EachBrings s b ks → LinesOnce s (brought_after b ks).store
  -- and of runs in which lists come
  pub listed : ListRuns s b memory

-- from any board that the checker accepts
abbrev pub FromAccepted : Type 0
FromAccepted = (s : Shape) (b : Board) → checked s b ≡ yes → Runs s b (shown_memory s b)

-- so from any board of which the call says yes
abbrev pub FromYes : Type 0
FromYes = (s : Shape) (b : Board) (keys links : Buffer) (r : Report) → Check s b keys links r → r ≡ yes → Runs s b (shown_memory s b)

-- and every board is accepted that a run from a fresh board comes to
abbrev pub RunsAccepted : Type 0
RunsAccepted = (s : Shape) (b : Board) → Fresh b → ShapeHolds s b → (ks : List Call) → checked s (after s b ks) ≡ yes
