-- 02, CR 13: the two calls, by their contracts: when they are refused, and that what stands in the scratch does not matter. And how often the search turns
-- that the tree of places is made for.
use Rattle.std.specs.Prelude.{ℕ, ◌≤◌, ◌⊎◌, ◌≡◌, Bool, true, false, ◌&&◌, List, eqb, length, Option}
use Rattle.board.specs.Shapes.{max_frames}
use Rattle.board.specs.declared.Shape.{Shape}
use Rattle.board.specs.declared.Home.{Home}
use Rattle.stores.specs.Stores.{Store}
use Rattle.stores.specs.Lent.{Buffer}
use Rattle.machine.specs.Boards.{Board, fits_board, with_store}
use Rattle.doubles.specs.Doubles.{keys_of}
use Rattle.doubles.specs.Trees.{Tree, Turned}
use Rattle.dump_pages.specs.Pages.{page_at}
use Rattle.dump_lines.specs.Tests.{place_key}
use Rattle.dumps.specs.declared.Report.{Report}
use Rattle.dumps.specs.Checks.{too_short, room_for, checked}
use Rattle.dumps.specs.Clauses.{Kept, Check}
use Rattle.repairs.specs.Repairs.{repair_board}
use Rattle.repairs.specs.Clauses.{Repair}

-- as many elements
abbrev pub SameLength : Buffer → Buffer → Type 0
SameLength k l = length k.before ≡ length l.before

-- ---- a check

-- enough scratch
abbrev pub Room : Shape → Buffer → Buffer → Bool
Room s keys links = room_for s (length keys.before) (length links.before)

pub record ChecksAlike : Type 0 where
  -- number 0 is the checker's answer
  pub says : (s : Shape) (b : Board) (keys links : Buffer) (r : Report) → Check s b keys links r → r.number ≡ 0 → r ≡ checked s b
  -- it is given where there is enough scratch, and with any scratch where the board breaks rule 1
  pub answered : (s : Shape) (b : Board) (keys links : Buffer) (r : Report) → Check s b keys links r
      → (fits_board s b ≡ false) ⊎ (Room s keys links ≡ true) → r.number ≡ 0
  -- else the call is refused by 1, says nothing else, and leaves the scratch as it was
  pub short : (s : Shape) (b : Board) (keys links : Buffer) (r : Report) → Check s b keys links r → fits_board s b ≡ true → Room s keys links ≡ false
      → (r ≡ too_short) × Kept keys × Kept links
  -- whatever stands in the scratch
  pub one_report : (s : Shape) (b : Board) (keys links keys' links' : Buffer) (r r' : Report) → SameLength keys keys' → SameLength links links'
      → Check s b keys links r → Check s b keys' links' r' → r ≡ r'

-- ---- a repair

-- enough scratch, and a flag for each line
abbrev pub Enough : Shape → Buffer → Buffer → Buffer → Bool
Enough s keys links flags = Room s keys links && eqb (length flags.before) s.lines

pub record RepairsAlike : Type 0 where
  -- number 0 is the repair: its report, its store and its flags; slots, words and tag stay
  pub says : (s : Shape) (b c : Board) (keys links flags : Buffer) (r : Report) → Repair s b keys links flags r c → r.number ≡ 0
      → (r ≡ (repair_board s b flags.before).report) × (c ≡ with_store b (repair_board s b flags.before).store)
      × (flags.after ≡ (repair_board s b flags.before).flags)
  pub answered : (s : Shape) (b c : Board) (keys links flags : Buffer) (r : Report) → Repair s b keys links flags r c
      → (fits_board s b ≡ false) ⊎ (Enough s keys links flags ≡ true) → r.number ≡ 0
  pub short : (s : Shape) (b c : Board) (keys links flags : Buffer) (r : Report) → Repair s b keys links flags r c → fits_board s b ≡ true
      → Enough s keys links flags ≡ false → (r ≡ too_short) × (c ≡ b) × Kept flags × Kept keys × Kept links
  -- whatever stands in the scratch: the same report, the same board, the same flags
  pub one_outcome : (s : Shape) (b c c' : Board) (keys links keys' links' flags flags' : Buffer) (r r' : Report) → SameLength keys keys'
      → SameLength links links' → flags.before ≡ flags'.before → Repair s b keys links flags r c → Repair s b keys' links' flags' r' c'
      → (r ≡ r') × (c ≡ c') × (flags.after ≡ flags'.after)

-- ---- how often a search turns, in any tree of a board's keys, whatever its words and records

pub record SearchesEnd : Type 0 where
  -- for the page of a frame: a page has 32 bits
  pub pages : (s : Shape) (words links : List ℕ) (n frame turns node : ℕ) → Tree (keys_of (page_at s words) s.frames) links n
      → Turned (keys_of (page_at s words) s.frames) links (page_at s words frame) turns node → turns ≤ 32
  -- for the physical line of a place, and one more: 29 bits. Of a check, and of a repair, which counts fine lines only
  pub lines : (fine : Bool) (s : Shape) (home : ℕ → Option Home) (x : Store) (links : List ℕ) (n place turns node : ℕ) → s.frames ≤ max_frames
      → Tree (keys_of (place_key fine s home x) s.lines) links n → Turned (keys_of (place_key fine s home x) s.lines) links (place_key fine s home x place) turns node
      → turns ≤ 29
