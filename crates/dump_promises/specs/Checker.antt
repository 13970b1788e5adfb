-- 02, CR 13: what the checker's answer means. Places that break a rule, and the report they make.
use Rattle.std.specs.Prelude.{ℕ, ◌≤◌, ◌<◌, ◌≢◌, ◌≡◌, true, false, List, get_or, Some}
use Rattle.address.specs.Addresses.{ordinary_page}
use Rattle.board.specs.Homes.{at_line}
use Rattle.board.specs.declared.Shape.{Shape}
use Rattle.pages.specs.Pages.{names_page, home_of}
use Rattle.line_bytes.specs.Bytes.{line_of}
use Rattle.lines.specs.Records.{line_at}
use Rattle.lines.specs.Holds.{holds_at}
use Rattle.stores.specs.Stores.{Store}
use Rattle.machine.specs.Boards.{Board}
use Rattle.promises.specs.Sound.{ShapeHolds, Sound}
use Rattle.dumps.specs.Checks.{report, yes, checked}

-- a frame from U up whose word names an ordinary page
pub record Names (s : Shape) (words : List ℕ) (frame page : ℕ) : Type 0 where
  pub ordinary : ordinary_page page ≡ true
  pub from : s.uncached ≤ frame
  pub inside : frame < s.frames
  pub names : names_page (get_or words frame 0) page ≡ true

-- ---- what a frame or a place has to do to break a rule; which of two it is does not matter here

-- rule 2: another frame has its page
pub record PageTwice (s : Shape) (words : List ℕ) (frame : ℕ) : Type 0 where
  pub page : ℕ
  pub other : ℕ
  pub another : frame ≢ other
  pub here : Names s words frame page
  pub there : Names s words other page

-- rule 3: another place holds its physical line
pub record LineTwice (s : Shape) (x : Store) (place : ℕ) : Type 0 where
  pub other : ℕ
  pub another : place ≢ other
  pub here : holds_at s x.records place ≡ true
  pub there : holds_at s x.records other ≡ true
  pub same_line : (line_at x.records place).physical ≡ (line_at x.records other).physical

-- rule 4: its line's physical line is not the one its name maps to, or its permission is not that page's
pub record Astray (s : Shape) (words : List ℕ) (x : Store) (place : ℕ) : Type 0 where
  pub here : holds_at s x.records place ≡ true
  pub elsewhere : home_of s words (line_at x.records place).name ≢ Some (at_line (line_at x.records place).physical (line_at x.records place).write)

-- rule 5: its line is unchanged and differs from memory
pub record Stale (s : Shape) (x : Store) (place : ℕ) : Type 0 where
  pub here : holds_at s x.records place ≡ true
  pub unchanged : (line_at x.records place).changed ≡ false
  pub differs : line_of x.cache place ≢ line_of x.memory (line_at x.records place).physical

-- a rule is broken, and where: at 0 for lengths
pub data Breaks (s : Shape) (b : Board) : ℕ → ℕ → Type 0 where
  lengths : (ShapeHolds s b → ⊥) → Breaks s b 1 0
  page_twice : {frame : ℕ} → PageTwice s b.words frame → Breaks s b 2 frame
  line_twice : {place : ℕ} → LineTwice s b.store place → Breaks s b 3 place
  astray : {place : ℕ} → Astray s b.words b.store place → Breaks s b 4 place
  stale : {place : ℕ} → Stale s b.store place → Breaks s b 5 place

-- the first broken rule, and the lowest frame or place in it
pub record FirstBroken (s : Shape) (b : Board) (rule place : ℕ) : Type 0 where
  pub broken : Breaks s b rule place
  pub lowest : (k : ℕ) → k < place → Breaks s b rule k → ⊥
  pub earlier : (r k : ℕ) → r < rule → Breaks s b r k → ⊥

pub record CheckerIsRight : Type 0 where
  -- yes exactly if the board is sound
  pub accepts : (s : Shape) (b : Board) → checked s b ≡ yes → Sound s b
  pub accepted : (s : Shape) (b : Board) → Sound s b → checked s b ≡ yes
  -- and else exactly the first broken rule, with the lowest frame or place in it
  pub found : (s : Shape) (b : Board) (rule place : ℕ) → rule ≢ 0 → checked s b ≡ report rule place → FirstBroken s b rule place
  pub reported : (s : Shape) (b : Board) (rule place : ℕ) → FirstBroken s b rule place → checked s b ≡ report rule place
  -- there is no third answer: the rule is 0 to 5, and with 0 it is yes
  pub always : (s : Shape) (b : Board) → checked s b ≡ report (checked s b).rule (checked s b).place
  pub rules : (s : Shape) (b : Board) → (checked s b).rule ≤ 5
  pub zero_is_yes : (s : Shape) (b : Board) → (checked s b).rule ≡ 0 → checked s b ≡ yes
