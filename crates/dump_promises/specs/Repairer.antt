-- 02, CR 13: what the repair promises, of every board.
use Rattle.std.specs.Prelude.{ℕ, ◌<◌, ◌⊎◌, ◌≢◌, ◌≡◌, true, false, List, length, get_or}
use Rattle.board.specs.Lists.{bit}
use Rattle.board.specs.declared.Shape.{Shape}
use Rattle.lines.specs.Records.{line_at, no_line}
use Rattle.lines.specs.Holds.{holds_at}
use Rattle.machine.specs.Boards.{Board, with_store}
use Rattle.promises.specs.Sound.{ShapeHolds, Sound}
use Rattle.dumps.specs.Checks.{yes, checked}
use Rattle.dump_promises.specs.Checker.{Astray, Stale}
use Rattle.repairs.specs.Repairs.{with_dropped, how_many, dropped_at, repair_board}

-- a line breaks a rule alone: 4 or 5
abbrev pub Alone : Shape → Board → ℕ → Type 0
Alone s b place = Astray s b.words b.store place ⊎ Stale s b.store place

-- a lower place holds its physical line, in these records
pub record HeldLower (s : Shape) (records : List ℕ) (place line : ℕ) : Type 0 where
  pub lower : ℕ
  pub below : lower < place
  pub held : holds_at s records lower ≡ true
  pub its_line : (line_at records lower).physical ≡ line

-- what is left at a place: `after` are the records after the repair of b
pub data LeftAt (s : Shape) (b : Board) (after : List ℕ) (place : ℕ) : Type 0 where
  -- no line was held, and the record stays as it is
  nothing_held : holds_at s b.store.records place ≡ false → line_at after place ≡ line_at b.store.records place → LeftAt s b after place
  -- a line is kept: it breaks no rule alone, or with a lower line that is kept
  kept : holds_at s b.store.records place ≡ true → line_at after place ≡ line_at b.store.records place → (Alone s b place → ⊥)
      → (HeldLower s after place (line_at b.store.records place).physical → ⊥) → LeftAt s b after place
  -- a line is dropped: it breaks a rule alone, or with a lower line that is kept
  dropped : holds_at s b.store.records place ≡ true → line_at after place ≡ no_line
      → Alone s b place ⊎ HeldLower s after place (line_at b.store.records place).physical → LeftAt s b after place

-- the board after a repair. Slots, words, matrices and tag are those of before: the repair is given none of them to change
abbrev pub repaired_board : Shape → Board → List ℕ → Board
repaired_board s b flags = with_store b (repair_board s b flags).store

-- where the lengths agree and no page is doubled (the checker gives neither rule 1 nor rule 2), whatever stands in the flags
pub record Repairs (s : Shape) (b : Board) (flags : List ℕ) : Type 0 where
  -- afterwards the checker says yes
  pub accepted : checked s (repaired_board s b flags) ≡ yes
  -- memory is untouched, and so are the cache bytes; there are as many records
  pub memory_kept : (repair_board s b flags).store.memory ≡ b.store.memory
  pub cache_kept : (repair_board s b flags).store.cache ≡ b.store.cache
  pub same_length : length (repair_board s b flags).store.records ≡ length b.store.records
  -- every place: what is dropped, and what is kept
  pub left : (place : ℕ) → place < s.lines → LeftAt s b (repair_board s b flags).store.records place
  -- the flags say which lines were dropped, and the report how many, with what the checker said before
  pub flags_length : length (repair_board s b flags).flags ≡ s.lines
  pub flagged : (place : ℕ) → place < s.lines
      → get_or (repair_board s b flags).flags place 0 ≡ bit (dropped_at s b.store.records (repair_board s b flags).store.records place)
  pub report_is : (repair_board s b flags).report
      ≡ with_dropped (checked s b) (how_many (dropped_at s b.store.records (repair_board s b flags).store.records) s.lines)

pub record RepairIsRight : Type 0 where
  pub repairs : (s : Shape) (b : Board) (flags : List ℕ) → (checked s b).rule ≢ 1 → (checked s b).rule ≢ 2 → Repairs s b flags
  -- wrong lengths and doubled pages are reported, and nothing is changed
  pub left_alone : (s : Shape) (b : Board) (flags : List ℕ) → ((checked s b).rule ≡ 1) ⊎ ((checked s b).rule ≡ 2)
      → ((repair_board s b flags).report ≡ checked s b) × ((repair_board s b flags).store ≡ b.store) × ((repair_board s b flags).flags ≡ flags)
  -- a sound board is unchanged, and none of its lines is flagged
  pub sound_unchanged : (s : Shape) (b : Board) (flags : List ℕ) → Sound s b
      → ((repair_board s b flags).report ≡ yes) × ((repair_board s b flags).store ≡ b.store)
      × ((place : ℕ) → place < s.lines → get_or (repair_board s b flags).flags place 0 ≡ 0)
  -- repairing twice is repairing once
  pub twice_is_once : (s : Shape) (b : Board) (flags again : List ℕ)
      → (repair_board s (repaired_board s b flags) again).store ≡ (repair_board s b flags).store

-- in 01's edition, with one line in a set, the repair never chooses between two good copies
pub record NeverGuesses : Type 0 where
  -- of two places that hold one physical line one is astray
  pub one_astray : (s : Shape) (b : Board) → ShapeHolds s b → s.ways ≡ 1 → (place other : ℕ) → place ≢ other → holds_at s b.store.records place ≡ true
      → holds_at s b.store.records other ≡ true → (line_at b.store.records place).physical ≡ (line_at b.store.records other).physical
      → Astray s b.words b.store place ⊎ Astray s b.words b.store other
  -- so a line that is dropped breaks a rule alone
  pub dropped_alone : (s : Shape) (b : Board) (flags : List ℕ) → s.ways ≡ 1 → (checked s b).rule ≢ 1 → (checked s b).rule ≢ 2 → (place : ℕ)
      → holds_at s b.store.records place ≡ true → holds_at s (repair_board s b flags).store.records place ≡ false → Alone s b place
