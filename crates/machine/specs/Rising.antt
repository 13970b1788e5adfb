-- 01, "Refusal numbers": the lowest that applies is given. A table gives its first row that applies, so its rows have to rise;
-- here it is said of every call's table.
use Rattle.std.specs.Prelude.{ℕ, suc, ◌≡◌, Bool, true, ◌&&◌, List, [], ◌∷◌, leb}
use Rattle.address.specs.declared.Effective.{Effective}
use Rattle.address.specs.declared.Global.{Global}
use Rattle.board.specs.declared.Shape.{Shape}
use Rattle.board.specs.declared.Answer.{Answer}
use Rattle.stores.specs.declared.Access.{Access}
use Rattle.machine.specs.Boards.{Board}
use Rattle.machine.specs.Refusals.{Row, entry_table}
use Rattle.machine.specs.Accesses.{user_table, supervisor_table}
use Rattle.machine.specs.Lists.{list_table}
use Rattle.machine.specs.Calls.{attach_table, detach_table, map_table, page_table, move_table, flush_table, tag_table, load_and_map_table, drop_tag_table}
use Rattle.machine.specs.Looks.{look_table}

-- the numbers of a table's rows rise, from `from` up
unfoldable pub rising : ℕ → List Row → Bool
rising from [] = true
rising from (r ∷ rows) = leb from r.number && rising (suc r.number) rows

-- they rise from 1 up: 0 is no refusal
abbrev pub Rises : List Row → Type 0
Rises rows = rising 1 rows ≡ true

pub record TablesRise : Type 0 where
  pub user_access : (s : Shape) (b : Board) (process : ℕ) (a : Access) (e : Effective) → Rises (user_table s b process a e)
  pub user_accesses : (s : Shape) (b : Board) (accesses : List ℕ) (answers : List Answer) → Rises (list_table s b accesses answers)
  pub supervisor_access : (s : Shape) (b : Board) (a : Access) (g : Global) → Rises (supervisor_table s b a g)
  pub attach : (s : Shape) (b : Board) (process slot segment : ℕ) → Rises (attach_table s b process slot segment)
  pub detach : (s : Shape) (b : Board) (process slot : ℕ) → Rises (detach_table s b process slot)
  pub map : (s : Shape) (b : Board) (page frame : ℕ) → Rises (map_table s b page frame)
  -- unmap and protect
  pub page : (s : Shape) (b : Board) (page : ℕ) → Rises (page_table s b page)
  pub move : (s : Shape) (b : Board) (page new : ℕ) → Rises (move_table s b page new)
  pub flush_all : (s : Shape) (b : Board) → Rises (flush_table s b)
  pub tag : (s : Shape) (b : Board) (name : ℕ) → Rises (tag_table s b name)
  pub load_and_map : (s : Shape) (b : Board) (line : ℕ) → Rises (load_and_map_table s b line)
  pub drop_tag : (s : Shape) (b : Board) → Rises (drop_tag_table s b)
  pub look : (s : Shape) (b : Board) (line : ℕ) → Rises (look_table s b line)
  pub entry : (page : ℕ) → Rises (entry_table page)
