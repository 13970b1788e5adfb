-- Demand 1. Whatever numbers and buffers a caller brings, a refused call says why, by the lowest number in the
-- table that applies, gives value 0 and changes nothing.
-- (That every call ends and touches nothing outside its buffers is what the gate proves of each function.)
use Rattle.std.specs.Prelude.{ℕ, ◌≤◌, ◌≡◌, Bool, true, false, ◌&&◌, ◌||◌, List, [], ◌∷◌, eqb}
use Rattle.address.specs.Entries.{asked_entry, entry_number, entry_value}
use Rattle.board.specs.declared.Shape.{Shape}
use Rattle.board.specs.declared.Answer.{Answer}
use Rattle.machine.specs.Boards.{Board, refused}
use Rattle.machine.specs.Refusals.{Row, entry_table}
use Rattle.machine.specs.Accesses.{user_table, supervisor_table}
use Rattle.machine.specs.Lists.{list_table, list_refused, user_accesses}
use Rattle.machine.specs.Calls.{attach_table, detach_table, map_table, page_table, move_table, flush_table, tag_table, load_and_map_table, drop_tag_table}
use Rattle.machine.specs.Looks.{look_table, look_number, look}
use Rattle.promises.specs.Runs.{Supervisor, access, attach, detach, map, unmap, protect, move, flush_all, tag, load_and_map, drop_tag, Call, user, supervisor, step}

-- the table of a call
unfoldable pub supervisor_rows : Shape → Board → Supervisor → List Row
supervisor_rows s b (access a g) = supervisor_table s b a g
supervisor_rows s b (attach process slot segment write) = attach_table s b process slot segment
supervisor_rows s b (detach process slot) = detach_table s b process slot
supervisor_rows s b (map page frame write) = map_table s b page frame
supervisor_rows s b (unmap page) = page_table s b page
supervisor_rows s b (protect page write) = page_table s b page
supervisor_rows s b (move page new) = move_table s b page new
supervisor_rows s b flush_all = flush_table s b
supervisor_rows s b (tag name) = tag_table s b name
supervisor_rows s b (load_and_map line) = load_and_map_table s b line
supervisor_rows s b drop_tag = drop_tag_table s b

unfoldable pub rows_of : Shape → Board → Call → List Row
rows_of s b (user process a e) = user_table s b process a e
rows_of s b (supervisor c) = supervisor_rows s b c

-- a row with this number applies
unfoldable pub applies_in : List Row → ℕ → Bool
applies_in [] n = false
applies_in (r ∷ rows) n = (r.applies && eqb r.number n) || applies_in rows n

-- n is the lowest number that applies, and 0 exactly if none does
pub record Lowest (rows : List Row) (n : ℕ) : Type 0 where
  pub none_applies : n ≡ 0 → (k : ℕ) → applies_in rows k ≡ false
  pub applies : (n ≡ 0 → ⊥) → applies_in rows n ≡ true
  pub lowest : (k : ℕ) → applies_in rows k ≡ true → n ≤ k

pub record Refusals (s : Shape) (b : Board) (k : Call) : Type 0 where
  -- the number is the lowest that applies, and 0 exactly if none does
  pub number_is_lowest : Lowest (rows_of s b k) (step s b k).answer.number
  -- refused: value 0, mark 0 and nothing changed
  pub nothing_changed : ((step s b k).answer.number ≡ 0 → ⊥) → step s b k ≡ refused b (step s b k).answer.number

-- the same of a list of accesses: refused, it leaves every answer as it was too. (Its accesses are calls: what refuses one of them is said of that call)
pub record ListRefusals (s : Shape) (b : Board) (accesses : List ℕ) (answers : List Answer) : Type 0 where
  pub number_is_lowest : Lowest (list_table s b accesses answers) (user_accesses s b accesses answers).answer.number
  pub nothing_changed : ((user_accesses s b accesses answers).answer.number ≡ 0 → ⊥)
      → user_accesses s b accesses answers ≡ list_refused answers b (user_accesses s b accesses answers).answer.number

-- the same of look, which changes nothing: its number is the lowest that applies, and refused it gives an empty part
pub record LookRefusals (s : Shape) (b : Board) (line : ℕ) : Type 0 where
  pub number_is_lowest : Lowest (look_table s b line) (look_number s b line)
  pub nothing_given : (look_number s b line ≡ 0 → ⊥) → look s b line ≡ []

-- the same of asking for the entry of a page, which asks no board: refused it gives value 0
pub record EntryRefusals (page : ℕ) : Type 0 where
  pub number_is_lowest : Lowest (entry_table page) (entry_number (asked_entry page))
  pub nothing_given : (entry_number (asked_entry page) ≡ 0 → ⊥) → entry_value (asked_entry page) ≡ 0

pub record Demand1 : Type 0 where
  pub calls : (s : Shape) (b : Board) (k : Call) → Refusals s b k
  pub lists : (s : Shape) (b : Board) (accesses : List ℕ) (answers : List Answer) → ListRefusals s b accesses answers
  pub looks : (s : Shape) (b : Board) (line : ℕ) → LookRefusals s b line
  pub entries : (page : ℕ) → EntryRefusals page
