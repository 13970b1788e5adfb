-- 01, "The board": each line has a record. Here the records are a list of them, line 0 first, and protect and flush all are said on a board with that list.
-- What a line holds, which lines a visit is for, what the bytes become and what the tables ask are the board's own definitions. It is 01's edition: there are no matrices.
use Rattle.std.specs.Prelude.{ℕ, suc, ◌*◌, Bool, not, ◌&&◌, cond, List, [], ◌∷◌, length, set}
use Rattle.board.specs.Answers.{answer}
use Rattle.board.specs.Shapes.{fits_shape, record_words}
use Rattle.board.specs.declared.Answer.{Answer}
use Rattle.board.specs.declared.Shape.{Shape}
use Rattle.pages.specs.Pages.{frame_word, mapped_to}
use Rattle.line_bytes.specs.Bytes.{line_of, with_line}
use Rattle.lines.specs.Records.{no_line, permitted_line}
use Rattle.lines.specs.Holds.{holds_line}
use Rattle.visits.specs.Visits.{protect_visit, flush_visit, selects}
use Rattle.lines.specs.declared.Line.{Line}
use Rattle.visits.specs.declared.Deed.{Deed}
use Rattle.visits.specs.declared.Deed.TheVariants.{Drop, Retire, Permit}
use Rattle.visits.specs.declared.Visit.{Visit}
use Rattle.machine.specs.Refusals.{Row, row, by_table}
use Rattle.machine.specs.Calls.{found_frame, page_rows}

-- ---- what a visit makes of the lines

-- a line that the visit is for: dropped, or given the permission
unfoldable pub treated_line : Deed → Line → Line
treated_line Drop l = no_line
treated_line Retire l = no_line
treated_line (Permit write) l = permitted_line l write

-- line i: only a held line changes
unfoldable pub line_visited : Shape → Visit → ℕ → Line → Line
line_visited s v i l = cond (holds_line s i l && selects v l) (treated_line v.deed l) l

-- every line, the first of the list being line i
unfoldable pub lines_visited : Shape → Visit → ℕ → List Line → List Line
lines_visited s v i [] = []
lines_visited s v i (l ∷ ls) = line_visited s v i l ∷ lines_visited s v (suc i) ls

-- memory after flush all at line i: its bytes at its physical line, if it is held and changed
unfoldable pub line_flushed : Shape → ℕ → Line → List ℕ → List ℕ → List ℕ
line_flushed s i l cache memory = cond (holds_line s i l && l.changed) (with_line memory l.physical (line_of cache i)) memory

-- memory after flush all at every line, by rising place, the first of the list being line i
unfoldable pub flushed_memory : Shape → ℕ → List Line → List ℕ → List ℕ → List ℕ
flushed_memory s i [] cache memory = memory
flushed_memory s i (l ∷ ls) cache memory = flushed_memory s (suc i) ls cache (line_flushed s i l cache memory)

-- ---- the board with a list of lines in place of record words, and what a call gives. There is no tag: neither call asks for it or changes it

pub record LentBoard : Type 0 where
  pub slots : List ℕ
  pub words : List ℕ
  pub lines : List Line
  pub cache : List ℕ
  pub memory : List ℕ

abbrev pub lent_board : List ℕ → List ℕ → List Line → List ℕ → List ℕ → LentBoard
lent_board slots words lines cache memory = record { slots = slots; words = words; lines = lines; cache = cache; memory = memory }

pub record LentOutcome : Type 0 where
  pub answer : Answer
  pub after : LentBoard

abbrev pub lent_outcome : Answer → LentBoard → LentOutcome
lent_outcome a b = record { answer = a; after = b }

-- a refusal: value 0, mark 0, nothing changed
abbrev pub lent_refused : LentBoard → ℕ → LentOutcome
lent_refused b n = lent_outcome (answer n 0 0) b

-- done, by a call that is no access
abbrev pub lent_done : LentBoard → LentOutcome
lent_done b = lent_outcome (answer 0 0 0) b

-- ---- the tables, by the lengths of the buffers

-- 1: buffer lengths or F, U, P, L disagree or are out of limits; a line counts for the words of its record, and there are no matrices
abbrev pub lent_row1 : Shape → ℕ → ℕ → ℕ → ℕ → ℕ → Row
lent_row1 s slots words lines cache memory = row 1 (not (fits_shape s slots words (record_words * lines) cache memory 0))

abbrev pub lent_page_table : Shape → ℕ → List ℕ → ℕ → ℕ → ℕ → ℕ → List Row
lent_page_table s slots words lines cache memory page = lent_row1 s slots (length words) lines cache memory ∷ page_rows s words page

abbrev pub lent_flush_table : Shape → ℕ → ℕ → ℕ → ℕ → ℕ → List Row
lent_flush_table s slots words lines cache memory = lent_row1 s slots words lines cache memory ∷ []

-- ---- protect (page, write bit): changes the word and every held line named in the page

-- the words, with that of the page's frame changed
abbrev pub protected_words : Shape → List ℕ → ℕ → Bool → List ℕ
protected_words s words page write = set words (found_frame (mapped_to s words page)) (frame_word page write)

unfoldable pub protect_lent : Shape → LentBoard → ℕ → Bool → LentOutcome
protect_lent s b page write =
    by_table (lent_refused b) (lent_page_table s (length b.slots) b.words (length b.lines) (length b.cache) (length b.memory) page)
    (lent_done (lent_board b.slots (protected_words s b.words page write) (lines_visited s (protect_visit page write) 0 b.lines) b.cache b.memory))

-- ---- flush all: writes back every changed line, by rising place, and drops all

unfoldable pub flush_lent : Shape → LentBoard → LentOutcome
flush_lent s b =
    by_table (lent_refused b) (lent_flush_table s (length b.slots) (length b.words) (length b.lines) (length b.cache) (length b.memory))
    (lent_done (lent_board b.slots b.words (lines_visited s flush_visit 0 b.lines) b.cache (flushed_memory s 0 b.lines b.cache b.memory)))
