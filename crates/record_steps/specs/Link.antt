-- Protect and flush all on the lines of a board of n records, with no matrices, give what the board's own calls give: answer, slots, words, lines read by the board's own
-- `line_at`, cache and memory. The board may fit its shape or not.
use Rattle.std.specs.Prelude.{ℕ, zero, suc, ◌*◌, ◌≡◌, Bool, List, [], ◌∷◌, length}
use Rattle.board.specs.Shapes.{record_words}
use Rattle.board.specs.declared.Shape.{Shape}
use Rattle.lines.specs.Records.{line_at}
use Rattle.lines.specs.declared.Line.{Line}
use Rattle.machine.specs.Boards.{Board, Outcome}
use Rattle.machine.specs.Calls.{protect, flush_all}
use Rattle.record_steps.specs.Lent.{LentBoard, lent_board, LentOutcome, lent_outcome, protect_lent, flush_lent}

-- the n lines that record words say, from line i on
unfoldable pub lines_from : List ℕ → ℕ → ℕ → List Line
lines_from records i zero = []
lines_from records i (suc n) = line_at records i ∷ lines_from records (suc i) n

-- the first n lines
abbrev pub lines_at : List ℕ → ℕ → List Line
lines_at records n = lines_from records 0 n

-- a board with its first n records read as lines, and what a call gives, read likewise
abbrev pub lent_of : ℕ → Board → LentBoard
lent_of n b = lent_board b.slots b.words (lines_at b.store.records n) b.store.cache b.store.memory

abbrev pub read_lent : ℕ → Outcome → LentOutcome
read_lent n o = lent_outcome o.answer (lent_of n o.after)

-- each call on the lines of a board of n records gives what the board's own call gives: answer, slots, words, lines, cache and memory
pub record Link : Type 0 where
  pub protect : (s : Shape) (b : Board) (n : ℕ) (page : ℕ) (write : Bool) → b.uses ≡ [] → length b.store.records ≡ record_words * n
      → protect_lent s (lent_of n b) page write ≡ read_lent n (protect s b page write)
  pub flush_all : (s : Shape) (b : Board) (n : ℕ) → b.uses ≡ [] → length b.store.records ≡ record_words * n → flush_lent s (lent_of n b) ≡ read_lent n (flush_all s b)
