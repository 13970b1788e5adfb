-- What the code inside decides and asks; no call's definition needs these.
use Rattle.std.specs.Prelude.{ℕ, ◌*◌, ◌<◌, ◌≡◌, Bool, List}
use Rattle.address.specs.Layout.{line_bytes, page_bytes}
use Rattle.board.specs.Answers.{answer}
use Rattle.board.specs.declared.Answer.{Answer}
use Rattle.board.specs.declared.Shape.{Shape}
use Rattle.lines.specs.Premises.{Lined}
use Rattle.machine.specs.Refusals.{by_table, lowest}
use Rattle.record_steps.specs.Lent.{lent_page_table, lent_flush_table, protected_words}

-- an answer and the frame words: what protect has before it walks the lines
pub record Worded : Type 0 where
  pub answer : Answer
  pub words : List ℕ

abbrev pub worded : Answer → List ℕ → Worded
worded a words = record { answer = a; words = words }

unfoldable pub word_changed : Shape → ℕ → List ℕ → ℕ → ℕ → ℕ → ℕ → Bool → Worded
word_changed s slots words lines cache memory page write =
    by_table (λ n. worded (answer n 0 0) words) (lent_page_table s slots words lines cache memory page) (worded (answer 0 0 0) (protected_words s words page write))

-- flush all's answer
abbrev pub flush_answer : Shape → ℕ → ℕ → ℕ → ℕ → ℕ → Answer
flush_answer s slots words lines cache memory = answer (lowest (lent_flush_table s slots words lines cache memory)) 0 0

-- line i stands on an accepted board, and its cache and memory have their lengths
pub record Placed (s : Shape) (i cache memory : ℕ) : Type 0 where
  pub lined : Lined s
  pub inside : i < s.lines
  pub cache_is : cache ≡ line_bytes * s.lines
  pub memory_is : memory ≡ page_bytes * s.frames
