-- 01, "Calls": each answer is a number, a value and a mark. The mark says how an access went (CR 8).
use Rattle.std.specs.Prelude.{ℕ, Bool, cond}
use Rattle.board.specs.declared.Answer.{Answer}

abbrev pub answer : ℕ → ℕ → ℕ → Answer
answer number value mark = record { number = number; value = value; mark = mark }

-- refused, or not an access
abbrev pub mark_no_access : ℕ
mark_no_access = 0

-- hit: the line was held when the access came
abbrev pub mark_hit : ℕ
mark_hit = 1

-- refilled without a write-back
abbrev pub mark_refilled : ℕ
mark_refilled = 2

-- refilled with a write-back in that call
abbrev pub mark_wrote_back : ℕ
mark_wrote_back = 3

-- uncached
abbrev pub mark_uncached : ℕ
mark_uncached = 4

-- the mark of an access by the cache: whether its line was held when it came, and whether a line was written back in that call.
-- (Where the line is held none is filled, so none is written back.)
unfoldable pub mark_of : Bool → Bool → ℕ
mark_of held back = cond held mark_hit (cond back mark_wrote_back mark_refilled)
