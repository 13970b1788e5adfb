-- A search: the lowest number of a range that passes a test.
use Rattle.std.specs.Prelude.{ℕ, zero, suc, Bool, cond, Option, Some, None}

-- the lowest of the n numbers from i on that passes
unfoldable pub first : (ℕ → Bool) → ℕ → ℕ → Option ℕ
first test i zero = None
first test i (suc n) = cond (test i) (Some i) (first test (suc i) n)
