-- `current_part` lends the line of the record that keeps it, else the line in memory.
use native.Mathlib.Omega.{arith}
use Rattle.line_calls.proofs.Looks.{keeper-inside, current-kept, current-memory, start-kept, start-memory}
use borrow.Author.Rules.{rules}
use Rattle.line_calls.proofs.current_part.Goals as goal

pub overflow_mul-a : goal.overflow_mul-a
overflow_mul-a c = omega (arith, keeper-inside _ _ _ _ _ c.keeper_of.ensures c.in-Some.is)

pub overflow_add-result : goal.overflow_add-result
overflow_add-result c = omega (arith, keeper-inside _ _ _ _ _ c.keeper_of.ensures c.in-Some.is)

pub slice_bounds-result-end : goal.slice_bounds-result-end
slice_bounds-result-end c = omega (arith, keeper-inside _ _ _ _ _ c.keeper_of.ensures c.in-Some.is)

pub returns-in-Some : goal.returns-in-Some
returns-in-Some c = (search (rules, current-kept), start-kept _ _ _ _ c.keeper_of.ensures _ _ _ _ c.in-Some.is (search rules) (search rules))

pub returns-in-None : goal.returns-in-None
returns-in-None c = (search (rules, current-memory), start-memory _ _ _ _ c.keeper_of.ensures _ _ _ c.in-None.is (search rules) (search rules))
