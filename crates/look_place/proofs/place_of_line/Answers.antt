-- `place_of_line` goes by the record that keeps the line.
use native.Mathlib.Omega.{arith}
use Rattle.line_calls.proofs.Looks.{keeper-inside}
use Rattle.look_place.proofs.Lends.{place_kept, place-memory}
use borrow.Author.Rules.{rules}
use Rattle.look_place.proofs.place_of_line.Goals as goal

pub overflow_mul-result : goal.overflow_mul-result
overflow_mul-result c = record { fits = omega (arith, keeper-inside _ _ _ _ _ c.keeper_of.ensures c.in-Some.is) }

pub returns-in-Some : goal.returns-in-Some
returns-in-Some c = search (rules, place_kept)

pub returns-in-None : goal.returns-in-None
returns-in-None c = search (rules, place-memory)
