-- `after_number`: by what the number makes of the entry.
use native.Mathlib.Omega.{arith}
use borrow.Author.Rules.{rules}
use Rattle.std.proofs.lemmas.Result.{err_from_is_err_and}
use Rattle.log_reader.proofs.Readers.{number_fits, number-grows, number-ends, number-improper}
use Rattle.log_reader.proofs.after_number.Goals as goal

pub overflow_add-result : goal.overflow_add-result
overflow_add-result c = let a = c.args in omega (arith, number_fits a.r a.n c.enter.result c.in-Growing.entry c.enter.ensures (search rules))

pub returns-in-Growing : goal.returns-in-Growing
returns-in-Growing c = let a = c.args in let z = number-grows a.r a.n c.enter.result c.in-Growing.entry c.enter.ensures (search rules) in (z.0, (z.1, search rules))

pub returns-in-Whole : goal.returns-in-Whole
returns-in-Whole c = let a = c.args in let z = number-ends a.r a.n c.enter.result c.in-Whole.entry c.enter.ensures (search rules) in (z.0, (z.1, search rules))

pub returns-in_err-entry : goal.returns-in_err-entry
returns-in_err-entry c = let a = c.args in
    let p = err_from_is_err_and c.from_residual.result c.from_residual.ensures.1 in
    rw (p.1, p.2) (number-improper a.r a.n c.enter.result _ c.enter.ensures c.in_err-entry.was, tt {0})
