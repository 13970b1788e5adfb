-- `after_byte`: by what the byte makes of the number.
use borrow.Author.Rules.{rules}
use Rattle.std.proofs.lemmas.Result.{err_from_is_err_and}
use Rattle.log_reader.proofs.Readers.{byte_more, byte-whole, byte-wrong}
use Rattle.log_reader.proofs.after_byte.Goals as goal

pub returns-in_err-sum : goal.returns-in_err-sum
returns-in_err-sum c = let a = c.args in
    let p = err_from_is_err_and c.from_residual.result c.from_residual.ensures.1 in
    rw (p.1, p.2) (byte-wrong a.r a.b c.take_byte.result c.take_byte.ensures c.requires.1 _ c.in_err-sum.was, tt {0})

pub returns-in-More : goal.returns-in-More
returns-in-More c = let a = c.args in let z = byte_more a.r a.b c.take_byte.result c.take_byte.ensures c.requires.1 c.in-More.sum c.requires.0 (search rules) in
    (z.0, (z.1, search rules))

pub returns-in-Whole : goal.returns-in-Whole
returns-in-Whole c = let a = c.args in
    (byte-whole a.r a.b c.take_byte.result c.take_byte.ensures c.requires.1 c.in-Whole.n _ (search rules) c.after_number.ensures.0, c.after_number.ensures.1)
