-- `look` lends a part of the cache bytes or of memory, or an empty part.
use Rattle.machine.specs.Boards.{no_tag}
use Rattle.line_calls.proofs.Looks.{look-sized, look-line, look-inside, look-empty, start-inside, start-refused}
use borrow.Author.Rules.{rules}
use Rattle.line_calls.proofs.look.Goals as goal

pub current_part-requires : goal.current_part-requires
current_part-requires c = let e = c.look_check.ensures no_tag in
    (look-sized _ _ _ _ _ _ _ no_tag _ _ e c.in-Ok.is, look-line _ _ _ _ _ _ _ no_tag _ _ e c.in-Ok.is)

pub returns-in-Ok : goal.returns-in-Ok
returns-in-Ok c = λ tag. let e = c.look_check.ensures tag in
    (look-inside _ _ _ _ _ _ _ tag _ _ e c.in-Ok.is _ c.current_part.ensures.0, start-inside _ _ _ _ _ _ _ tag _ _ e c.in-Ok.is _ _ _ c.current_part.ensures.1)

pub returns-in-Err : goal.returns-in-Err
returns-in-Err c = λ tag. let e = c.look_check.ensures tag in
    (look-empty _ _ _ _ _ _ _ tag _ _ e _ c.in-Err.is, start-refused _ _ _ _ _ _ _ tag _ _ e _ c.in-Err.is _ _ _ (search rules) (search rules))
