-- `place` asks whether look is refused, and gives the place.
use Rattle.machine.specs.Boards.{no_tag}
use Rattle.line_calls.proofs.Looks.{look-sized, look-line}
use Rattle.look_place.proofs.Lends.{look-at-inside, look-at-refused}
use Rattle.look_place.proofs.place.Goals as goal

pub place_of_line-requires : goal.place_of_line-requires
place_of_line-requires c = let e = c.look_check.ensures no_tag in
    (look-sized _ _ _ _ _ _ _ no_tag _ _ e c.in-Ok.is, look-line _ _ _ _ _ _ _ no_tag _ _ e c.in-Ok.is)

pub returns-in-Ok : goal.returns-in-Ok
returns-in-Ok c = λ tag. look-at-inside _ _ _ _ _ _ _ tag _ _ (c.look_check.ensures tag) c.in-Ok.is _ c.place_of_line.ensures

pub returns-in-Err : goal.returns-in-Err
returns-in-Err c = λ tag. look-at-refused _ _ _ _ _ _ _ tag _ _ (c.look_check.ensures tag) _ c.in-Err.is
