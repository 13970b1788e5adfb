-- `move_page` goes by its page's frame, visits the lines of both pages, and gives the frame to the new one.
use native.Mathlib.Omega.{arith}
use Rattle.board.proofs.Refusals.{passed}
use Rattle.machine.specs.Calls.{move_page}
use Rattle.machine.proofs.Fits.{fitted-sized, unfitted}
use Rattle.move_call.proofs.Moves.{move-inside, move-page, move_new, move-refused, move-done}
use Rattle.move_call.proofs.move_page.Goals as goal

pub of_move-requires : goal.of_move-requires
of_move-requires c = let e = c.move_frame.ensures in
    let x = move-page _ _ _ _ _ _ e c.in_ok-f.was in
    let y = move_new _ _ _ _ _ _ e c.in_ok-f.was in
    (omega (arith, x, y), omega (arith, x, y))

pub visit_names-requires : goal.visit_names-requires
visit_names-requires c = fitted-sized _ _ _ _ _ _ _ _ c.fit.ensures c.in_ok-fit.was

pub offset_bounds-words-f : goal.offset_bounds-words-f
offset_bounds-words-f c = omega (arith, move-inside _ _ _ _ _ _ c.move_frame.ensures c.in_ok-f.was)

pub bounds-words-f : goal.bounds-words-f
bounds-words-f c = move-inside _ _ _ _ _ _ c.move_frame.ensures c.in_ok-f.was

pub offset_bounds-words-f-2 : goal.offset_bounds-words-f-2
offset_bounds-words-f-2 c = omega (arith, move-inside _ _ _ _ _ _ c.move_frame.ensures c.in_ok-f.was)

pub bounds-words-f-2 : goal.bounds-words-f-2
bounds-words-f-2 c = move-inside _ _ _ _ _ _ c.move_frame.ensures c.in_ok-f.was

pub frame_word-requires : goal.frame_word-requires
frame_word-requires c = move_new _ _ _ _ _ _ c.move_frame.ensures c.in_ok-f.was

pub returns-in_err-fit : goal.returns-in_err-fit
unfolding move_page
returns-in_err-fit c = λ tag. unfitted _ _ _ _ _ _ _ _ c.fit.ensures _ _ tag _ _ c.in_err-fit.was (passed c.from_residual.ensures.1)

pub returns-in_err-f : goal.returns-in_err-f
returns-in_err-f c = λ tag. move-refused _ _ _ _ _ _ _ tag _ c.fit.ensures c.in_ok-fit.was _ _ _ c.move_frame.ensures _ _ c.in_err-f.was
    (passed c.from_residual-in_err-f.ensures.1)

pub returns : goal.returns
returns c = λ tag. move-done _ _ _ _ _ _ _ tag _ c.fit.ensures c.in_ok-fit.was _ _ _ c.move_frame.ensures _ _ _ _ _ _ c.in_ok-f.was c.of_move.ensures
    c.visit_names.ensures c.word_writes-write.ensures c.frame_word.ensures
