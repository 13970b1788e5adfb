-- `protect` goes by its page's frame, visits the lines and sets the word.
use native.Mathlib.Omega.{arith}
use Rattle.board.proofs.Refusals.{passed}
use Rattle.machine.specs.Calls.{protect}
use Rattle.machine.proofs.Fits.{fitted-sized, unfitted}
use Rattle.page_calls.proofs.Pages.{frame-inside, frame-page, protect-stop, protect-done}
use Rattle.page_calls.proofs.protect.Goals as goal

pub of_protect-requires : goal.of_protect-requires
of_protect-requires c = frame-page _ _ _ _ _ c.page_frame.ensures c.in_ok-f.was

pub visit_names-requires : goal.visit_names-requires
visit_names-requires c = fitted-sized _ _ _ _ _ _ _ _ c.fit.ensures c.in_ok-fit.was

pub frame_word-requires : goal.frame_word-requires
frame_word-requires c = frame-page _ _ _ _ _ c.page_frame.ensures c.in_ok-f.was

pub offset_bounds-words-f : goal.offset_bounds-words-f
offset_bounds-words-f c = omega (arith, frame-inside _ _ _ _ _ c.page_frame.ensures c.in_ok-f.was)

pub bounds-words-f : goal.bounds-words-f
bounds-words-f c = frame-inside _ _ _ _ _ c.page_frame.ensures c.in_ok-f.was

pub returns-in_err-fit : goal.returns-in_err-fit
unfolding protect
returns-in_err-fit c = λ tag. unfitted _ _ _ _ _ _ _ _ c.fit.ensures _ _ tag _ _ c.in_err-fit.was (passed c.from_residual.ensures.1)

pub returns-in_err-f : goal.returns-in_err-f
returns-in_err-f c = λ tag. protect-stop _ _ _ _ _ _ _ tag _ c.fit.ensures c.in_ok-fit.was _ _ c.page_frame.ensures _ _ _ c.in_err-f.was
    (passed c.from_residual-in_err-f.ensures.1)

pub returns : goal.returns
returns c = λ tag. protect-done _ _ _ _ _ _ _ tag _ c.fit.ensures c.in_ok-fit.was _ _ c.page_frame.ensures _ _ _ _ _ _ c.in_ok-f.was c.of_protect.ensures
    c.visit_names.ensures c.frame_word.ensures
