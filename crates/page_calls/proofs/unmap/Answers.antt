-- `unmap` goes by its page's frame, visits the lines and frees the frame.
use native.Mathlib.Omega.{arith}
use Rattle.board.proofs.Refusals.{passed}
use Rattle.machine.specs.Calls.{unmap}
use Rattle.machine.proofs.Fits.{fitted-sized, unfitted}
use Rattle.page_calls.proofs.Pages.{frame-inside, frame-page, unmap-stop, unmap-done}
use Rattle.page_calls.proofs.unmap.Goals as goal

pub of_unmap-requires : goal.of_unmap-requires
of_unmap-requires c = frame-page _ _ _ _ _ c.page_frame.ensures c.in_ok-f.was

pub visit_names-requires : goal.visit_names-requires
visit_names-requires c = fitted-sized _ _ _ _ _ _ _ _ c.fit.ensures c.in_ok-fit.was

pub offset_bounds-words-f : goal.offset_bounds-words-f
offset_bounds-words-f c = omega (arith, frame-inside _ _ _ _ _ c.page_frame.ensures c.in_ok-f.was)

pub bounds-words-f : goal.bounds-words-f
bounds-words-f c = frame-inside _ _ _ _ _ c.page_frame.ensures c.in_ok-f.was

pub returns-in_err-fit : goal.returns-in_err-fit
unfolding unmap
returns-in_err-fit c = λ tag. unfitted _ _ _ _ _ _ _ _ c.fit.ensures _ _ tag _ _ c.in_err-fit.was (passed c.from_residual.ensures.1)

pub returns-in_err-f : goal.returns-in_err-f
returns-in_err-f c = λ tag. unmap-stop _ _ _ _ _ _ _ tag _ c.fit.ensures c.in_ok-fit.was _ _ c.page_frame.ensures _ _ c.in_err-f.was
    (passed c.from_residual-in_err-f.ensures.1)

pub returns : goal.returns
returns c = λ tag. unmap-done _ _ _ _ _ _ _ tag _ c.fit.ensures c.in_ok-fit.was _ _ c.page_frame.ensures _ _ _ _ c.in_ok-f.was c.of_unmap.ensures
    c.visit_names.ensures
