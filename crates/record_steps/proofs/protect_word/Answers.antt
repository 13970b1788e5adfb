-- `protect_word` asks the shape, goes by the page's frame, and sets the word.
use native.Mathlib.Omega.{arith}
use Rattle.board.proofs.Refusals.{passed}
use Rattle.page_calls.proofs.Pages.{frame-inside, frame-page}
use Rattle.record_steps.proofs.Decided.{word-unfit, word-stop, word-done}
use Rattle.record_steps.proofs.protect_word.Goals as goal

pub frame_word-requires : goal.frame_word-requires
frame_word-requires c = frame-page _ _ _ _ _ c.page_frame.ensures c.in_ok-f.was

pub offset_bounds-words-f : goal.offset_bounds-words-f
offset_bounds-words-f c = omega (arith, frame-inside _ _ _ _ _ c.page_frame.ensures c.in_ok-f.was)

pub bounds-words-f : goal.bounds-words-f
bounds-words-f c = frame-inside _ _ _ _ _ c.page_frame.ensures c.in_ok-f.was

pub returns-in_err-fit_lines : goal.returns-in_err-fit_lines
returns-in_err-fit_lines c = word-unfit _ _ _ _ _ _ _ _ _ c.fit_lines.ensures.0 _ _ c.in_err-fit_lines.was (passed c.from_residual.ensures.1)

pub returns-in_err-f : goal.returns-in_err-f
returns-in_err-f c = word-stop _ _ _ _ _ _ _ _ _ c.fit_lines.ensures.0 c.in_ok-fit_lines.was _ c.page_frame.ensures _ _ c.in_err-f.was
    (passed c.from_residual-in_err-f.ensures.1)

pub returns : goal.returns
returns c = word-done _ _ _ _ _ _ _ _ _ c.fit_lines.ensures.0 c.in_ok-fit_lines.was _ c.page_frame.ensures _ _ c.in_ok-f.was c.frame_word.ensures
