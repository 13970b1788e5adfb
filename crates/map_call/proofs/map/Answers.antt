-- `map` goes by its check: where nothing is against it, it visits the lines, zeroes the frame and sets its word.
use native.Mathlib.Omega.{arith}
use Rattle.board.proofs.Refusals.{passed}
use Rattle.machine.specs.Calls.{map_page}
use Rattle.machine.proofs.Fits.{fitted-sized, fitted-words, fitted-memory, fitted-frames, unfitted}
use Rattle.map_call.proofs.Maps.{passed-frame, passed-page, map-refused, map-done}
use Rattle.map_call.proofs.map.Goals as goal

pub returns-in_err-fit : goal.returns-in_err-fit
unfolding map_page
returns-in_err-fit c = λ tag. unfitted _ _ _ _ _ _ _ _ c.fit.ensures _ _ tag _ _ c.in_err-fit.was (passed c.from_residual.ensures.1)

pub invariant_of-map_check : goal.invariant_of-map_check
invariant_of-map_check c = record { words_are = fitted-words _ _ _ _ _ _ _ _ c.fit.ensures c.in_ok-fit.was; frames_max = fitted-frames _ _ _ _ _ _ _ _ c.fit.ensures c.in_ok-fit.was }

pub returns-in_err-map_check : goal.returns-in_err-map_check
returns-in_err-map_check c = λ tag. map-refused _ _ _ _ _ _ _ tag _ c.fit.ensures c.in_ok-fit.was _ _ _ _ c.map_check.ensures _ _ c.in_err-map_check.was
    (passed c.from_residual-in_err-map_check.ensures.1)

pub of_map-requires : goal.of_map-requires
of_map-requires c = (passed-page _ _ _ _ _ c.map_check.ensures c.in_ok-map_check.was, omega (arith, passed-frame _ _ _ _ _ c.map_check.ensures c.in_ok-map_check.was, fitted-frames _ _ _ _ _ _ _ _ c.fit.ensures c.in_ok-fit.was))

pub visit_names-requires : goal.visit_names-requires
visit_names-requires c = fitted-sized _ _ _ _ _ _ _ _ c.fit.ensures c.in_ok-fit.was

pub zero_frame-requires : goal.zero_frame-requires
zero_frame-requires c = omega (arith, passed-frame _ _ _ _ _ c.map_check.ensures c.in_ok-map_check.was, fitted-memory _ _ _ _ _ _ _ _ c.fit.ensures c.in_ok-fit.was)

pub frame_word-requires : goal.frame_word-requires
frame_word-requires c = passed-page _ _ _ _ _ c.map_check.ensures c.in_ok-map_check.was

pub bounds-words-frame : goal.bounds-words-frame
bounds-words-frame c = omega (arith, passed-frame _ _ _ _ _ c.map_check.ensures c.in_ok-map_check.was, fitted-words _ _ _ _ _ _ _ _ c.fit.ensures c.in_ok-fit.was)

pub returns : goal.returns
returns c = λ tag. map-done _ _ _ _ _ _ _ tag _ c.fit.ensures c.in_ok-fit.was _ _ _ _ c.map_check.ensures _ _ _ _ _ c.in_ok-map_check.was c.of_map.ensures
    c.visit_names.ensures c.zero_frame.ensures c.frame_word.ensures
