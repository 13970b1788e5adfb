-- `load_and_map` goes by its check.
use Rattle.board.proofs.Refusals.{passed}
use Rattle.machine.specs.Calls.{load_and_map}
use Rattle.machine.proofs.Fits.{fitted-sized, fitted-uses, fitted-words, fitted-frames, unfitted}
use Rattle.load_call.proofs.Loads.{fill-line, load-refused, load-done}
use Rattle.load_call.proofs.load_and_map.Goals as goal

pub invariant_of-load_check : goal.invariant_of-load_check
invariant_of-load_check c = record { words_are = fitted-words _ _ _ _ _ _ _ _ c.fit.ensures c.in_ok-fit.was; frames_max = fitted-frames _ _ _ _ _ _ _ _ c.fit.ensures c.in_ok-fit.was }

pub load_line-requires : goal.load_line-requires
load_line-requires c = (
  fitted-sized _ _ _ _ _ _ _ _ c.fit.ensures c.in_ok-fit.was,
  fitted-uses _ _ _ _ _ _ _ _ c.fit.ensures c.in_ok-fit.was,
  fill-line _ _ _ _ _ _ c.load_check.ensures c.in_ok-write.was,
)

pub returns-in_err-fit : goal.returns-in_err-fit
unfolding load_and_map
returns-in_err-fit c = unfitted _ _ _ _ _ _ _ _ c.fit.ensures _ _ _ _ _ c.in_err-fit.was (passed c.from_residual.ensures.1)

pub returns-in_err-write : goal.returns-in_err-write
returns-in_err-write c = load-refused _ _ _ _ _ _ _ _ _ c.fit.ensures c.in_ok-fit.was _ _ c.load_check.ensures _ _ c.in_err-write.was
    (passed c.from_residual-in_err-write.ensures.1)

pub returns : goal.returns
returns c = load-done _ _ _ _ _ _ _ _ _ c.fit.ensures c.in_ok-fit.was _ _ c.load_check.ensures _ _ _ _ _ _ c.in_ok-write.was c.load_line.ensures
    c.none.ensures.0 c.none.ensures.1
