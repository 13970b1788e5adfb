-- `flush_all` visits all lines.
use Rattle.board.proofs.Refusals.{passed}
use Rattle.machine.specs.Calls.{flush_all}
use Rattle.machine.proofs.Fits.{fitted-sized, unfitted}
use Rattle.line_calls.proofs.Flushes.{flush-done}
use Rattle.line_calls.proofs.flush_all.Goals as goal

pub visit_names-requires : goal.visit_names-requires
visit_names-requires c = fitted-sized _ _ _ _ _ _ _ _ c.fit.ensures c.in_ok-fit.was

pub returns-in_err-fit : goal.returns-in_err-fit
unfolding flush_all
returns-in_err-fit c = λ tag. unfitted _ _ _ _ _ _ _ _ c.fit.ensures _ _ tag _ _ c.in_err-fit.was (passed c.from_residual.ensures.1)

pub returns : goal.returns
returns c = λ tag. flush-done _ _ _ _ _ _ _ tag _ c.fit.ensures c.in_ok-fit.was _ _ _ c.of_flush.ensures c.visit_names.ensures
