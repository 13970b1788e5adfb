-- `look_check` asks the rows of look in their order.
use native.Mathlib.Omega.{arith}
use Rattle.board.proofs.Refusals.{passed}
use Rattle.machine.proofs.Fits.{fitted-frames}
use Rattle.line_calls.proofs.Looks.{check-unfit, check-outside, check-inside}
use Rattle.line_calls.proofs.look_check.Goals as goal

pub overflow_mul-s : goal.overflow_mul-s
overflow_mul-s c = omega (arith, fitted-frames _ _ _ _ _ _ _ _ c.fit.ensures c.in_ok-fit.was)

pub returns-in_err-fit : goal.returns-in_err-fit
returns-in_err-fit c = λ tag. check-unfit _ _ _ _ _ _ _ tag _ _ c.fit.ensures _ _ c.in_err-fit.was (passed c.from_residual.ensures.1)

pub returns-then-line-s : goal.returns-then-line-s
returns-then-line-s c = λ tag. check-outside _ _ _ _ _ _ _ tag _ _ c.fit.ensures c.in_ok-fit.was c.if-line-s.true

pub returns : goal.returns
returns c = λ tag. check-inside _ _ _ _ _ _ _ tag _ _ c.fit.ensures c.in_ok-fit.was c.if-line-s.false
