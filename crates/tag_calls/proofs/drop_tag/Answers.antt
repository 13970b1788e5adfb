-- `drop_tag` asks its rows in their order.
use Rattle.board.proofs.Refusals.{passed}
use Rattle.machine.specs.Calls.{drop_tag}
use Rattle.machine.proofs.Fits.{unfitted}
use Rattle.tag_calls.proofs.Tags.{drop-done, drop-empty}
use Rattle.tag_calls.proofs.drop_tag.Goals as goal

pub returns-in_err-fit : goal.returns-in_err-fit
unfolding drop_tag
returns-in_err-fit c = unfitted _ _ _ _ _ _ _ _ c.fit.ensures _ _ _ _ _ c.in_err-fit.was (passed c.from_residual.ensures.1)

pub returns-then-not-pending : goal.returns-then-not-pending
returns-then-not-pending c = drop-empty _ _ _ _ _ _ _ _ _ c.fit.ensures c.in_ok-fit.was c.if-not-pending.true

pub returns : goal.returns
returns c = drop-done _ _ _ _ _ _ _ _ _ c.fit.ensures c.in_ok-fit.was _ c.if-not-pending.false c.none.ensures.0 c.none.ensures.1
