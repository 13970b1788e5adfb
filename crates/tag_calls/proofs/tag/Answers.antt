-- `tag` asks its rows in their order.
use Rattle.board.proofs.Refusals.{passed}
use Rattle.machine.specs.Calls.{tag}
use Rattle.machine.proofs.Fits.{unfitted}
use Rattle.tag_calls.proofs.Tags.{tag-outside, tag-pending, tag-done}
use Rattle.tag_calls.proofs.tag.Goals as goal

pub returns-in_err-fit : goal.returns-in_err-fit
unfolding tag
returns-in_err-fit c = unfitted _ _ _ _ _ _ _ _ c.fit.ensures _ _ _ _ _ c.in_err-fit.was (passed c.from_residual.ensures.1)

pub returns-then-not-ordinary_page : goal.returns-then-not-ordinary_page
returns-then-not-ordinary_page c = tag-outside _ _ _ _ _ _ _ _ _ c.fit.ensures c.in_ok-fit.was _ _ c.ordinary_page.ensures c.if-not-ordinary_page.true

pub returns-then-pending : goal.returns-then-pending
returns-then-pending c = tag-pending _ _ _ _ _ _ _ _ _ c.fit.ensures c.in_ok-fit.was _ _ c.ordinary_page.ensures c.if-not-ordinary_page.false c.if-pending.true

pub returns : goal.returns
returns c = tag-done _ _ _ _ _ _ _ _ _ c.fit.ensures c.in_ok-fit.was _ _ c.ordinary_page.ensures c.if-not-ordinary_page.false c.if-pending.false
