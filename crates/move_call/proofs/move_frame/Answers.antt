-- `move_frame` asks the rows of move in their order.
use Rattle.board.proofs.Refusals.{passed}
use Rattle.move_call.proofs.Moves.{move-outside, move-stop, move_taken, move-on}
use Rattle.move_call.proofs.move_frame.Goals as goal

pub returns-then-not-ordinary_page : goal.returns-then-not-ordinary_page
returns-then-not-ordinary_page c = move-outside _ _ _ _ _ c.ordinary_page.ensures c.if-not-ordinary_page.true

pub returns-in_err-f : goal.returns-in_err-f
returns-in_err-f c = move-stop _ _ _ _ _ c.ordinary_page.ensures c.if-not-ordinary_page.false _ c.page_frame.ensures _ _ c.in_err-f.was (passed c.from_residual.ensures.1)

pub returns-then-is_some : goal.returns-then-is_some
returns-then-is_some c = move_taken _ _ _ _ _ c.ordinary_page.ensures c.if-not-ordinary_page.false _ c.page_frame.ensures _ c.in_ok-f.was
    _ c.mapped_to.ensures _ c.is_some.ensures c.if-is_some.true

pub returns : goal.returns
returns c = move-on _ _ _ _ _ c.ordinary_page.ensures c.if-not-ordinary_page.false _ c.page_frame.ensures _ c.in_ok-f.was
    _ c.mapped_to.ensures _ c.is_some.ensures c.if-is_some.false
