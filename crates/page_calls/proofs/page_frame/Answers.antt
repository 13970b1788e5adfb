-- `page_frame` asks the rows of unmap and protect in their order.
use Rattle.page_calls.proofs.Pages.{frame-outside, frame-found}
use borrow.Author.Rules.{rules}
use Rattle.page_calls.proofs.page_frame.Goals as goal

pub returns-then-not-ordinary_page : goal.returns-then-not-ordinary_page
returns-then-not-ordinary_page c = frame-outside _ _ _ _ c.ordinary_page.ensures c.if-not-ordinary_page.true

pub returns : goal.returns
returns c = frame-found _ _ _ _ c.ordinary_page.ensures _ _ c.if-not-ordinary_page.false c.mapped_to.ensures c.ok_or.ensures.value
