-- `free_frame` is its three tests in order.
use borrow.Author.Tests.{le-leb, lt-ltb}
use Rattle.pages.specs.Pages.{free_frame}
use Rattle.address.proofs.Tests.{tests}
use borrow.Author.Rules.{rules}
use Rattle.pages.proofs.PageMap.free_frame.Goals as goal

pub returns-then-frame-s : goal.returns-then-frame-s
unfolding free_frame
returns-then-frame-s c = rw (le-leb _ _ c.if-frame-s.true.0, lt-ltb _ _ c.if-frame-s.true.1)

pub returns-else-frame-s : goal.returns-else-frame-s
unfolding free_frame
returns-else-frame-s c = search (rules, tests)
