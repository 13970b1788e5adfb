-- `in_frame` tests a line by its own frame.
use Rattle.dump_lines.proofs.Homes.{frame-low, frame-page, frame-direct}
use borrow.Author.Rules.{rules}
use Rattle.dump_lines.proofs.in_frame.Goals as goal

pub returns-then-frame-s : goal.returns-then-frame-s
returns-then-frame-s c = search (rules, frame-low)

pub returns-then-ordinary_page : goal.returns-then-ordinary_page
returns-then-ordinary_page c = search (rules, frame-page)

pub returns : goal.returns
returns c = search (rules, frame-direct)
