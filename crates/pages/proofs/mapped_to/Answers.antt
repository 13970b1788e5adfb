-- `mapped_to` searches for an ordinary page only, whose number fits.
use Rattle.pages.proofs.Frames.{ordinary-below, mapped-some, mapped-none}
use borrow.Author.Rules.{rules}
use Rattle.pages.proofs.mapped_to.Goals as goal

pub lowest_frame-requires : goal.lowest_frame-requires
lowest_frame-requires c = search (rules, ordinary-below)

pub returns-then-ordinary_page : goal.returns-then-ordinary_page
returns-then-ordinary_page c = search (rules, mapped-some)

pub returns : goal.returns
returns c = search (rules, mapped-none)
