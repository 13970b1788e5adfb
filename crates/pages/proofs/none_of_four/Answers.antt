-- `none_of_four` is its four tests.
use Rattle.pages.proofs.Frames.{four-other}
use borrow.Author.Rules.{rules}
use Rattle.pages.proofs.none_of_four.Goals as goal

pub returns : goal.returns
returns c = search (rules, four-other)
