-- `detach_slot` is one store: the slots taken out, changed in one place and put back.
use Rattle.board.proofs.Lists.{part-put}
use borrow.Author.Rules.{rules}
use Rattle.slots.proofs.detach_slot.Goals as goal

pub returns : goal.returns
returns c = search (rules, part-put)
