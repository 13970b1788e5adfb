-- `put_slots` puts the slots back: what the lent part leaves.
use Rattle.board.proofs.Lists.{length-lent, splice-copied}
use borrow.Author.Rules.{rules}
use Rattle.slots.proofs.put_slots.Goals as goal

pub copy_from_slice-requires : goal.copy_from_slice-requires
copy_from_slice-requires c = search (rules, length-lent)

pub returns : goal.returns
returns c = search (rules, splice-copied)
