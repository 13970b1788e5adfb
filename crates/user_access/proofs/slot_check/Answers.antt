-- `slot_check` is rows 6 and 7: one law a return.
use Rattle.user_access.proofs.Checks.{attachable-below, slot-empty, slot-reads, slot-goes}
use borrow.Author.Rules.{rules}
use Rattle.user_access.proofs.slot_check.Goals as goal

pub returns-then-not-attachable_segment : goal.returns-then-not-attachable_segment
returns-then-not-attachable_segment c = search (rules, slot-empty)

pub returns-then-a-word : goal.returns-then-a-word
returns-then-a-word c = search (rules, slot-reads)

pub in_segment-requires : goal.in_segment-requires
in_segment-requires c = search (rules, attachable-below)

pub returns : goal.returns
returns c = search (rules, slot-goes)
