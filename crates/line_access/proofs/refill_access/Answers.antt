-- `refill_access` is a miss in the record that the line takes, and its use.
use Rattle.lines.proofs.Holders.{victim-low}
use Rattle.line_access.proofs.Lines.{refilled_by}
use borrow.Author.Rules.{rules}
use Rattle.line_access.proofs.refill_access.Goals as goal

pub note_use-requires : goal.note_use-requires
note_use-requires c = search (rules, victim-low)

pub insert-back-requires : goal.insert-back-requires
insert-back-requires c = search (rules, victim-low)

pub perform_on-requires : goal.perform_on-requires
perform_on-requires c = let h = victim-low _ _ _ _ _ c.requires.0.lined c.victim_of-to.ensures in
    (search (rules, h), search (rules, h), search rules, search rules, search rules)

pub returns : goal.returns
returns c = refilled_by _ _ _ _ _ _ _ _ _ _ _ _ _ _ _ _ _ _ _ c.victim_of-to.ensures c.note_use.ensures c.insert-back.ensures c.perform_on.ensures
