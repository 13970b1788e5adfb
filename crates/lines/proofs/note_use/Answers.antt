-- `note_use` notes a use in the matrix of the record's set, where sets have four lines.
use Rattle.lines.proofs.Holders.{set-noted, use-four, use-none}
use borrow.Author.Rules.{rules}
use Rattle.lines.proofs.note_use.Goals as goal

pub note-requires : goal.note-requires
note-requires c = search (rules, set-noted)

pub returns-then-s-eq-SET_LINES : goal.returns-then-s-eq-SET_LINES
returns-then-s-eq-SET_LINES c = search (rules, use-four)

pub returns-else-s-eq-SET_LINES : goal.returns-else-s-eq-SET_LINES
returns-else-s-eq-SET_LINES c = search (rules, use-none)
