-- `load_line` inserts the line where there is room for it; a line that is held has none.
use Rattle.lines.proofs.Holders.{room-low}
use Rattle.load_call.proofs.Loads.{loaded-held, loaded-new}
use borrow.Author.Rules.{rules}
use Rattle.load_call.proofs.load_line.Goals as goal

pub note_use-requires : goal.note_use-requires
note_use-requires c = search (rules, room-low)

pub insert-requires : goal.insert-requires
insert-requires c = search (rules, room-low)

pub returns-in-None : goal.returns-in-None
returns-in-None c = search (rules, loaded-held)

pub returns-in-Some : goal.returns-in-Some
returns-in-Some c = search (rules, loaded-new)
