-- `room_for` looks for the line in its set, then for the record that it takes.
use Rattle.lines.proofs.Holders.{four-inside, first-inside, room-held, room-new, room-held-one, room-new-one}
use borrow.Author.Rules.{rules}
use Rattle.lines.proofs.LineRecords.room_for.Goals as goal

pub holder_in-requires : goal.holder_in-requires
holder_in-requires c = search (rules, four-inside)

pub returns-in-Some : goal.returns-in-Some
returns-in-Some c = search (rules, room-held)

pub returns-in-None : goal.returns-in-None
returns-in-None c = search (rules, room-new)

pub holds_name-requires : goal.holds_name-requires
holds_name-requires c = search (rules, first-inside)

pub returns-then-holds_name : goal.returns-then-holds_name
returns-then-holds_name c = search (rules, room-held-one)

pub returns : goal.returns
returns c = search (rules, room-new-one)
