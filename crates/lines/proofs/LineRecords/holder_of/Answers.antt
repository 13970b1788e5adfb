-- `holder_of` looks at the records of the name's set: four, or one.
use Rattle.lines.proofs.Holders.{first-inside, four-inside, holder-four, holder-at, holder-none}
use borrow.Author.Rules.{rules}
use Rattle.lines.proofs.LineRecords.holder_of.Goals as goal

pub holder_in-requires : goal.holder_in-requires
holder_in-requires c = search (rules, four-inside)

pub returns-then-s-eq-SET_LINES : goal.returns-then-s-eq-SET_LINES
returns-then-s-eq-SET_LINES c = search (rules, holder-four)

pub holds_name-requires : goal.holds_name-requires
holds_name-requires c = search (rules, first-inside)

pub returns-then-holds_name : goal.returns-then-holds_name
returns-then-holds_name c = search (rules, holder-at)

pub returns : goal.returns
returns c = search (rules, holder-none)
