-- `victim_of` looks through a set of four; of one line it is that line.
use Rattle.lines.proofs.Holders.{victim-four, victim-single}
use borrow.Author.Rules.{rules}
use Rattle.lines.proofs.LineRecords.victim_of.Goals as goal

pub returns-then-s-eq-SET_LINES : goal.returns-then-s-eq-SET_LINES
returns-then-s-eq-SET_LINES c = search (rules, victim-four)

pub returns : goal.returns
returns c = search (rules, victim-single)
