-- `place_key` reads the physical line of a held record, if it is to count.
use borrow.Author.Rules.{rules}
use Rattle.dump_lines.proofs.Lines.{key-none, key-any, key-fine, key-broken}
use Rattle.dump_lines.proofs.Dump.place_key.Goals as goal
use Rattle.dump_lines.proofs.Dump.place_key.Goals.{then-fine+else-breaks_alone, else-fine}

pub returns-then-breaks_alone : goal.returns-then-breaks_alone
returns-then-breaks_alone c = search (rules, key-broken)

pub returns-then-holds : goal.returns-then-holds
returns-then-holds c = elim c.if-fine.branch [ then-fine+else-breaks_alone w ↦ search (rules, key-fine) | else-fine w ↦ search (rules, key-any) ]

pub returns : goal.returns
returns c = search (rules, key-none)
