-- `asked_entry` gives the entry of a page that has one.
use Rattle.address.proofs.Entries.{entry-page}
use Rattle.address.specs.Entries.{asked_entry}
use Rattle.address.proofs.asked_entry.Goals as goal

pub entry_of-requires : goal.entry_of-requires
entry_of-requires c = entry-page c.args.page _ c.has_entry.ensures c.if-has_entry.true

pub returns-then-has_entry : goal.returns-then-has_entry
unfolding asked_entry
returns-then-has_entry c = rw (← c.has_entry.ensures, c.if-has_entry.true, c.entry_of.ensures)

pub returns : goal.returns
unfolding asked_entry
returns c = rw (← c.has_entry.ensures, c.if-has_entry.false)
