-- `holds` tests the place by the name and by the record.
use Rattle.lines.proofs.Holders.{holds_by}
use borrow.Author.Rules.{rules}
use Rattle.lines.proofs.holds.Goals as goal

pub name_place-place-requires : goal.name_place-place-requires
name_place-place-requires c = c.requires

pub set_at-own-requires : goal.set_at-own-requires
set_at-own-requires c = c.requires

pub returns : goal.returns
returns c = search (rules, holds_by)
