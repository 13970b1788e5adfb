-- `insert` is a write-back, a fill and a note.
use Rattle.stores.proofs.Stores.{inserted_by}
use borrow.Author.Rules.{rules}
use Rattle.stores.proofs.insert.Goals as goal

pub returns : goal.returns
returns c = (search (rules, inserted_by), search rules)
