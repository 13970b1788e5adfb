-- `perform` is a store of bytes that marks the record, or a load.
use Rattle.stores.proofs.Stores.{performed-store, performed-load}
use borrow.Author.Rules.{rules}
use Rattle.stores.proofs.perform.Goals as goal

pub returns-then-a : goal.returns-then-a
returns-then-a c = search (rules, performed-store)

pub returns : goal.returns
returns c = search (rules, performed-load)
