-- `packed` loses nothing.
use Rattle.crossing.proofs.Packs.{packs}
use borrow.Author.Rules.{rules}
use Rattle.crossing.proofs.packed.Goals as goal

pub returns : goal.returns
returns c = search (rules, packs)
