-- `supervisor_access`, packed.
use Rattle.crossing.proofs.Packs.{crosses}
use borrow.Author.Rules.{rules}
use Rattle.oaledva_sets.proofs.oaledva_sets_supervisor_access.Goals as goal

pub returns : goal.returns
returns c = search (rules, crosses)
