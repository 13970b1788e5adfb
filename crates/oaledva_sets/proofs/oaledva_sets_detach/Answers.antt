-- `detach`, packed.
use Rattle.crossing.proofs.Packs.{crosses}
use borrow.Author.Rules.{rules}
use Rattle.oaledva_sets.proofs.oaledva_sets_detach.Goals as goal

pub returns : goal.returns
returns c = λ tag. let h = c.detach-r.ensures tag in search (rules, crosses)
