-- `protect`, packed.
use Rattle.crossing.proofs.Packs.{crosses}
use borrow.Author.Rules.{rules}
use Rattle.oaledva.proofs.oaledva_protect.Goals as goal

pub returns : goal.returns
returns c = λ tag. let h = c.protect-r.ensures tag in search (rules, crosses)
