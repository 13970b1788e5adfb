-- `move_page`, packed.
use Rattle.crossing.proofs.Packs.{crosses}
use borrow.Author.Rules.{rules}
use Rattle.oaledva.proofs.oaledva_move.Goals as goal

pub returns : goal.returns
returns c = λ tag. let h = c.move_page-r.ensures tag in search (rules, crosses)
