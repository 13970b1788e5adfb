-- `user_access`, packed.
use Rattle.crossing.proofs.Packs.{crosses}
use borrow.Author.Rules.{rules}
use Rattle.oaledva_sets_user.proofs.oaledva_sets_user_access.Goals as goal

pub returns : goal.returns
returns c = search (rules, crosses)
