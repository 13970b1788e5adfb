-- `user_accesses`, packed.
use Rattle.crossing.proofs.Packs.{crosses-list}
use borrow.Author.Rules.{rules}
use Rattle.oaledva_sets_list.proofs.oaledva_sets_user_accesses.Goals as goal

pub returns : goal.returns
returns c = search (rules, crosses-list)
