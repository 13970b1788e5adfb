-- `all_accesses`: after i turns the answers so far, and what the rest leaves, are what the whole list leaves.
use Rattle.user_lists.proofs.Lists.{kept-fit, list-start, list-more, list-end}
use borrow.Author.Rules.{rules}
use Rattle.user_lists.proofs.all_accesses.Goals as goal

pub loop-i-init : goal.loop-i-init
loop-i-init c = search (rules, list-start)

pub one_access-x-requires : goal.one_access-x-requires
one_access-x-requires c = (search (rules, kept-fit), search rules)

pub loop-i-preserved : goal.loop-i-preserved
loop-i-preserved c =
    list-more _ _ _ _ _ _ _ _ _ _ _ _ _ _ _ _ _ _ c.loop-i.invariant (search rules) (search rules) c.one_access-x.ensures

pub returns : goal.returns
returns c = list-end _ _ _ _ _ _ _ _ _ _ _ _ _ c.loop-i.invariant (search rules) (search rules)
