-- `lists_agree` asks by quotient and remainder: five times the answers might not fit.
use Rattle.user_lists.proofs.Lists.{agree}
use borrow.Author.Rules.{rules}
use Rattle.user_lists.proofs.lists_agree.Goals as goal

pub returns : goal.returns
returns c = search (rules, agree)
