-- `one_access` is `fitting_access` of what the list's words say, packed.
use Rattle.user_lists.proofs.Lists.{one-crosses}
use borrow.Author.Rules.{rules}
use Rattle.user_lists.proofs.one_access.Goals as goal

pub returns : goal.returns
returns c = search (rules, one-crosses)
