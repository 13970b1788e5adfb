-- `user_accesses` asks the shape and the two lengths, then `all_accesses`: one law a return.
use Rattle.board.proofs.Refusals.{passed}
use Rattle.user_access.proofs.Users.{user-fit}
use Rattle.user_lists.proofs.Lists.{list-unfit, list-unlike, list-taken, list-is-done}
use Rattle.user_lists.proofs.user_accesses.Goals as goal

pub all_accesses-requires : goal.all_accesses-requires
all_accesses-requires c = (
  user-fit _ _ _ _ _ _ _ _ c.fit.ensures c.in_ok-fit.was,
  list-taken _ _ _ _ _ _ _ c.args.tag _ _ _ c.fit.ensures c.in_ok-fit.was _ c.lists_agree.ensures c.if-not-lists_agree.false,
)

pub returns-in_err-fit : goal.returns-in_err-fit
returns-in_err-fit c = list-unfit _ _ _ _ _ _ _ _ _ _ _ c.fit.ensures _ _ c.in_err-fit.was (passed c.from_residual.ensures.1)

pub returns-then-not-lists_agree : goal.returns-then-not-lists_agree
returns-then-not-lists_agree c =
    list-unlike _ _ _ _ _ _ _ _ _ _ _ c.fit.ensures c.in_ok-fit.was _ c.lists_agree.ensures c.if-not-lists_agree.true

pub returns : goal.returns
returns c =
    list-is-done _ _ _ _ _ _ _ _ _ _ _ c.fit.ensures c.in_ok-fit.was _ c.lists_agree.ensures _ _ _ _ _ c.if-not-lists_agree.false c.all_accesses.ensures
