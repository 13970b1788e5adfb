-- `user_access` is the shape check and `fitting_access`.
use Rattle.board.proofs.Refusals.{passed}
use Rattle.user_access.proofs.Users.{user-unfit, user-fit}
use Rattle.user_access.proofs.user_access.Goals as goal

pub fitting_access-requires : goal.fitting_access-requires
fitting_access-requires c = user-fit _ _ _ _ _ _ _ _ c.fit.ensures c.in_ok-fit.was

pub returns-in_err-fit : goal.returns-in_err-fit
returns-in_err-fit c = user-unfit _ _ _ _ _ _ _ _ c.fit.ensures _ _ _ _ _ _ c.in_err-fit.was (passed c.from_residual.ensures.1)
