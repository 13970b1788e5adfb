-- `fitting_access` is `user_check` and `line_access`.
use Rattle.board.proofs.Refusals.{passed}
use Rattle.user_access.proofs.Checks.{passed-wide, passed-inside}
use Rattle.user_access.proofs.Users.{fitting-slots, fitting-processes, fitting-uses, fitting-words, fitting-sized, user-refused, user-goes}
use borrow.Author.Rules.{rules}
use Rattle.user_access.proofs.fitting_access.Goals as goal

pub user_check-requires : goal.user_check-requires
user_check-requires c = (search (rules, fitting-slots), search (rules, fitting-processes))

pub invariant_of-map : goal.invariant_of-map
invariant_of-map c = record { words_are = fitting-words _ _ _ _ _ _ _ c.requires; frames_max = (fitting-sized _ _ _ _ _ _ _ c.requires).lined.frames_max }

pub line_access-requires : goal.line_access-requires
line_access-requires c = (search (rules, fitting-sized), search (rules, fitting-uses), search (rules, passed-wide), search (rules, passed-inside))

pub returns-in_err-g : goal.returns-in_err-g
returns-in_err-g c = user-refused _ _ _ _ _ _ _ c.requires _ _ _ _ _ c.user_check.ensures _ _ c.in_err-g.was (passed c.from_residual.ensures.1)

pub returns : goal.returns
returns c = user-goes _ _ _ _ _ _ _ c.requires _ _ _ _ _ c.user_check.ensures _ _ _ _ _ _ c.in_ok-g.was c.line_access.ensures
