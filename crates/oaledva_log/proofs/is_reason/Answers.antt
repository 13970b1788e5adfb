-- `is_reason`: a reason that no reader refuses for, or one that a reader does; or a number that is no reason's.
use mathlib.Core.Logic.{inl, inr}
use Rattle.oaledva_log.proofs.States.{reason-misfit, reason-cut, reason-known, reason-large}
use Rattle.oaledva_log.proofs.is_reason.Goals.{in-Misfit, in_default}
use Rattle.oaledva_log.proofs.is_reason.Goals as goal

pub returns-after-matches : goal.returns-after-matches
returns-after-matches c = let n = c.args.reason in let known = c.in-Ok.known in
    elim c.match-matches.branch [
      | in-Misfit w ↦ rw w.matches-is (elim w.in-Misfit.is [
        | inl m ↦ reason-misfit n known c.in-Ok.ensures m
        | inr m ↦ reason-cut n known c.in-Ok.ensures m
      ])
      | in_default w ↦ rw w.matches-is (reason-known n known c.in-Ok.ensures w.in_default.not-Misfit w.in_default.not-Cut)
    ]

pub returns-in-Err : goal.returns-in-Err
returns-in-Err c = reason-large c.args.reason c.in-Err.ensures.1
