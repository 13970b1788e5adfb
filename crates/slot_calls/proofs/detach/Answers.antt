-- `detach` is one store of 0, where the shape and the ranges allow it.
use Rattle.board.proofs.Refusals.{passed}
use Rattle.machine.specs.Calls.{detach}
use Rattle.machine.proofs.Fits.{unfitted}
use Rattle.slot_calls.proofs.Slots.{process-room, slot-below, detach-done, detach-no-slot}
use Rattle.slot_calls.proofs.detach.Goals as goal

pub returns-in_err-fit : goal.returns-in_err-fit
unfolding detach
returns-in_err-fit c = λ tag. unfitted _ _ _ _ _ _ _ _ c.fit.ensures _ _ tag _ _ c.in_err-fit.was (passed c.from_residual.ensures.1)

pub returns-then-not-has_slot : goal.returns-then-not-has_slot
returns-then-not-has_slot c = λ tag. detach-no-slot _ _ _ _ _ _ _ tag _ c.fit.ensures c.in_ok-fit.was _ _ _ c.has_slot.ensures c.if-not-has_slot.true

pub detach_slot-requires : goal.detach_slot-requires
detach_slot-requires c = (process-room _ _ _ _ c.has_slot.ensures c.if-not-has_slot.false _ _ _ _ _ _ _ c.fit.ensures c.in_ok-fit.was, slot-below c.args.s _ _ _ c.has_slot.ensures c.if-not-has_slot.false)

pub returns : goal.returns
returns c = λ tag. detach-done _ _ _ _ _ _ _ tag _ c.fit.ensures c.in_ok-fit.was _ _ _ c.has_slot.ensures _ c.if-not-has_slot.false c.detach_slot.ensures
