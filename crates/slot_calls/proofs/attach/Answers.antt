-- `attach` is one store of a slot word, where the shape and the ranges allow it.
use mathlib.Core.Path.{◌∙◌, sym}
use mathlib.Core.Bool.{false≢true}
use Rattle.board.proofs.Refusals.{passed}
use Rattle.machine.specs.Calls.{attach}
use Rattle.machine.proofs.Fits.{unfitted}
use Rattle.slot_calls.proofs.Slots.{process-room, slot-below, segment-below, attach-done, attach-no-slot, attach-no-segment}
use Rattle.slot_calls.proofs.attach.Goals as goal
use Rattle.slot_calls.proofs.attach.Goals.{then-has_slot, else-has_slot}

pub returns-in_err-fit : goal.returns-in_err-fit
unfolding attach
returns-in_err-fit c = λ tag. unfitted _ _ _ _ _ _ _ _ c.fit.ensures _ _ tag _ _ c.in_err-fit.was (passed c.from_residual.ensures.1)

pub returns-then-not-attachable_segment : goal.returns-then-not-attachable_segment
returns-then-not-attachable_segment c = λ tag. elim c.if-has_slot.branch [
  | then-has_slot w ↦ attach-no-segment _ _ _ _ _ _ _ tag _ c.fit.ensures c.in_ok-fit.was _ _ _ c.has_slot.ensures _ _ _ w.if-has_slot.true w.attachable_segment.ensures
      (sym w.value-is ∙ c.if-not-attachable_segment.true)
  | else-has_slot w ↦ attach-no-slot _ _ _ _ _ _ _ tag _ c.fit.ensures c.in_ok-fit.was _ _ _ c.has_slot.ensures _ _ w.if-has_slot.false
]

pub attach_slot-requires : goal.attach_slot-requires
attach_slot-requires c = elim c.if-has_slot.branch [
  | then-has_slot w ↦ (
    process-room _ _ _ _ c.has_slot.ensures w.if-has_slot.true _ _ _ _ _ _ _ c.fit.ensures c.in_ok-fit.was,
    slot-below c.args.s _ _ _ c.has_slot.ensures w.if-has_slot.true,
    segment-below _ _ w.attachable_segment.ensures (sym w.value-is ∙ c.if-not-attachable_segment.false),
  )
  | else-has_slot w ↦ absurd (false≢true (sym w.if-has_slot.false ∙ (sym w.value-is ∙ c.if-not-attachable_segment.false)))
]

pub returns : goal.returns
returns c = λ tag. elim c.if-has_slot.branch [
  | then-has_slot w ↦ attach-done _ _ _ _ _ _ _ tag _ c.fit.ensures c.in_ok-fit.was _ _ _ c.has_slot.ensures _ _ _ _ w.if-has_slot.true w.attachable_segment.ensures
      (sym w.value-is ∙ c.if-not-attachable_segment.false) c.attach_slot.ensures
  | else-has_slot w ↦ absurd (false≢true (sym w.if-has_slot.false ∙ (sym w.value-is ∙ c.if-not-attachable_segment.false)))
]
