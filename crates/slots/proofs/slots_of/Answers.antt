-- `slots_of` takes the slots out: the part lent to the copy.
use native.Mathlib.Nat.{add-sub_cancel_left, add-zero}
use Rattle.board.specs.Lists.{part}
use Rattle.slots.proofs.slots_of.Goals as goal

pub returns : goal.returns
unfolding part
returns c = simp (c.copy_from_slice.ensures.after, add-sub_cancel_left, add-zero)
