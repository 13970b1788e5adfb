-- `load_frame` asks the rows on the home in their order; the frame is inside memory.
use native.Mathlib.Omega.{arith}
use Rattle.board.proofs.Refusals.{passed}
use Rattle.load_call.proofs.Loads.{home-none, home-inside, home-other, home-fill}
use Rattle.load_call.proofs.load_frame.Goals as goal

pub returns-in_err-f : goal.returns-in_err-f
returns-in_err-f c = home-none _ _ _ _ _ c.mapped_to.ensures _ c.ok_or.ensures.value _ _ c.in_err-f.was (passed c.from_residual.ensures.1)

pub overflow_mul-f : goal.overflow_mul-f
overflow_mul-f c = omega (arith, home-inside _ _ _ c.args.line _ c.mapped_to.ensures _ c.ok_or.ensures.value _ c.in_ok-f.was)

pub overflow_add-f : goal.overflow_add-f
overflow_add-f c = omega (arith, home-inside _ _ _ c.args.line _ c.mapped_to.ensures _ c.ok_or.ensures.value _ c.in_ok-f.was)

pub returns-then-line-f : goal.returns-then-line-f
returns-then-line-f c = home-other _ _ _ _ _ c.mapped_to.ensures _ c.ok_or.ensures.value _ c.in_ok-f.was c.if-line-f.true

pub bounds-map-f : goal.bounds-map-f
bounds-map-f c = home-inside _ _ _ c.args.line _ c.mapped_to.ensures _ c.ok_or.ensures.value _ c.in_ok-f.was

pub returns : goal.returns
returns c = home-fill _ _ _ _ _ c.mapped_to.ensures _ c.ok_or.ensures.value _ c.in_ok-f.was _ c.if-line-f.false c.word_writes.ensures
