-- `read`: what is left to be read and laid out is the same after every turn.
use mathlib.Core.Path.{◌∙◌}
use lib.Dec.{eqb, ltb}
use lib.ListN.{length}
use Rattle.log_reader.specs.Readers.{state_of}
use Rattle.log_reader.proofs.Laid.{read_done, turn-ends}
use Rattle.log_reader.proofs.read.Goals as goal

pub returns : goal.returns
returns c = let l = c.loop-x in
    let a = c.args in
    let x = l.x in (
      read_done l.entries a.piece.now x.given x.from (state_of x.reader)
          (turn-ends (ltb x.from (length a.piece.now)) (eqb x.reader.reason 0) x.given (length a.entries.now) l.entries l.invariant.2 c.loop-x-test.false)
          ∙ l.invariant.5,
      l.invariant.0,
    )
