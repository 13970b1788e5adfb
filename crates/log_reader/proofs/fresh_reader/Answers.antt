-- `fresh_reader` waits for the header.
use native.Mathlib.Omega.{arith}
use Rattle.log_reader.proofs.Laid.{fresh-is, fresh-fields}
use Rattle.log_reader.proofs.fresh_reader.Goals as goal

pub returns : goal.returns
returns c = let e = c.of_kind.result in let w = c.of_kind.ensures in
    (fresh-is e w, record { few = omega arith; within = omega arith; small = omega arith; fields = fresh-fields e w })
