-- `place_of`: of the number, or of the end.
use Rattle.log_reader.proofs.Laid.{place-number, place_end}
use Rattle.log_reader.proofs.place_of.Goals as goal

pub returns-then-r-eq0 : goal.returns-then-r-eq0
returns-then-r-eq0 c = place_end c.args.r c.if-r-eq0.true

pub returns-else-r-eq0 : goal.returns-else-r-eq0
returns-else-r-eq0 c = place-number c.args.r c.if-r-eq0.false
