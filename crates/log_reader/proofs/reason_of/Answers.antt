-- `reason_of`: refused already, or cut, or neither.
use mathlib.Core.Path.{◌∙◌}
use native.Mathlib.Omega.{arith}
use Rattle.log_reader.proofs.Laid.{reason-refused, reason-cut, reason-none}
use Rattle.log_reader.proofs.reason_of.Goals as goal

pub returns-then-r-ne0 : goal.returns-then-r-ne0
returns-then-r-ne0 c = omega (arith, reason-refused c.args.r c.args.ended c.if-r-ne0.true)

pub returns-then-ended-is_between : goal.returns-then-ended-is_between
returns-then-ended-is_between c = let a = c.args in c.number.ensures ∙ reason-cut a.r a.ended _ c.is_between.ensures c.if-r-ne0.false c.if-ended-is_between.true

pub returns-else-ended-is_between : goal.returns-else-ended-is_between
returns-else-ended-is_between c = let a = c.args in reason-none a.r a.ended _ c.is_between.ensures c.if-r-ne0.false c.if-ended-is_between.false
