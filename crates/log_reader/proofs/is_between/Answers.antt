-- `is_between` asks the groups and the numbers.
use Rattle.log_reader.proofs.Laid.{between_is}
use Rattle.log_reader.proofs.is_between.Goals as goal

pub returns : goal.returns
returns c = between_is c.args.r
