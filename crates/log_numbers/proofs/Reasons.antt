-- The numbers of reasons: none is above 6.
use Rattle.std.proofs.Common.{◌≤◌, arith}
use Rattle.log_numbers.specs.Takes.{number_of}
use Rattle.log_numbers.specs.declared.Reason.{Reason}
use Rattle.log_numbers.specs.declared.Reason.TheVariants.{Misfit, Padded, Tenth, Cut, Kind, Field}

pub number-few : (e : Reason) → number_of e ≤ 6
number-few Misfit = omega arith
number-few Padded = omega arith
number-few Tenth = omega arith
number-few Cut = omega arith
number-few Kind = omega arith
number-few Field = omega arith
