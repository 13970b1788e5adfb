-- What code has of a reason and of a byte that is taken: enums, which stand for these numbers.
use Rattle.std.specs.Prelude.{ℕ, ◌≡◌, ◌<◌, ◌≤◌, Result, Ok, Err, MatchResult}
use Rattle.log_numbers.specs.Reasons.{reason_misfit, reason_padded, reason_tenth, reason_cut, reason_kind, reason_field}
use Rattle.log_numbers.specs.Numbers as numbers
use Rattle.log_numbers.specs.declared.Reason.{Reason}
use Rattle.log_numbers.specs.declared.Reason.TheVariants.{Misfit, Padded, Tenth, Cut, Kind, Field}
use Rattle.log_numbers.specs.declared.Taken.{Taken}
use Rattle.log_numbers.specs.declared.Taken.TheVariants.{More, Whole}

-- a reason's number
abbrev pub number_of : Reason → ℕ
number_of Misfit = reason_misfit
number_of Padded = reason_padded
number_of Tenth = reason_tenth
number_of Cut = reason_cut
number_of Kind = reason_kind
number_of Field = reason_field

-- a number is this reason's, or no reason's, and so a misfit
abbrev pub IsReasonOf : ℕ → Result Reason Reason → Type 0
IsReasonOf n r = MatchResult r (λ e. number_of e ≡ n) (λ e. (e ≡ Misfit) × (1 ≤ n → reason_field < n))

-- what a byte made of a number
abbrev pub taken_of : Result Taken Reason → numbers.Taken
taken_of (Ok (More sum)) = numbers.More sum
taken_of (Ok (Whole n)) = numbers.Whole n
taken_of (Err reason) = numbers.Wrong (number_of reason)
