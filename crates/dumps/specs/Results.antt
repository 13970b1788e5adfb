-- What the code of a check or of a repair gives, as the report that crosses to C.
use Rattle.std.specs.Prelude.{ℕ, Option, Some, None, Result, Ok, Err}
use Rattle.dumps.specs.declared.Report.{Report}
use Rattle.dumps.specs.declared.Broken.{Broken}
use Rattle.dumps.specs.declared.Mended.{Mended}
use Rattle.dumps.specs.declared.ScratchTooShort.{ScratchTooShort}
use Rattle.dumps.specs.declared.Rule.{Rule}
use Rattle.dumps.specs.declared.Rule.TheVariants.{Lengths, PageOnce, LineOnce, AtHome, EqualsMemory}
use Rattle.dumps.specs.Checks.{report, yes, too_short}

-- the number of a rule
abbrev pub number_of : Rule → ℕ
number_of Lengths = 1
number_of PageOnce = 2
number_of LineOnce = 3
number_of AtHome = 4
number_of EqualsMemory = 5

-- a broken rule, or yes
abbrev pub report_of : Option Broken → Report
report_of (Some b) = report (number_of b.rule) b.place
report_of None = yes

-- the report of a check
abbrev pub check_report : Result (Option Broken) ScratchTooShort → Report
check_report (Ok found) = report_of found
check_report (Err why) = too_short

-- the report of a repair: what was broken before, and how many lines were dropped
abbrev pub mended_report : Mended → Report
mended_report m =
    record { number = (report_of m.broken).number; rule = (report_of m.broken).rule; place = (report_of m.broken).place; dropped = m.dropped }

abbrev pub repair_report : Result Mended ScratchTooShort → Report
repair_report (Ok m) = mended_report m
repair_report (Err why) = too_short
