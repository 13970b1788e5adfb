-- How a report crosses to C and Rust: as one number of 64 bits, number × 2^56 + rule × 2^48 + dropped × 2^24 + place. A contract reads the report off
-- that number.
use Rattle.std.specs.Prelude.{ℕ, ◌/◌, ◌%◌, ◌≤◌, ◌<◌, ◌^◌, ◌≡◌, List}
use Rattle.board.specs.declared.Shape.{Shape}
use Rattle.machine.specs.Boards.{Board}
use Rattle.dumps.specs.declared.Report.{Report}
use Rattle.dumps.specs.Checks.{check_call}
use Rattle.repairs.specs.Repairs.{repair_call}

-- where the count of dropped lines stands, the rule, and the number
abbrev pub dropped_unit : ℕ
dropped_unit = 2 ^ 24

abbrev pub rule_unit : ℕ
rule_unit = 2 ^ 48

abbrev pub number_unit : ℕ
number_unit = 2 ^ 56

unfoldable pub unpacked : ℕ → Report
unpacked r = record {
  number = r / number_unit;
  rule = r / rule_unit % (number_unit / rule_unit);
  place = r % dropped_unit;
  dropped = r / dropped_unit % (rule_unit / dropped_unit);
}

-- a report that fits: its rule is one of the five, or none
pub record Small (r : Report) : Type 0 where
  pub number_below : r.number < 2 ^ 8
  pub rule_at_most : r.rule ≤ 5
  pub dropped_below : r.dropped < rule_unit / dropped_unit
  pub place_below : r.place < dropped_unit

-- every report that the calls give fits; and two numbers that are one report are one
pub record ReportsFit : Type 0 where
  pub checks : (s : Shape) (b : Board) (keys links : ℕ) → Small (check_call s b keys links)
  pub repairs : (s : Shape) (b : Board) (keys links : ℕ) (flags : List ℕ) → Small (repair_call s b keys links flags).report
  pub nothing_lost : (r q : ℕ) → unpacked r ≡ unpacked q → r ≡ q
