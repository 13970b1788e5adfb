-- `first_wrong` asks field after field.
use Rattle.std.proofs.Common.{◌≡◌, ◌-◌, ◌≤◌, [], take, drop}
use Rattle.log_entries.specs.Entries.{five_of}
use Rattle.log_writer.specs.Writing.{first_wrong}
use Rattle.log_writer.proofs.first_wrong.Given as goal

abbrev pub invariant-loop-i : goal.invariant-loop-i
invariant-loop-i l = (1 ≤ l.i) × (l.i ≤ 6) × (first_wrong l.e.kind [] (five_of l.e) ≡ first_wrong l.e.kind (take (l.i - 1) (five_of l.e)) (drop (l.i - 1) (five_of l.e)))
