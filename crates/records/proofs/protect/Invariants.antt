-- `protect` walks the lines: those below `i` were visited, the others not yet.
use Rattle.std.proofs.Common.{◌≡◌}
use Rattle.visits.specs.Visits.{protect_visit}
use Rattle.records.proofs.Upto.{visited_upto}
use Rattle.records.proofs.protect.Given as goal

abbrev pub invariant-loop-i : goal.invariant-loop-i
invariant-loop-i l = record {
  walked : l.lines ≡ visited_upto l.s (protect_visit l.page l.write) 0 l.i l.initial.lines;
}
