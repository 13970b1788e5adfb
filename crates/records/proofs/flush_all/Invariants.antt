-- `flush_all` walks the lines: those below `i` were dropped if held, and written back if changed; the others not yet.
use Rattle.std.proofs.Common.{◌≡◌}
use Rattle.visits.specs.Visits.{flush_visit}
use Rattle.records.proofs.Upto.{visited_upto, memory_upto}
use Rattle.records.proofs.flush_all.Given as goal

abbrev pub invariant-loop-i : goal.invariant-loop-i
invariant-loop-i l = record {
  walked : l.lines ≡ visited_upto l.s flush_visit 0 l.i l.initial.lines;
  flushed : l.memory ≡ memory_upto l.s l.cache 0 l.i l.initial.lines l.initial.memory;
}
