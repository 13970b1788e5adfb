-- `repair_lines` mends place by place.
use Rattle.pages.specs.Pages.{home_of}
use Rattle.repairs.proofs.Walk.{Going}
use Rattle.repairs.proofs.repair_lines.Given as goal

abbrev pub invariant-loop-i : goal.invariant-loop-i
invariant-loop-i l =
    Going l.s (home_of l.s l.words) l.initial.records l.cache l.memory l.keys l.initial.links l.records l.links l.dropped l.count l.i
