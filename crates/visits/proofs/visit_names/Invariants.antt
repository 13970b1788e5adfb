-- `visit_names` goes run by run: what is passed over is left as it is.
use Rattle.std.specs.Prelude.{◌≡◌, ◌-◌}
use Rattle.lines.specs.Holds.{first_at}
use Rattle.visits.specs.Visits.{visited, sweep, visited_all}
use Rattle.visits.specs.Lent.{store_in, SameLoan}
use Rattle.visits.proofs.visit_names.Given as goal

abbrev pub invariant-loop-place : goal.invariant-loop-place
invariant-loop-place l = let s = l.initial.held.shape in
    SameLoan l.initial.held l.held
    × (visited_all s l.v (store_in l.initial.held) ≡ sweep (visited s l.v) (s.lines - first_at s l.place) (first_at s l.place) (store_in l.held))

abbrev pub decreases-loop-place : goal.decreases-loop-place
decreases-loop-place l = l.sets - l.place
