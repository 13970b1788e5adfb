-- `visit_run` visits record by record: the sweep from `i` on is the whole.
use Rattle.std.specs.Prelude.{◌≡◌, ◌-◌, ◌≤◌}
use Rattle.visits.specs.Visits.{visited, sweep}
use Rattle.visits.specs.Lent.{store_in, SameLoan}
use Rattle.visits.proofs.Lines.visit_run.Given as goal

abbrev pub invariant-loop-i : goal.invariant-loop-i
invariant-loop-i l = let s = l.initial.self.shape in
    SameLoan l.initial.self l.self × (l.initial.i ≤ l.i)
    × (sweep (visited s l.v) (l.i-end - l.initial.i) l.initial.i (store_in l.initial.self) ≡ sweep (visited s l.v) (l.i-end - l.i) l.i (store_in l.self))
