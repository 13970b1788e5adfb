-- `visit_names` goes run by run: what is passed over is left as it is.
use Rattle.std.proofs.Common.{rules, ◌∙◌}
use native.Mathlib.Nat.{sub-zero, zero-mul}
use Rattle.visits.specs.Visits.{visited_all}
use Rattle.visits.proofs.Skips.{run-within, run-done, runs_done}
use Rattle.visits.proofs.visit_names.Goals as goal

pub loop-place-init : goal.loop-place-init
unfolding visited_all
loop-place-init c = (search rules, rw (zero-mul, sub-zero))

pub visit_run-requires : goal.visit_run-requires
visit_run-requires c = rw c.loop-place.invariant.0.0
    (run-within _ c.requires.lined c.args.v _ c.sets_of-sets.ensures.0 _ _ c.next_run-run.ensures)

pub loop-place-preserved : goal.loop-place-preserved
loop-place-preserved c = let w = c.loop-place.invariant in (
  search rules,
  w.1
      ∙ run-done _ c.requires.lined c.args.v _ c.sets_of-sets.ensures.0 _ _ _ _ c.next_run-run.ensures
      (rw w.0.0 at c.visit_run.ensures.swept),
)

pub returns : goal.returns
returns c = let w = c.loop-place.invariant in
    let e = w.1 ∙ runs_done _ c.requires.lined c.args.v _ c.sets_of-sets.ensures.0 _ _ c.loop-place-test.false in search rules
