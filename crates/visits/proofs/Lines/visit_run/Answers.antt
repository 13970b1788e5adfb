-- `visit_run` visits record by record: the sweep from `i` on is the whole.
use Rattle.std.proofs.Common.{rules, ◌∙◌, sym, arith}
use Rattle.visits.proofs.Visits.{sweep-more, sweep-end}
use Rattle.visits.proofs.Skips.{run-low, run-high, run-swept-by}
use Rattle.visits.proofs.Lines.visit_run.Goals as goal

pub visit_line-requires : goal.visit_line-requires
visit_line-requires c = let p = c.requires in
    let l = c.args.self.now.sized.lined in
    let w = c.loop-i.invariant in
    let f = c.first_at-i.ensures.0 in
    let g = c.first_at-i-end.ensures in
    rw w.0.0 (
      omega (arith, c.loop-i-test.true, g.1),
      p.2 _ (run-low _ l _ _ _ _ f g.0 _ w.1) (run-high _ l _ _ _ _ f g.0 _ c.loop-i-test.true),
    )

pub loop-i-preserved : goal.loop-i-preserved
loop-i-preserved c = let w = c.loop-i.invariant in (
  search rules,
  omega (arith, w.1),
  w.2 ∙ sweep-more _ _ _ _ _ (rw w.0.0 at c.visit_line.ensures.visited) c.loop-i-test.true,
)

pub returns-clause-swept : goal.returns-clause-swept
returns-clause-swept c = let w = c.loop-i.invariant in
    run-swept-by _ c.args.self.now.sized.lined _ _ _ _ c.first_at-i.ensures.0 c.first_at-i-end.ensures.0 _ _ _
    (sym (w.2 ∙ search (rules, sweep-end)))
