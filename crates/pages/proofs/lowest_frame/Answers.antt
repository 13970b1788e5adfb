-- `lowest_frame` finds the lowest frame: what the search from `u` finds, the search from `f` finds.
use mathlib.Core.Path.{◌∙◌, refl, sym}
use native.Mathlib.Omega.{arith}
use Rattle.pages.specs.Pages.{lowest_frame}
use Rattle.pages.proofs.Frames.{low-1, low-3, low-others, low-next, low_end, low-beyond}
use borrow.Author.Rules.{rules}
use Rattle.pages.proofs.lowest_frame.Goals as goal
use Rattle.pages.proofs.lowest_frame.Goals.{then-w-page-via-then-w-page, then-w-page-via-else-w-page+then-w-page-2}

pub returns-then-words-u : goal.returns-then-words-u
unfolding lowest_frame
returns-then-words-u c = search (rules, low-beyond)

pub loop-f-init : goal.loop-f-init
unfolding lowest_frame
loop-f-init c = (search rules, refl)

pub loop-g-init : goal.loop-g-init
unfolding lowest_frame
loop-g-init c = c.loop-f.invariant.1

pub returns-then-w-page : goal.returns-then-w-page
unfolding lowest_frame
returns-then-w-page c = elim c.then-w-page.branch [
  | then-w-page-via-then-w-page w ↦ sym (c.loop-g.invariant ∙ low-1 _ _ _ c.loop-g-test.true w.if-w-page.true)
  | then-w-page-via-else-w-page+then-w-page-2 w ↦ sym (c.loop-g.invariant ∙ low-3 _ _ _ c.loop-g-test.true w.if-w-page.false w.if-w-page-2.true)
]

pub loop-g-preserved : goal.loop-g-preserved
unfolding lowest_frame
loop-g-preserved c = c.loop-g.invariant ∙ search (rules, low-next)

pub returns : goal.returns
unfolding lowest_frame
returns c = sym (c.loop-g.invariant ∙ search (rules, low_end))

pub loop-f-preserved : goal.loop-f-preserved
loop-f-preserved c =
    let k = c.clear_of.ensures c.loop-f-test.true in
    (omega (arith, k.0), c.loop-f.invariant.1 ∙ low-others _ _ 8 _ k.0 k.1)
