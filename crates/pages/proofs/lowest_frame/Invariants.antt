-- `lowest_frame` finds the lowest frame: what the search from `u` finds, the search from `f` finds.
use Prim.Native.Nat.{◌-◌, ◌≤◌}
use mathlib.Core.Path.{◌≡◌}
use lib.ListN.{length, drop}
use Rattle.pages.specs.Pages.{lowest_frame, lowest_from}
use Rattle.pages.proofs.lowest_frame.Given as goal

abbrev pub invariant-loop-f : goal.invariant-loop-f
invariant-loop-f l = (l.f ≤ length l.words) × (lowest_frame l.words l.u l.page ≡ lowest_from (drop l.f l.words) l.f l.page)

abbrev pub decreases-loop-f : goal.decreases-loop-f
decreases-loop-f l = length l.words - l.f

abbrev pub invariant-loop-g : goal.invariant-loop-g
invariant-loop-g l = lowest_frame l.words l.u l.page ≡ lowest_from (drop l.g l.words) l.g l.page
