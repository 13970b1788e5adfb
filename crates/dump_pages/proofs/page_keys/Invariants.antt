-- `page_keys` puts the key of each frame: those below `f` stand.
use Prim.Native.Nat.{ℕ, ◌<◌}
use mathlib.Core.Path.{◌≡◌}
use lib.ListN.{get_or}
use Rattle.dump_pages.specs.Pages.{page_at}
use Rattle.dump_pages.proofs.page_keys.Given as goal

abbrev pub invariant-loop-f : goal.invariant-loop-f
invariant-loop-f l = (k : ℕ) → k < l.f → get_or l.keys k 0 ≡ page_at l.s l.words k
