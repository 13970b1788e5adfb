-- `place_keys` puts the key of each place: those below `i` stand.
use Prim.Native.Nat.{ℕ, ◌<◌}
use mathlib.Core.Path.{◌≡◌}
use lib.ListN.{get_or}
use Rattle.dump_lines.specs.Dumped.{homes_in, store_in}
use Rattle.dump_lines.specs.Tests.{place_key}
use Rattle.dump_lines.proofs.Dump.place_keys.Given as goal

abbrev pub invariant-loop-i : goal.invariant-loop-i
invariant-loop-i l =
    (k : ℕ) → k < l.i
    → get_or l.keys k 0
    ≡ place_key l.fine l.self.shape (homes_in l.self) (store_in l.self) k
