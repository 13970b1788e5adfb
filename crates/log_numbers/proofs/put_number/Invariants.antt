-- `put_number`: after each group, the number's bytes are those put so far and those of the rest.
use Prim.Native.Nat.{◌+◌, ◌*◌, ◌-◌, ◌^◌, ◌<◌, ◌≤◌}
use mathlib.Core.Path.{◌≡◌}
use lib.ListN.{length}
use Rattle.board.specs.Lists.{splice}
use Rattle.log_numbers.specs.Numbers.{group_size, groups_before, groups_from, groups_of}
use Rattle.log_numbers.proofs.put_number.Given as goal

abbrev pub invariant-loop-rest : goal.invariant-loop-rest
invariant-loop-rest l =
    (l.at ≤ l.next) × (l.next ≤ l.at + groups_before) × (length l.bytes ≡ length l.initial.bytes) × (l.rest < 2 * group_size ^ (l.at + groups_before - l.next))
    × (splice l.initial.bytes l.at (groups_of l.n) ≡ splice l.bytes l.next (groups_from (l.at + groups_before - l.next) l.rest))
    × (l.at + length (groups_of l.n) ≡ l.next + length (groups_from (l.at + groups_before - l.next) l.rest))

abbrev pub decreases-loop-rest : goal.decreases-loop-rest
decreases-loop-rest l = l.at + groups_before - l.next
