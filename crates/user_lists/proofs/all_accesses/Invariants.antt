-- `all_accesses`: after i turns the answers so far, and what the rest leaves, are what the whole list leaves.
use mathlib.Core.Path.{◌≡◌}
use lib.ListN.{length}
use Rattle.machine.specs.Boards.{sets_board}
use Rattle.machine.specs.Lists.{asks_from, one_by_one}
use Rattle.user_lists.proofs.Lists.{so_far}
use Rattle.user_lists.proofs.all_accesses.Given as goal

abbrev pub invariant-loop-i : goal.invariant-loop-i
invariant-loop-i l =
    so_far l.s l.slots l.words l.tag l.accesses (length l.initial.answers) l.answers l.i l.records l.cache l.memory l.uses
    ≡ one_by_one l.s (sets_board l.slots l.words l.initial.records l.initial.cache l.initial.memory l.initial.uses l.tag) (asks_from l.accesses 0 (length l.initial.answers))
