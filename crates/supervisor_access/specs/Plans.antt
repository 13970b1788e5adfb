-- What the code of a supervisor access decides before it touches a line or memory: a refusal, or where to go on.
use Rattle.std.specs.Prelude.{ℕ, Bool, not, ◌&&◌, ◌||◌, List, [], ◌∷◌, Result, Ok, Err}
use Rattle.address.specs.Addresses.{region_of, physical_of}
use Rattle.address.specs.declared.Global.{Global}
use Rattle.address.specs.declared.Region.{Region}
use Rattle.address.specs.declared.Region.TheVariants.{Uncached, Cached, PageTable, Ordinary}
use Rattle.board.specs.Refusals.{refusal_of}
use Rattle.board.specs.declared.Refusal.{Refusal}
use Rattle.board.specs.declared.Refusal.TheVariants.{Outside}
use Rattle.board.specs.declared.Shape.{Shape}
use Rattle.board.specs.declared.Pending.{Pending}
use Rattle.stores.specs.declared.Access.{Access}
use Rattle.machine.specs.Refusals.{row, by_table, is_global, too_large, aligned_to, word_in_use, is_ordinary, is_cached, outside}
use Rattle.machine.specs.Accesses.{frame_under}
use Rattle.supervisor_access.specs.declared.Place.{Place}
use Rattle.supervisor_access.specs.declared.Place.TheVariants.{Line, Memory}

-- an address under prefix 0 goes to memory, any other to a line
unfoldable pub target : Global → Region → Result Place Refusal
target g Uncached = Ok (Memory (physical_of g))
target g Cached = Ok (Line g)
target g PageTable = Err Outside
target g Ordinary = Ok (Line g)

-- numbers 10 and 12 of a supervisor access, or where it goes
unfoldable pub region_plan : Shape → List ℕ → Global → Region → Result Place Refusal
region_plan s words g region =
    by_table (λ n. Err (refusal_of n))
    (row 10 (is_cached region && word_in_use words (frame_under g)) ∷ row 12 (outside s (frame_under g) region) ∷ [])
    (target g region)

-- a supervisor access to an ordinary address waits for a pending tag
unfoldable pub waits : Pending → Region → Bool
waits tag region = is_ordinary region && tag.set

-- numbers 2, 3, 4, 10 and 12 of a supervisor access, or where it goes
unfoldable pub supervisor_plan : Shape → List ℕ → Pending → Access → Global → Result Place Refusal
supervisor_plan s words tag a g =
    by_table (λ n. Err (refusal_of n))
    (row 2 (not (is_global g) || too_large a) ∷ row 3 (waits tag (region_of g)) ∷ row 4 (not (aligned_to a.width g.0)) ∷ [])
    (region_plan s words g (region_of g))
