-- What the access code does once it has a line's address.
use Rattle.std.specs.Prelude.{ℕ, Bool, not, ◌&&◌, List, [], ◌∷◌, Some}
use Rattle.address.specs.declared.Global.{Global}
use Rattle.board.specs.declared.Shape.{Shape}
use Rattle.lines.specs.Victims.{Uses, victim_of}
use Rattle.stores.specs.Stores.{Store}
use Rattle.reach.specs.Reach.{unreached, may_write}
use Rattle.stores.specs.declared.Access.{Access}
use Rattle.machine.specs.Refusals.{row, by_table}
use Rattle.reach.specs.declared.Way.TheVariants.{InMemory}
use Rattle.machine.specs.Accesses.{Touched, touched, stopped, accessed_by, uses_by, way_to, accessed}

-- an access to a line that isn't held, in the victim of its set
unfoldable pub refilled : Shape → ℕ → ℕ → Bool → ℕ → Access → Store → Uses → Touched
refilled s name line write offset a b uses =
    touched (accessed_by s (victim_of s uses b.records name) name offset a b (Some (InMemory line write)))
    (uses_by s (victim_of s uses b.records name) uses (Some (InMemory line write)))

-- an access to a line with numbers 8 and 9, of which only users are asked 9
unfoldable pub line_access : Shape → List ℕ → Global → Bool → Access → Store → Uses → Touched
line_access s words g user a b uses =
    by_table (λ n. touched (stopped b n) uses)
    (row 8 (unreached (way_to s words b.records g)) ∷ row 9 (user && (a.store && not (may_write (way_to s words b.records g)))) ∷ [])
    (accessed s words g a b uses)
