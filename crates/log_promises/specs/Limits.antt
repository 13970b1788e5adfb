-- CR 1: "a field too large (flag above 1; a load's value above 0; width, value or effective address from 2^32 up)". What a log can hold, as plain
-- inequalities: all other numbers are only below 2^64.
use Rattle.std.specs.Prelude.{◌<◌, ◌^◌, ◌≡◌, false}
use Rattle.board.specs.declared.Shape.{Shape}
use Rattle.stores.specs.declared.Access.{Access}
use Rattle.promises.specs.Runs.{Call, user, supervisor, access, attach, detach, map, unmap, protect, move, flush_all, tag, load_and_map, drop_tag}
use Rattle.log_promises.specs.Calls.{Loggable, LoggableShape}

-- a store's value is below 2^32; a load has none
pub record AccessFits (a : Access) : Type 0 where
  pub width : a.width < 2 ^ 32
  pub value : a.value < 2 ^ 32
  pub none : a.store ≡ false → a.value ≡ 0

unfoldable pub Fits : Call → Type 0
Fits (user process a e) = (process < 2 ^ 64) × AccessFits a × (e.0 < 2 ^ 32)
Fits (supervisor (access a g)) = AccessFits a × (g.0 < 2 ^ 64)
Fits (supervisor (attach process slot segment write)) = (process < 2 ^ 64) × (slot < 2 ^ 64) × (segment < 2 ^ 64)
Fits (supervisor (detach process slot)) = (process < 2 ^ 64) × (slot < 2 ^ 64)
Fits (supervisor (map page frame write)) = (page < 2 ^ 64) × (frame < 2 ^ 64)
Fits (supervisor (unmap page)) = page < 2 ^ 64
Fits (supervisor (protect page write)) = page < 2 ^ 64
Fits (supervisor flush_all) = Unit
Fits (supervisor (tag name)) = name < 2 ^ 64
Fits (supervisor (load_and_map line)) = line < 2 ^ 64
Fits (supervisor drop_tag) = Unit
Fits (supervisor (move page new)) = (page < 2 ^ 64) × (new < 2 ^ 64)

pub record LimitsAreRight : Type 1 where
  -- a log can hold what fits
  pub holds : (k : Call) → Fits k → Loggable k
  -- and nothing else
  pub holds_only : (k : Call) → Loggable k → Fits k
  pub holds_shape : (s : Shape) → s.frames < 2 ^ 64 → s.uncached < 2 ^ 64 → s.processes < 2 ^ 64 → s.lines < 2 ^ 64 → LoggableShape s
