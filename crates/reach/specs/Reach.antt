-- How a line is reached: by a record that holds it, else by what its name maps to.
use Rattle.std.specs.Prelude.{ℕ, Bool, true, false, List, Option, Some, None}
use Rattle.pages.specs.Pages.{home_of}
use Rattle.board.specs.declared.Shape.{Shape}
use Rattle.board.specs.declared.Home.{Home}
use Rattle.lines.specs.Records.{line_at}
use Rattle.lines.specs.Holds.{holder_of}
use Rattle.reach.specs.declared.Way.{Way}
use Rattle.reach.specs.declared.Way.TheVariants.{Held, InMemory}

unfoldable pub way_by_home : Option Home → Option Way
way_by_home (Some hm) = Some (InMemory hm.line hm.write)
way_by_home None = None

-- by the home of its name, and the record that holds it
unfoldable pub way_by : List ℕ → Option Home → Option ℕ → Option Way
way_by records home (Some i) = Some (Held i (line_at records i).write)
way_by records home None = way_by_home home

-- the way to the line of this name, with the permission to write: from the record if the line is held, else from the page map
unfoldable pub way_of : Shape → List ℕ → List ℕ → ℕ → Option Way
way_of s words records name = way_by records (home_of s words name) (holder_of s records name)

-- no record holds the line, and its name maps to nothing
unfoldable pub unreached : Option Way → Bool
unreached (Some (Held i write)) = false
unreached (Some (InMemory line write)) = false
unreached None = true

unfoldable pub may_write : Option Way → Bool
may_write (Some (Held i write)) = write
may_write (Some (InMemory line write)) = write
may_write None = false
