-- A page's lines can only stand at the places of its names: visiting those places, each with its lines, is visiting every record.
-- Stated over the number of lines in a set, `ways`, and over any names. `ranges/specs/Bounds.antt` says how many places.
use Rattle.std.specs.Prelude.{ℕ, ◌*◌, ◌-◌, ◌/◌, ◌<◌, ◌≡◌, List, [], ◌∷◌}
use Rattle.board.specs.declared.Shape.{Shape}
use Rattle.stores.specs.Stores.{Store}
use Rattle.ranges.specs.Places.{HasPlace}
use Rattle.ranges.specs.Bounds.{Runs}
use Rattle.ranges.specs.declared.Run.{Run}
use Rattle.visits.specs.Visits.{visited, sweep, visited_all}
use Rattle.visits.specs.declared.Visit.{Visit}

-- the records of each run visited, in the order of the list
unfoldable pub visited_runs : Shape → Visit → List Run → Store → Store
visited_runs s v [] b = b
visited_runs s v (r ∷ rs) b = visited_runs s v rs (sweep (visited s v) ((r.end - r.start) * s.ways) (r.start * s.ways) b)

pub record Walks : Type 0 where
  -- a record at a place of none of the names is left as it is
  pub elsewhere : (s : Shape) (v : Visit) (i : ℕ) (b : Store) → (HasPlace (s.lines / s.ways) v.names (i / s.ways) → ⊥) → visited s v i b ≡ b
  -- the places of the names are enough
  pub enough : (s : Shape) (v : Visit) (rs : List Run) (b : Store) → 0 < s.ways → 0 < s.lines / s.ways → Runs (s.lines / s.ways) v.names 0 rs
      → visited_runs s v rs b ≡ visited_all s v b
