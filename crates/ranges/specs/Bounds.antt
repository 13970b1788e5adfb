-- How many places there are to visit: at most as many as names, and never more than there are places; all names have every place.
use Rattle.std.specs.Prelude.{ℕ, ◌+◌, ◌-◌, ◌≤◌, ◌≡◌, List, [], ◌∷◌, length}
use Rattle.ranges.specs.Places.{NextRun}
use Rattle.ranges.specs.declared.Range.{Range}
use Rattle.ranges.specs.declared.Names.{Names}
use Rattle.ranges.specs.declared.Names.TheVariants.{One, Two, All}
use Rattle.ranges.specs.declared.Run.{Run}

-- the runs of places of these names from a place on, one after the other up to the last place
unfoldable pub Runs : ℕ → Names → ℕ → List Run → Type 0
Runs sets names place [] = sets ≤ place
Runs sets names place (r ∷ rs) = NextRun sets names place r × Runs sets names r.end rs

-- how many places the runs have
unfoldable pub places_in : List Run → ℕ
places_in [] = 0
places_in (r ∷ rs) = (r.end - r.start) + places_in rs

pub record Bounds : Type 0 where
  -- there are such runs, whatever the names
  pub some : (sets : ℕ) (names : Names) → (rs : List Run) × Runs sets names 0 rs
  -- n names have at most n places
  pub one : (sets : ℕ) (r : Range) (rs : List Run) → Runs sets (One r) 0 rs → places_in rs ≤ r.count
  -- two ranges have at most as many places as names in both
  pub two : (sets : ℕ) (r q : Range) (rs : List Run) → Runs sets (Two r q) 0 rs → places_in rs ≤ r.count + q.count
  -- never more places than there are
  pub most : (sets : ℕ) (names : Names) (rs : List Run) → Runs sets names 0 rs → places_in rs ≤ sets
  -- all names have every place
  pub all : (sets : ℕ) (rs : List Run) → Runs sets All 0 rs → places_in rs ≡ sets
  -- at most one run more than places
  pub few : (sets : ℕ) (names : Names) (rs : List Run) → Runs sets names 0 rs → length rs ≤ places_in rs + 1
