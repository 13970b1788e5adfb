-- The places where lines with given names can stand, of `sets` places, and runs of such places.
use Rattle.std.specs.Prelude.{ℕ, ◌%◌, ◌≤◌, ◌<◌, ◌≡◌, true}
use Rattle.ranges.specs.Ranges.{named}
use Rattle.ranges.specs.declared.Names.{Names}
use Rattle.ranges.specs.declared.Run.{Run}

-- one of these names has this place
pub record HasPlace (sets : ℕ) (names : Names) (place : ℕ) : Type 0 where
  pub name : ℕ
  pub is_named : named names name ≡ true
  pub is_there : name % sets ≡ place

-- every place of the run is a place of these names
abbrev pub Inside : ℕ → Names → Run → Type 0
Inside sets names r = (place : ℕ) → r.start ≤ place → place < r.end → HasPlace sets names place

-- the first run from a place on: no place of these names is passed over, every place of the run is one, and it is empty only at the end
pub record NextRun (sets : ℕ) (names : Names) (place : ℕ) (r : Run) : Type 0 where
  pub from : place ≤ r.start
  pub upward : r.start ≤ r.end
  pub onward : place < r.end
  pub within : r.end ≤ sets
  pub filled : r.start < sets → r.start < r.end
  pub passed : (q : ℕ) → place ≤ q → q < r.start → HasPlace sets names q → ⊥
  pub inside : Inside sets names r
