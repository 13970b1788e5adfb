-- CR 4: which record of its set a new line takes, and what a use of a record leaves in the matrices. With one line in a set it is the record at the place,
-- and there are no matrices.
use Rattle.std.specs.Prelude.{ℕ, ◌+◌, ◌/◌, ◌%◌, Bool, not, cond, List, [], get_or, set, eqb, Option, Some, None}
use Rattle.board.specs.Searches.{first}
use Rattle.board.specs.Shapes.{set_lines}
use Rattle.board.specs.declared.Shape.{Shape}
use Rattle.sets.specs.Matrices.{Matrix, used, fewest}
use Rattle.lines.specs.Holds.{place_of, first_at, holds_at, holder_of}

-- the matrices of all sets, by place
abbrev pub Uses : Type 0
Uses = List Matrix

abbrev pub matrix_of : Uses → ℕ → Matrix
matrix_of uses place = get_or uses place []

-- record i holds nothing
unfoldable pub is_empty : Shape → List ℕ → ℕ → Bool
is_empty s records i = not (holds_at s records i)

-- the lowest record of a set that holds nothing
abbrev pub empty_at : Shape → List ℕ → ℕ → Option ℕ
empty_at s records place = first (is_empty s records) (first_at s place) s.ways

-- the record that a full set gives up: the lowest whose row has the fewest ones
abbrev pub given_up : Shape → Uses → ℕ → ℕ
given_up s uses place = first_at s place + cond (eqb s.ways set_lines) (fewest (matrix_of uses place)) 0

unfoldable pub victim_by : Shape → Uses → ℕ → Option ℕ → ℕ
victim_by s uses place (Some i) = i
victim_by s uses place None = given_up s uses place

-- the victim: the lowest record of the set that holds nothing, else the one that the full set gives up
unfoldable pub victim_at : Shape → Uses → List ℕ → ℕ → ℕ
victim_at s uses records place = victim_by s uses place (empty_at s records place)

abbrev pub victim_of : Shape → Uses → List ℕ → ℕ → ℕ
victim_of s uses records name = victim_at s uses records (place_of s name)

-- a use of record i: its line's row set in the matrix of its set, then its column cleared
unfoldable pub used_in : Shape → Uses → ℕ → Uses
used_in s uses i =
    cond (eqb s.ways set_lines) (set uses (i / set_lines) (used (matrix_of uses (i / set_lines)) (i % set_lines))) uses

-- where an access to the line of this name goes: the record that holds it, else the victim
unfoldable pub record_by : ℕ → Option ℕ → ℕ
record_by victim (Some i) = i
record_by victim None = victim

abbrev pub record_for : Shape → Uses → List ℕ → ℕ → ℕ
record_for s uses records name = record_by (victim_of s uses records name) (holder_of s records name)

-- where a line of this name is to be inserted: nowhere if it is held
unfoldable pub room_by : ℕ → Option ℕ → Option ℕ
room_by victim (Some i) = None
room_by victim None = Some victim

abbrev pub room_for : Shape → Uses → List ℕ → ℕ → Option ℕ
room_for s uses records name = room_by (victim_of s uses records name) (holder_of s records name)
