-- 01, "The board": the place of a line, which record holds it, and which holds a physical line.
-- A place has as many records as there are lines in a set: one in 01's edition, four with sets of four (CR 4).
use Rattle.std.specs.Prelude.{ℕ, ◌*◌, ◌/◌, ◌%◌, Bool, ◌&&◌, List, eqb, ltb, Option}
use Rattle.address.specs.Layout.{page_lines}
use Rattle.board.specs.Searches.{first}
use Rattle.board.specs.declared.Shape.{Shape}
use Rattle.lines.specs.Records.{line_at}
use Rattle.lines.specs.declared.Line.{Line}

-- how many sets there are
abbrev pub sets_of : Shape → ℕ
sets_of s = s.lines / s.ways

-- the place of a name: name mod the number of sets
abbrev pub place_of : Shape → ℕ → ℕ
place_of s name = name % sets_of s

-- the place of a record, and the first record of a place
abbrev pub set_at : Shape → ℕ → ℕ
set_at s i = i / s.ways

abbrev pub first_at : Shape → ℕ → ℕ
first_at s place = place * s.ways

-- record i holds a line if it is valid, stands at its place and its physical line is inside memory
unfoldable pub holds_line : Shape → ℕ → Line → Bool
holds_line s i l = l.valid && (eqb (set_at s i) (place_of s l.name) && ltb l.physical (page_lines * s.frames))

unfoldable pub holds_at : Shape → List ℕ → ℕ → Bool
holds_at s records i = holds_line s i (line_at records i)

-- record i holds the line of this name
unfoldable pub holds_name : Shape → List ℕ → ℕ → ℕ → Bool
holds_name s records name i = eqb (line_at records i).name name && holds_at s records i

-- the record that holds the line of this name: the lowest of its set that does
unfoldable pub holder_of : Shape → List ℕ → ℕ → Option ℕ
holder_of s records name = first (holds_name s records name) (first_at s (place_of s name)) s.ways

-- record i holds this physical line
unfoldable pub keeps_line : Shape → List ℕ → ℕ → ℕ → Bool
keeps_line s records line i = holds_at s records i && eqb (line_at records i).physical line

-- the lowest record that holds this physical line
unfoldable pub keeper_of : Shape → List ℕ → ℕ → Option ℕ
keeper_of s records line = first (keeps_line s records line) 0 s.lines
