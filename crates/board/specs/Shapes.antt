-- 01, "The board": the four numbers F, U, P and L, their limits, and the lengths of the buffers. The number of lines in a set says the edition: 1 is 01's,
-- 4 is sets of four (CR 4).
use Rattle.std.specs.Prelude.{ℕ, ◌*◌, ◌/◌, Bool, ◌&&◌, cond, eqb, leb}
use Rattle.std.specs.Int.Count.{ones}
use Rattle.address.specs.Layout.{page_bytes, line_bytes, process_slots}
use Rattle.board.specs.declared.Shape.{Shape}

-- the most frames (01), processes and lines (CR 7)
abbrev pub max_frames : ℕ
max_frames = 1048576

abbrev pub max_processes : ℕ
max_processes = 64

abbrev pub max_lines : ℕ
max_lines = 65536

-- the 64-bit words of a line's record
abbrev pub record_words : ℕ
record_words = 2

-- the lines in a set of four
abbrev pub set_lines : ℕ
set_lines = 4

-- the shapes of the two editions, by F, U, P and L
abbrev pub one_line : ℕ → ℕ → ℕ → ℕ → Shape
one_line frames uncached processes lines = record { frames = frames; uncached = uncached; processes = processes; lines = lines; ways = 1 }

abbrev pub four_lines : ℕ → ℕ → ℕ → ℕ → Shape
four_lines frames uncached processes lines = record { frames = frames; uncached = uncached; processes = processes; lines = lines; ways = set_lines }

-- a set has one line; or four, and then there are four lines at least
unfoldable pub edition_holds : Shape → Bool
edition_holds s = cond (eqb s.ways set_lines) (leb set_lines s.lines) (eqb s.ways 1)

-- F, P and L are 1 to their limits, U is 0 to F; L has exactly one bit set; and it is one of the two editions
abbrev pub limits_hold : Shape → Bool
limits_hold s =
    leb 1 s.frames && (leb s.frames max_frames && (leb s.uncached s.frames
    && (leb 1 s.processes && (leb s.processes max_processes && (leb s.lines max_lines && (eqb (ones s.lines) 1 && edition_holds s))))))

-- the sets' matrices of uses: one for each set of four, none in 01's edition
unfoldable pub matrices_of : Shape → ℕ
matrices_of s = cond (eqb s.ways set_lines) (s.lines / set_lines) 0

-- P × 512 slot words, F frame words, L records, L lines of 16 bytes, F frames of 4096 bytes, and the matrices
abbrev pub lengths_agree : Shape → ℕ → ℕ → ℕ → ℕ → ℕ → ℕ → Bool
lengths_agree s slots words records cache memory uses =
    eqb slots (s.processes * process_slots) && (eqb words s.frames && (eqb records (record_words * s.lines)
    && (eqb cache (line_bytes * s.lines) && (eqb memory (page_bytes * s.frames) && eqb uses (matrices_of s)))))

-- number 1 does not apply
unfoldable pub fits_shape : Shape → ℕ → ℕ → ℕ → ℕ → ℕ → ℕ → Bool
fits_shape s slots words records cache memory uses = limits_hold s && lengths_agree s slots words records cache memory uses
