-- CR 1: a log of four calls byte by byte, logs that are refused, and a call that isn't written. They meet the premises of the promises.
use Rattle.std.specs.Prelude.{ℕ, ◌≡◌, true, false, List, [], ◌∷◌, ◌++◌, replicate}
use Rattle.address.specs.Addresses.{effective}
use Rattle.board.specs.declared.Shape.{Shape}
use Rattle.log_reader.specs.Reading.{fresh, read_log}
use Rattle.log_writer.specs.Writing.{write_entry, written, wrote}
use Rattle.promises.specs.Runs.{Call, user, supervisor, attach, map, move}
use Rattle.log_promises.specs.Calls.{LoggableShape, AllLoggable, log_of}
use Rattle.log_promises.specs.Written.{Bytes, ReadsAs}
use Rattle.log_promises.specs.Pieces.{Piece, in_pieces, fed_log}

-- a board with F 4, U 1, P 2, L 2
abbrev pub board : Shape
board = record { frames = 4; uncached = 1; processes = 2; lines = 2; ways = 1 }

-- page 0x200000 to frame 1, writable; segment 2048 to slot 3 of process 1, not writable; process 0 stores 50 with width 4 at 5; page 0x200000 is
-- moved to page 0x200001
abbrev pub calls : List Call
calls =
    supervisor (map 2097152 1 true)
    ∷ supervisor (attach 1 3 2048 false)
    ∷ user 0 (record { store = true; width = 4; value = 50 }) (effective 5)
    ∷ supervisor (move 2097152 2097153)
    ∷ []

-- their log
abbrev pub bytes : List ℕ
bytes =
    4 ∷ 1 ∷ 2 ∷ 2 ∷ 5 ∷ 128 ∷ 128 ∷ 128 ∷ 1 ∷ 1 ∷ 1 ∷ 3 ∷ 1 ∷ 3 ∷ 128 ∷ 16 ∷ 0 ∷ 1 ∷ 0 ∷ 1 ∷ 4 ∷ 5 ∷ 50
    ∷ 12 ∷ 128 ∷ 128 ∷ 128 ∷ 1 ∷ 129 ∷ 128 ∷ 128 ∷ 1 ∷ []

abbrev pub piece : ℕ → ℕ → Piece
piece n room = record { bytes = n; room = room }

-- pieces: cut in the page's number, one of no byte, the room full before the end of a piece
abbrev pub pieces : List Piece
pieces = piece 7 1 ∷ piece 3 1 ∷ piece 0 1 ∷ piece 2 1 ∷ piece 20 1 ∷ piece 20 1 ∷ piece 20 1 ∷ piece 20 1 ∷ []

-- a log that is refused for this reason at this place
abbrev pub RefusedFor : List ℕ → ℕ → ℕ → Type 0
RefusedFor log reason place = ((read_log log).reason ≡ reason) × ((read_log log).place ≡ place)

-- the header's bytes, and more
abbrev pub after : List ℕ → List ℕ
after more = 4 ∷ 1 ∷ 2 ∷ 2 ∷ more

pub record LogExamples : Type 1 where
  pub shape_fits : LoggableShape board
  pub calls_fit : AllLoggable calls
  pub log : log_of board calls ≡ bytes
  pub are_bytes : Bytes bytes
  pub read : ReadsAs bytes board calls
  pub in_pieces_lem : (in_pieces fresh bytes pieces).left ≡ []
  pub pieces_read : fed_log (in_pieces fresh bytes pieces) ≡ read_log bytes
  -- an empty log; a padded number; a tenth byte of 2; a cut; an unknown kind; a flag of 2; a load with a value; a width of 2^32
  pub empty : RefusedFor [] 4 0
  pub padded : RefusedFor (after (6 ∷ 128 ∷ 0 ∷ [])) 2 5
  pub tenth : RefusedFor (replicate 9 255 ++ 2 ∷ []) 3 0
  pub cut : RefusedFor (after (6 ∷ 128 ∷ [])) 4 6
  pub unknown : RefusedFor (after (13 ∷ [])) 5 4
  pub flag : RefusedFor (after (1 ∷ 0 ∷ 2 ∷ [])) 6 6
  pub load : RefusedFor (after (1 ∷ 0 ∷ 0 ∷ 4 ∷ 0 ∷ 7 ∷ [])) 6 9
  pub wide : RefusedFor (after (2 ∷ 0 ∷ 128 ∷ 128 ∷ 128 ∷ 128 ∷ 16 ∷ [])) 6 6
  -- a load with a value isn't written: its fifth field is too large
  pub not_written : (buffer : List ℕ) → buffer ≡ replicate 60 7
      → write_entry (record { kind = 1; fields = 0 ∷ 0 ∷ 4 ∷ 0 ∷ 7 ∷ [] }) buffer ≡ written (wrote 6 5) buffer
