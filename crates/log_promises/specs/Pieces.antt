-- CR 1: "The reader must also take the log in pieces cut anywhere and give the same calls."
use Rattle.std.specs.Prelude.{ℕ, ◌+◌, ◌-◌, ◌≤◌, false, ◌≡◌, ◌≢◌, ◌⊎◌, List, [], ◌∷◌, ◌++◌, length, take, drop}
use Rattle.log_numbers.specs.Reasons.{reason_none}
use Rattle.log_reader.specs.Reading.{State, fresh, Reading, reading, read_into, Log, read_log, as_log, reason_of}

-- a call of the reader: how long the piece is that it is brought, and for how many entries there is room
pub record Piece : Type 0 where
  pub bytes : ℕ
  pub room : ℕ

-- what a row of calls gives: the entries in order, where the reader stands, and the bytes that it didn't take
pub record Fed : Type 0 where
  pub entries : List (List ℕ)
  pub after : State
  pub left : List ℕ

abbrev pub fed : List (List ℕ) → State → List ℕ → Fed
fed entries after left = record { entries = entries; after = after; left = left }

abbrev pub fed_first : List (List ℕ) → Fed → Fed
fed_first es x = fed (es ++ x.entries) x.after x.left

-- the log is brought piece by piece. What a call didn't take comes again at the start of the next piece
unfoldable pub in_pieces : State → List ℕ → List Piece → Fed
in_pieces st bytes [] = fed [] st bytes
in_pieces st bytes (p ∷ ps) =
    let x : Reading = read_into p.room st (take p.bytes bytes) in
    fed_first x.entries (in_pieces x.after (drop (x.after.at - st.at) bytes) ps)

-- pieces one after another
unfoldable pub joined : List (List ℕ) → List ℕ
joined [] = []
joined (x ∷ xs) = x ++ joined xs

-- each with room for an entry of every byte
unfoldable pub ample : List (List ℕ) → List Piece
ample [] = []
ample (x ∷ xs) = record { bytes = length x; room = length x } ∷ ample xs

-- what a row of calls gave, as a log that ends there
abbrev pub fed_log : Fed → Log
fed_log x = as_log (reading x.entries x.after)

pub record PiecesAreWhole : Type 1 where
  -- a log in pieces, cut anywhere, is the whole log: its entries, the reason and the place
  pub every_cut : (xs : List (List ℕ)) → fed_log (in_pieces fresh (joined xs) (ample xs)) ≡ read_log (joined xs)
  -- so it is whatever the room, once nothing is left or the reader has refused
  pub every_room : (bytes : List ℕ) (ps : List Piece) → ((in_pieces fresh bytes ps).left ≡ []) ⊎ ((in_pieces fresh bytes ps).after.reason ≢ reason_none)
      → fed_log (in_pieces fresh bytes ps) ≡ read_log bytes
  -- a call gives no more entries than it has room for
  pub few : (room : ℕ) (st : State) (piece : List ℕ) → length (read_into room st piece).entries ≤ room
  -- it stops only where its piece is used up, its room is full or the log is refused
  pub goes_on : (room : ℕ) (st : State) (piece : List ℕ)
      → ((read_into room st piece).after.at ≡ st.at + length piece)
      ⊎ ((length (read_into room st piece).entries ≡ room) ⊎ ((read_into room st piece).after.reason ≢ reason_none))
  -- before the end of a log, what the bytes taken show is the reason
  pub not_ended : (st : State) → reason_of st false ≡ st.reason
