-- CR 1: a log is read byte by byte. "A last group of 0 after others, a tenth byte above 1, a cut log, an unknown kind or a field too large
-- (…) is refused with the place of that number's first byte, a cut with the log's length."
use Rattle.std.specs.Prelude.{ℕ, suc, ◌-◌, Bool, true, not, ◌&&◌, cond, List, [], ◌∷◌, length, eqb}
use Rattle.board.specs.Lists.{is_yes}
use Rattle.log_numbers.specs.Numbers.{Taken, More, Whole, Wrong, take_byte}
use Rattle.log_numbers.specs.Reasons.{reason_none, reason_cut}
use Rattle.log_entries.specs.Entries.{Entered, growing, whole, improper, number_in}

-- ---- where a reader stands in a log

pub record State : Type 0 where
  pub at : ℕ  -- the bytes taken so far
  pub groups : ℕ  -- the groups of the number that is being read
  pub sum : ℕ  -- what they are worth
  pub numbers : List ℕ  -- the numbers of the entry that is being read: its kind, then its fields
  pub reason : ℕ  -- why the log was refused; 0 if it wasn't

abbrev pub state : ℕ → ℕ → ℕ → List ℕ → ℕ → State
state at groups sum numbers reason = record { at = at; groups = groups; sum = sum; numbers = numbers; reason = reason }

-- a log opens with the header, which counts as an entry of kind 0
abbrev pub fresh : State
fresh = state 0 0 0 (0 ∷ []) reason_none

-- between two entries
unfoldable pub is_between : State → Bool
is_between st = eqb st.groups 0 && eqb (length st.numbers) 0

-- refused: nothing more is taken, the byte that shows it neither
abbrev pub refused : State → ℕ → State
refused st reason = state st.at st.groups st.sum st.numbers reason

-- ---- a byte

-- the reader goes on, or gives a whole entry and goes on
pub data Step : Type 0 where
  on : State → Step
  gives : List ℕ → State → Step

-- after the last group of a number
abbrev pub numbered : State → Entered → Step
numbered st (growing numbers) = on (state (suc st.at) 0 0 numbers reason_none)
numbered st (whole entry) = gives entry (state (suc st.at) 0 0 [] reason_none)
numbered st (improper reason) = on (refused st reason)

-- after a byte
abbrev pub taken : State → Taken → Step
taken st (More sum) = on (state (suc st.at) (suc st.groups) sum st.numbers reason_none)
taken st (Whole n) = numbered st (number_in st.numbers n)
taken st (Wrong reason) = on (refused st reason)

-- a reader that has refused stays as it is
unfoldable pub byte_in : State → ℕ → Step
byte_in st b = cond (is_yes st.reason) (on st) (taken st (take_byte st.groups st.sum b))

-- ---- bytes

-- what was read: the entries, and where the reader stands
pub record Reading : Type 0 where
  pub entries : List (List ℕ)
  pub after : State

abbrev pub reading : List (List ℕ) → State → Reading
reading entries after = record { entries = entries; after = after }

-- a step, and what comes after it
abbrev pub step_first : Step → Reading → Reading
step_first (on st) x = x
step_first (gives e st) x = reading (e ∷ x.entries) x.after

abbrev pub stepped : Step → State
stepped (on st) = st
stepped (gives e st) = st

abbrev pub room_after : ℕ → Step → ℕ
room_after room (on st) = room
room_after room (gives e st) = room - 1

-- bytes of a log, all of them
unfoldable pub read_all : State → List ℕ → Reading
read_all st [] = reading [] st
read_all st (b ∷ bs) = step_first (byte_in st b) (read_all (stepped (byte_in st b)) bs)

-- bytes of a log until there are so many entries
unfoldable pub read_into : ℕ → State → List ℕ → Reading
read_into room st [] = reading [] st
read_into room st (b ∷ bs) =
    cond (eqb room 0) (reading [] st) (step_first (byte_in st b) (read_into (room_after room (byte_in st b)) (stepped (byte_in st b)) bs))

-- ---- the end of a log

-- why the log is refused, if it has ended here or not
unfoldable pub reason_of : State → Bool → ℕ
reason_of st ended = cond (is_yes st.reason) st.reason (cond (ended && not (is_between st)) reason_cut reason_none)

-- and where: the first byte of the number that is wrong; of a cut, the log's length
unfoldable pub place_of : State → ℕ
place_of st = cond (is_yes st.reason) (st.at - st.groups) st.at

-- ---- a whole log

-- its entries, the header first; and why and where it is refused
pub record Log : Type 0 where
  pub entries : List (List ℕ)
  pub reason : ℕ
  pub place : ℕ

unfoldable pub as_log : Reading → Log
as_log x = record { entries = x.entries; reason = reason_of x.after true; place = place_of x.after }

unfoldable pub read_log : List ℕ → Log
read_log bytes = as_log (read_all fresh bytes)
