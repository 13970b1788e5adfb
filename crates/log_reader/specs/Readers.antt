-- What code has of a reader, and how it lays entries out.
use Rattle.std.specs.Prelude.{ℕ, ◌+◌, ◌*◌, ◌-◌, ◌/◌, ◌<◌, ◌≤◌, ◌^◌, ◌≡◌, Result, Ok, Err, List, [], ◌∷◌, ◌++◌, length, take}
use Rattle.board.specs.Lists.{splice}
use Rattle.log_numbers.specs.Numbers.{group_size, groups_before}
use Rattle.log_numbers.specs.Takes.{number_of}
use Rattle.log_numbers.specs.declared.Reason.{Reason}
use Rattle.log_entries.specs.Entries.{fields_of, entry_words, words_of, six_of}
use Rattle.log_reader.specs.Reading.{State, state, refused, Reading, Step, on, gives, read_into}
use Rattle.log_reader.specs.declared.Reader.{Reader}
use Rattle.log_reader.specs.declared.Stepped.{Stepped}
use Rattle.log_reader.specs.declared.Stepped.TheVariants.{On, Gives}

-- where a reader stands: its entry has `count` numbers so far
abbrev pub state_of : Reader → State
state_of r = state r.at r.groups r.sum (take r.count (words_of r.entry)) r.reason

-- what is so of any reader that came about by reading
pub record Readable (r : Reader) : Type 0 where
  pub few : r.groups ≤ groups_before
  pub within : r.groups ≤ r.at
  pub small : r.sum < group_size ^ r.groups
  pub fields : r.count ≤ length (fields_of r.entry.kind)

-- a byte's step from a reader, as code has it: the entry that is given stands in the words of the reader after it; what is refused leaves the
-- reader where it stood
abbrev pub step_of : Reader → Result Stepped Reason → Step
step_of r (Ok (On x)) = on (state_of x)
step_of r (Ok (Gives x)) = gives (take (1 + length (fields_of x.entry.kind)) (words_of x.entry)) (state_of x)
step_of r (Err reason) = on (refused (state_of r) (number_of reason))

-- what is so of the reader after it
abbrev pub StepFits : Reader → Result Stepped Reason → Type 0
StepFits r (Ok (On x)) = Readable x × (x.at ≤ r.at + 1)
StepFits r (Ok (Gives x)) = Readable x × (x.at ≤ r.at + 1)
StepFits r (Err reason) = Unit

-- entries one after another, each by its six words
unfoldable pub sixes : List (List ℕ) → List ℕ
sixes [] = []
sixes (e ∷ es) = six_of e ++ sixes es

-- what a call leaves: the list of entries, how many there are, and where the reader stands
pub record Laid : Type 0 where
  pub list : List ℕ
  pub given : ℕ
  pub after : State

abbrev pub laid : List ℕ → ℕ → State → Laid
laid list given after = record { list = list; given = given; after = after }

-- what was read, laid out in a list that has some entries already
unfoldable pub laid_from : List ℕ → ℕ → Reading → Laid
laid_from list given x = laid (splice list (entry_words * given) (sixes x.entries)) (given + length x.entries) x.after

-- an entry that a step gives is put behind those that are there
abbrev pub put_step : List ℕ → ℕ → Step → List ℕ
put_step list given (on st) = list
put_step list given (gives e st) = splice list (entry_words * given) (six_of e)

abbrev pub given_after : ℕ → Step → ℕ
given_after given (on st) = given
given_after given (gives e st) = given + 1

-- what reading these bytes leaves, where some entries are there already
abbrev pub laid_left : List ℕ → ℕ → State → List ℕ → Laid
laid_left list given st bytes = laid_from list given (read_into (length list / entry_words - given) st bytes)

-- a turn leaves what is to be read and laid out the same, and goes on in its piece
pub record Turned (at from length₀ from' : ℕ) (r : Reader) (whole rest : Laid) : Type 0 where
  pub same : whole ≡ rest
  pub readable : Readable r
  pub further : from < from'
  pub inside : from' ≤ length₀
  pub taken : r.at + from ≤ at + from'
