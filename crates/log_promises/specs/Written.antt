-- CR 1: "Written then read gives the same calls, and a list of calls has one encoding."
use Rattle.std.specs.Prelude.{ℕ, ◌<◌, ◌≡◌, List, [], ◌∷◌, length}
use Rattle.board.specs.declared.Shape.{Shape}
use Rattle.log_numbers.specs.Reasons.{reason_none}
use Rattle.log_reader.specs.Reading.{read_log}
use Rattle.promises.specs.Runs.{Call}
use Rattle.log_promises.specs.Calls.{LoggableShape, AllLoggable, entry_of, header_of, log_of, entries_of}

-- every byte is below 256
pub data Bytes : List ℕ → Type 0 where
  none : Bytes []
  also : {b : ℕ} {bs : List ℕ} → b < 256 → Bytes bs → Bytes (b ∷ bs)

-- a log that reads as a board and its calls, and isn't refused
pub record ReadsAs (bytes : List ℕ) (s : Shape) (ks : List Call) : Type 0 where
  pub entries : (read_log bytes).entries ≡ header_of s ∷ entries_of ks
  pub whole : (read_log bytes).reason ≡ reason_none

pub record WrittenIsRead : Type 1 where
  -- written then read gives the same calls
  pub same_calls : (s : Shape) (ks : List Call) → LoggableShape s → AllLoggable ks → ReadsAs (log_of s ks) s ks
  -- to its end: all its bytes are taken
  pub to_its_end : (s : Shape) (ks : List Call) → LoggableShape s → AllLoggable ks → (read_log (log_of s ks)).place ≡ length (log_of s ks)
  -- it is bytes
  pub are_bytes : (s : Shape) (ks : List Call) → LoggableShape s → AllLoggable ks → Bytes (log_of s ks)
  -- entries tell calls, and headers boards of one edition: a log carries no edition
  pub calls_apart : (k k' : Call) → entry_of k ≡ entry_of k' → k ≡ k'
  pub shapes_apart : (s s' : Shape) → s.ways ≡ s'.ways → header_of s ≡ header_of s' → s ≡ s'

-- a log that isn't refused: the board and the calls that it is the log of
pub record Logged (bytes : List ℕ) : Type 0 where
  pub shape : Shape
  pub calls : List Call
  pub fits : LoggableShape shape
  pub all_fit : AllLoggable calls
  pub written : bytes ≡ log_of shape calls
  pub read : ReadsAs bytes shape calls

pub record OneEncoding : Type 1 where
  -- whatever is read without a refusal is the log of a board and its calls
  pub only_written : (bytes : List ℕ) → Bytes bytes → (read_log bytes).reason ≡ reason_none → Logged bytes
  -- no second byte string reads as the same calls
  pub no_second : (bytes other : List ℕ) (s : Shape) (ks : List Call) → Bytes bytes → Bytes other → ReadsAs bytes s ks → ReadsAs other s ks → bytes ≡ other
