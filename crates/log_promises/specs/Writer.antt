-- CR 1: what the writer writes of a call is its encoding; a call that a log can't hold, and only such a one, is refused, and nothing is written.
use Rattle.std.specs.Prelude.{ℕ, ◌-◌, ◌<◌, ◌≤◌, true, ◌≡◌, ◌≢◌, List, [], length, get_or, take}
use Rattle.board.specs.Lists.{splice}
use Rattle.board.specs.declared.Shape.{Shape}
use Rattle.log_numbers.specs.Numbers.{bytes_of}
use Rattle.log_numbers.specs.Reasons.{reason_none, reason_misfit, reason_kind, reason_field}
use Rattle.log_entries.specs.Entries.{fields_by_kind, most, five_of, words_of, six_of}
use Rattle.log_entries.specs.declared.Entry.{Entry}
use Rattle.log_writer.specs.Writing.{Wrote, write_entry, written, wrote, entry_bytes}
use Rattle.promises.specs.Runs.{Call}
use Rattle.log_promises.specs.Calls.{Loggable, LoggableShape, entry_of, header_of, header_bytes, fields_fit}

-- six words that are those of a call, or of a header
pub data Holds (e : Entry) : Type 0 where
  call : (k : Call) → Loggable k → words_of e ≡ six_of (entry_of k) → Holds e
  header : (s : Shape) → LoggableShape s → words_of e ≡ six_of (header_of s) → Holds e

-- a refusal for a field: its number from 1. The fields before it may be what they are, and it may not
pub record WrongField (e : Entry) (w : Wrote) : Type 0 where
  pub reason : w.reason ≡ reason_field
  pub number : w.amount ≤ 5
  pub some : 1 ≤ w.amount
  pub before : fields_fit e.kind [] (take (w.amount - 1) (five_of e)) ≡ true
  pub large : most e.kind (take (w.amount - 1) (five_of e)) < get_or (five_of e) (w.amount - 1) 0

pub record WriterIsRight : Type 1 where
  -- a call that a log can hold is written as its bytes, and so is a header
  pub writes_call : (k : Call) (e : Entry) (bytes : List ℕ) → Loggable k → words_of e ≡ six_of (entry_of k) → entry_bytes ≤ length bytes
      → write_entry e bytes ≡ written (wrote reason_none (length (bytes_of (entry_of k)))) (splice bytes 0 (bytes_of (entry_of k)))
  pub writes_header : (s : Shape) (e : Entry) (bytes : List ℕ) → LoggableShape s → words_of e ≡ six_of (header_of s) → entry_bytes ≤ length bytes
      → write_entry e bytes ≡ written (wrote reason_none (length (header_bytes s))) (splice bytes 0 (header_bytes s))
  -- all of them: a buffer of the size that is asked has room
  pub call_has_room : (k : Call) → length (bytes_of (entry_of k)) ≤ entry_bytes
  pub header_has_room : (s : Shape) → length (header_bytes s) ≤ entry_bytes
  -- nothing else is written
  pub writes_only : (e : Entry) (bytes : List ℕ) → (write_entry e bytes).wrote.reason ≡ reason_none → Holds e × (entry_bytes ≤ length bytes)
  -- a call that a log can't hold is refused with its first wrong field
  pub refuses_call : (k : Call) (e : Entry) (bytes : List ℕ) → (Loggable k → ⊥) → words_of e ≡ six_of (entry_of k) → entry_bytes ≤ length bytes
      → WrongField e (write_entry e bytes).wrote
  -- of what is refused, nothing is written
  pub keeps : (e : Entry) (bytes : List ℕ) → (write_entry e bytes).wrote.reason ≢ reason_none → (write_entry e bytes).bytes ≡ bytes
  -- why: the buffer is too short; else the kind isn't known; else this field is the first that is too large
  pub too_short : (e : Entry) (bytes : List ℕ) → length bytes < entry_bytes → (write_entry e bytes).wrote ≡ wrote reason_misfit 0
  pub no_kind : (e : Entry) (bytes : List ℕ) → entry_bytes ≤ length bytes → length fields_by_kind ≤ e.kind → (write_entry e bytes).wrote ≡ wrote reason_kind 0
  pub field_wrong : (e : Entry) (bytes : List ℕ) → entry_bytes ≤ length bytes → e.kind < length fields_by_kind → (write_entry e bytes).wrote.reason ≢ reason_none
      → WrongField e (write_entry e bytes).wrote
