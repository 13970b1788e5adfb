-- CR 1: a log of four calls and logs that are refused, computed; what is promised of the log, by the promises.
use Prim.Native.Nat.{ℕ, ◌≤◌}
use mathlib.Core.Path.{◌≡◌, refl}
use mathlib.Core.List.{List, [], ◌∷◌}
use native.Mathlib.Omega.{arith}
use lib.ListN.{length}
use borrow.Author.Tests.{le-ltb}
use Rattle.log_numbers.specs.Numbers.{groups_from, bytes_of, take_byte}
use Rattle.log_entries.specs.Entries.{fields_of, is_kind, is_whole, most, most_of, number_in}
use Rattle.log_reader.specs.Reading.{is_between, byte_in, read_all, read_into, reason_of, place_of, as_log, read_log}
use Rattle.log_writer.specs.Writing.{first_wrong, entry_bytes, by_field, write_entry, written, wrote}
use Rattle.log_promises.specs.Calls.{LoggableShape, AllLoggable, none, also, entry_of, header_of, fields_fit, entry_fits, calls_bytes, header_bytes, log_of}
use Rattle.log_promises.specs.Written.{Bytes, ReadsAs}
use Rattle.log_promises.specs.Pieces.{in_pieces}
use Rattle.log_promises.specs.Examples.{board, calls, bytes, LogExamples}
use Rattle.log_promises.proofs.Written.{written-is-read}

-- ---- the log

-- the board fits
board-fits : LoggableShape board
unfolding header_of entry_fits fields_fit fields_of most most_of
board-fits = refl

-- and each call
all_fit : AllLoggable calls
unfolding entry_of entry_fits fields_fit fields_of most most_of
all_fit = also refl (also refl (also refl (also refl none)))

-- the log's bytes
log_is : log_of board calls ≡ bytes
unfolding log_of header_bytes calls_bytes entry_of bytes_of groups_from
log_is = refl

-- so they are bytes
log-bytes : Bytes bytes
log-bytes = rw log_is at (written-is-read.are_bytes board calls board-fits all_fit)

-- and are read as the board and its calls
log-reads : ReadsAs bytes board calls
log-reads = rw log_is at (written-is-read.same_calls board calls board-fits all_fit)

-- ---- a call that isn't written

-- whatever the buffer, if it has room
load-not-written : (buffer : List ℕ) → entry_bytes ≤ length buffer
    → write_entry (record { kind = 1; fields = 0 ∷ 0 ∷ 4 ∷ 0 ∷ 7 ∷ [] }) buffer ≡ written (wrote 6 5) buffer
unfolding write_entry by_field first_wrong fields_of most most_of
load-not-written buffer room = rw (le-ltb (length buffer) entry_bytes room)

-- the examples
pub log-examples : LogExamples
unfolding in_pieces read_into read_log as_log read_all reason_of place_of is_between byte_in take_byte number_in is_kind is_whole fields_of most most_of
log-examples = record {
  shape_fits = board-fits;
  calls_fit = all_fit;
  log = log_is;
  are_bytes = log-bytes;
  read = log-reads;
  in_pieces_lem = refl;
  pieces_read = refl;
  empty = (refl, refl);
  padded = (refl, refl);
  tenth = (refl, refl);
  cut = (refl, refl);
  unknown = (refl, refl);
  flag = (refl, refl);
  load = (refl, refl);
  wide = (refl, refl);
  not_written = λ buffer e. load-not-written buffer (rw e (omega arith));
}
