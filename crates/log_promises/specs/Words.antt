-- CR 1, for C and Rust: a reader's words. They stand for a reader, and what a call leaves the next one takes.
use Rattle.std.specs.Prelude.{ℕ, ◌/◌, ◌≡◌, true, List, length}
use Rattle.log_entries.specs.Entries.{entry_words, words_of}
use Rattle.log_entries.specs.declared.Entry.{Entry}
use Rattle.log_reader.specs.Reading.{fresh, read_into}
use Rattle.log_writer.specs.Writing.{write_entry}
use Rattle.oaledva_log.specs.States.{fresh_words, is_reader, state_in, reads_here, log_read, log_write}

pub record WordsStand : Type 1 where
  -- fresh words are a reader's, at the start of a log
  pub fresh_reads : is_reader fresh_words ≡ true
  pub fresh_stands : state_in fresh_words ≡ fresh
  -- what a call leaves, the next call takes
  pub stays : (words piece entries : List ℕ) → is_reader words ≡ true → is_reader (log_read words piece entries).reader ≡ true
  -- and it stands where the reading ended
  pub stands : (words piece entries : List ℕ) → reads_here words piece entries ≡ true
      → state_in (log_read words piece entries).reader ≡ (read_into (length entries / entry_words) (state_in words) piece).after
  -- six words are written as their entry
  pub writes : (e : Entry) (bytes : List ℕ) → log_write (words_of e) bytes ≡ write_entry e bytes
