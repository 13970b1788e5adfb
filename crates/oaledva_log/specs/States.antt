-- How a log's reader and writer cross to C and Rust: a reader as eleven words, an entry as six.
use Rattle.std.specs.Prelude.{ℕ, ◌+◌, ◌-◌, ◌/◌, ◌%◌, ◌^◌, ◌≡◌, Bool, true, false, ◌&&◌, ◌||◌, cond, Result, MatchResult, take, List, [], ◌∷◌, length, get_or, eqb, ltb, leb}
use Rattle.log_numbers.specs.Numbers.{group_size, groups_before, number_end}
use Rattle.log_numbers.specs.Reasons.{reason_none, reason_misfit, reason_padded, reason_tenth, reason_kind, reason_field}
use Rattle.log_numbers.specs.declared.Reason.{Reason}
use Rattle.log_numbers.specs.declared.Reason.TheVariants.{Misfit}
use Rattle.log_entries.specs.Entries.{fields_of, entry_words, entry_from, words_of}
use Rattle.log_reader.specs.Reading.{State, state, read_into, reason_of, place_of}
use Rattle.log_reader.specs.Readers.{state_of, Readable, Laid, laid_from}
use Rattle.log_reader.specs.declared.Reader.{Reader}
use Rattle.log_writer.specs.Writing.{Wrote, Written, write_entry, written, wrote}

-- ---- a reader

-- bytes taken; groups, and what they are worth; how many numbers of the entry there are; its six words; why refused
abbrev pub reader_words : ℕ
reader_words = 11

abbrev pub word_at : List ℕ → ℕ → ℕ
word_at words i = get_or words i 0

-- where the reader with these words stands. Of its entry's words the first so many count, whatever the others are
abbrev pub state_in : List ℕ → State
state_in words =
    state (word_at words 0) (word_at words 1) (word_at words 2) (take (word_at words 3) (words_of (entry_from words 4))) (word_at words 10)

-- and the words of a reader that stands here: 0 for the numbers that aren't there
abbrev pub words_of_state : State → List ℕ
words_of_state st =
    st.at ∷ st.groups ∷ st.sum ∷ length st.numbers ∷ get_or st.numbers 0 0 ∷ get_or st.numbers 1 0 ∷ get_or st.numbers 2 0 ∷ get_or st.numbers 3 0
    ∷ get_or st.numbers 4 0 ∷ get_or st.numbers 5 0 ∷ st.reason ∷ []

-- the words of a reader at the start of a log
abbrev pub fresh_words : List ℕ
fresh_words = 0 ∷ 0 ∷ 0 ∷ 1 ∷ 0 ∷ 0 ∷ 0 ∷ 0 ∷ 0 ∷ 0 ∷ 0 ∷ []

-- why a reader may have refused: what a log that hasn't ended is refused for
unfoldable pub is_reason : ℕ → Bool
is_reason reason = eqb reason reason_none || (eqb reason reason_padded || (eqb reason reason_tenth || (eqb reason reason_kind || eqb reason reason_field)))

-- where a reader may stand, but for its reason: bytes taken; groups, and what they are worth; how many numbers of an entry of this kind
unfoldable pub stands : ℕ → ℕ → ℕ → ℕ → ℕ → Bool
stands at groups sum count kind =
    leb groups groups_before && (leb groups at && (ltb sum (group_size ^ groups) && leb count (length (fields_of kind))))

-- what a reader's words may be
unfoldable pub may_read : List ℕ → Bool
may_read words = stands (word_at words 0) (word_at words 1) (word_at words 2) (word_at words 3) (word_at words 4) && is_reason (word_at words 10)

unfoldable pub is_reader : List ℕ → Bool
is_reader words = eqb (length words) reader_words && may_read words

-- what a call that reads leaves: how many entries it gave; the reader's words; the list of entries
pub record Read : Type 0 where
  pub given : ℕ
  pub reader : List ℕ
  pub entries : List ℕ

abbrev pub read : ℕ → List ℕ → List ℕ → Read
read given reader entries = record { given = given; reader = reader; entries = entries }

-- refused: no number of entries
abbrev pub no_entries : ℕ
no_entries = number_end - 1

-- a call is taken: the words are a reader's, the log stays below 2^64 bytes, and the list has six words for each entry
unfoldable pub reads_here : List ℕ → List ℕ → List ℕ → Bool
reads_here words piece entries = is_reader words && (ltb (word_at words 0 + length piece) number_end && eqb (length entries % entry_words) 0)

abbrev pub read_as : Laid → Read
read_as x = read x.given (words_of_state x.after) x.list

unfoldable pub log_read : List ℕ → List ℕ → List ℕ → Read
log_read words piece entries =
    cond (reads_here words piece entries) (read_as (laid_from entries 0 (read_into (length entries / entry_words) (state_in words) piece))) (read no_entries words entries)

-- why, and where; of words that are no reader's, misfit and 0
unfoldable pub log_reason : List ℕ → Bool → ℕ
log_reason words ended = cond (is_reader words) (reason_of (state_in words) ended) reason_misfit

unfoldable pub log_place : List ℕ → ℕ
log_place words = cond (is_reader words) (place_of (state_in words)) 0

-- ---- an entry

-- what a call that writes leaves is read off its number: why it is refused × 2^32 + the field that is wrong, or how many bytes were written
abbrev pub reason_unit : ℕ
reason_unit = 2 ^ 32

unfoldable pub wrote_in : ℕ → Wrote
wrote_in r = wrote (r / reason_unit) (r % reason_unit)

unfoldable pub log_write : List ℕ → List ℕ → Written
log_write words bytes = cond (eqb (length words) entry_words) (write_entry (entry_from words 0) bytes) (written (wrote reason_misfit 0) bytes)

-- ---- as code has it

-- the reader with these words, or a misfit
abbrev pub IsReaderIn : List ℕ → Result Reader Reason → Type 0
IsReaderIn words r = MatchResult r (λ x. (is_reader words ≡ true) × (state_of x ≡ state_in words) × Readable x) (λ e. (e ≡ Misfit) × (is_reader words ≡ false))
