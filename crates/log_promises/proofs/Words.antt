-- A reader's words: reading keeps what is so of them, and they say all of where the reader stands.
use Prim.Native.Nat.{ℕ, zero, suc, ◌/◌, ◌^◌, ◌<◌, ◌≤◌}
use mathlib.Core.Path.{◌≡◌, refl}
use mathlib.Core.Bool.{Bool, true, false, not, ◌&&◌, cond}
use mathlib.Core.List.{List, [], ◌∷◌, ◌++◌}
use native.Mathlib.Omega.{arith}
use lib.Dec.{eqb, ltb, leb}
use lib.ListN.{length, get_or, take, length-take}
use borrow.Author.Tests.{le-leb, lt-ltb, eqb-false, leb-true, ltb-true}
use Rattle.board.specs.Lists.{is_yes}
use Rattle.board.proofs.Bools.{and_left, and_right, cond_both}
use Rattle.log_numbers.specs.Numbers.{group_size, groups_before, take_byte}
use Rattle.log_numbers.specs.Numbers.{Taken, More, Whole, Wrong}
use Rattle.log_entries.specs.Entries.{Entered, growing, whole, improper, number_in, is_kind, is_whole, most, fields_of, five_of, words_of, entry_words, entry_from}
use Rattle.log_entries.specs.declared.Entry.{Entry}
use Rattle.log_entries.proofs.Tables.{fields-few}
use Rattle.log_reader.specs.Reading.{State, Step, on, gives, numbered, taken, byte_in, Reading, step_first, stepped, room_after, read_into}
use Rattle.log_reader.specs.Readers.{state_of, laid_from}
use Rattle.log_reader.proofs.Readers.{more-groups}
use Rattle.log_writer.specs.Writing.{write_entry}
use Rattle.oaledva_log.specs.States.{reader_words, word_at, stands, state_in, words_of_state, fresh_words, is_reason, may_read, is_reader, Read, reads_here, log_read, log_write}
use Rattle.log_promises.specs.Words.{WordsStand}
use Rattle.log_promises.proofs.Fits.{length-next}

-- ---- what is so of a reader

-- the numbers of an entry that isn't whole
abbrev Part : List ℕ → Type 0
Part ns = length ns ≤ length (fields_of (get_or ns 0 0))

-- where a reader may stand
record Stands (st : State) : Type 0 where
  few : st.groups ≤ groups_before
  within : st.groups ≤ st.at
  small : st.sum < group_size ^ st.groups
  part : Part st.numbers
  known : is_reason st.reason ≡ true

-- the first words of an entry
part-words : (count : ℕ) (e : Entry) → count ≤ length (fields_of e.kind) → Part (take count (words_of e))
part-words zero e h = omega arith
part-words (suc n) e h = omega (arith, h, length-take n (five_of e))

-- what four tests say, each
each_of : (t u v w : Bool) → (t && (u && (v && w))) ≡ true → (t ≡ true) × (u ≡ true) × (v ≡ true) × (w ≡ true)
each_of t u v w e = (and_left t (u && (v && w)) e, and_left u (v && w) (and_right t (u && (v && w)) e), and_left v w (and_right u (v && w) (and_right t (u && (v && w)) e)), and_right v w (and_right u (v && w) (and_right t (u && (v && w)) e)))

-- words that may be a reader's stand where one may
may-stands : (words : List ℕ) → may_read words ≡ true → Stands (state_in words)
unfolding may_read stands
may-stands words e =
    let here = stands (word_at words 0) (word_at words 1) (word_at words 2) (word_at words 3) (word_at words 4) in
    let h : here ≡ true = and_left here (is_reason (word_at words 10)) e in
    let t = each_of (leb (word_at words 1) groups_before) (leb (word_at words 1) (word_at words 0)) (ltb (word_at words 2) (group_size ^ word_at words 1))
    (leb (word_at words 3) (length (fields_of (word_at words 4)))) h in
    record {
      few = leb-true (word_at words 1) groups_before t.0;
      within = leb-true (word_at words 1) (word_at words 0) t.1;
      small = ltb-true (word_at words 2) (group_size ^ word_at words 1) t.2;
      part = part-words (word_at words 3) (entry_from words 4) (leb-true (word_at words 3) (length (fields_of (word_at words 4))) t.3);
      known = and_right here (is_reason (word_at words 10)) e;
    }

-- words of a reader stand for one
reader-stands : (words : List ℕ) → is_reader words ≡ true → Stands (state_in words)
unfolding is_reader
reader-stands words e = may-stands words (and_right (eqb (length words) reader_words) (may_read words) e)

-- and the words of one that stands there are a reader's
stands-words : (st : State) → Stands st → is_reader (words_of_state st) ≡ true
unfolding is_reader may_read stands
stands-words st h =
    rw (
      le-leb st.groups groups_before h.few,
      le-leb st.groups st.at h.within,
      lt-ltb st.sum (group_size ^ st.groups) h.small,
      le-leb (length st.numbers) (length (fields_of (get_or st.numbers 0 0))) h.part,
      h.known,
    )

-- ---- reading keeps it

-- what a number makes of an entry
abbrev Kept : Entered → Type 0
Kept (growing ns) = Part ns
Kept (whole ns) = Unit {0}
Kept (improper reason) = is_reason reason ≡ true

-- an entry that is taken on
kept_more : (kind : ℕ) (fields : List ℕ) → length fields ≤ length (fields_of kind) → (t : Bool) → eqb (length fields) (length (fields_of kind)) ≡ t
    → Kept (cond t (whole (kind ∷ fields)) (growing (kind ∷ fields)))
kept_more kind fields h true e = tt
kept_more kind fields h false e = omega (arith, eqb-false (length fields) (length (fields_of kind)) e)

-- any number
number-kept : (ns : List ℕ) (n : ℕ) → Part ns → Kept (number_in ns n)
unfolding number_in is_whole is_reason
number-kept [] n h = cond_both Kept (is_kind n) _ _ (kept_more n [] (omega arith) (eqb 0 (length (fields_of n))) refl) refl
number-kept (kind ∷ fields) n h =
    cond_both Kept (leb n (most kind fields)) _ _
    (kept_more kind (fields ++ n ∷ []) (omega (arith, h, length-next fields n)) (eqb (length (fields ++ n ∷ [])) (length (fields_of kind))) refl) refl

-- a byte that is refused is so for a reason of a reader's
abbrev Known : Taken → Type 0
Known (More sum) = Unit {0}
Known (Whole n) = Unit {0}
Known (Wrong reason) = is_reason reason ≡ true

-- so it is of any byte
byte-known : (g s b : ℕ) → Known (take_byte g s b)
unfolding take_byte is_reason
byte-known g s b =
    cond_both Known (eqb g groups_before && ltb 1 b) _ _ refl
    (cond_both Known (leb group_size b) _ _ tt (cond_both Known (not (eqb g 0) && eqb b 0) _ _ refl tt))

module _ (st : State) (h : Stands st) where
  -- after the last group of a number
  number-stands : (x : Entered) → Kept x → Stands (stepped (numbered st x))
  unfolding is_reason
  number-stands (growing ns) k = record { few = omega arith; within = omega arith; small = omega arith; part = k; known = refl }
  number-stands (whole ns) k = record { few = omega arith; within = omega arith; small = omega arith; part = omega arith; known = refl }
  number-stands (improper reason) k = record { few = h.few; within = h.within; small = h.small; part = h.part; known = k }

  -- after a byte that was taken or refused
  taken-stands : (b : ℕ) (x : Taken) → take_byte st.groups st.sum b ≡ x → Known x → Stands (stepped (taken st x))
  unfolding is_reason
  taken-stands b (More sum) e k =
      let m = more-groups st.groups st.sum b sum h.few h.small e in
      record { few = m.0; within = omega (arith, h.within); small = m.1; part = h.part; known = refl }
  taken-stands b (Whole n) e k = number-stands (number_in st.numbers n) (number-kept st.numbers n h.part)
  taken-stands b (Wrong reason) e k = record { few = h.few; within = h.within; small = h.small; part = h.part; known = k }

  -- after any byte
  byte-stands : (b : ℕ) → Stands (stepped (byte_in st b))
  unfolding byte_in
  byte-stands b =
      cond_both (λ (s : Step). Stands (stepped s)) (is_yes st.reason) (on st) _ h
      (taken-stands b (take_byte st.groups st.sum b) refl (byte-known st.groups st.sum b))

-- a step, and what is read after it
step-stands : (s : Step) (x : Reading) → Stands x.after → Stands (step_first s x).after
step-stands (on st) x h = h
step-stands (gives e st) x h = h

-- after bytes
into-stands : (room : ℕ) (st : State) (bs : List ℕ) → Stands st → Stands (read_into room st bs).after
unfolding read_into
into-stands room st [] h = h
into-stands room st (b ∷ bs) h =
    cond_both (λ (x : Reading). Stands x.after) (eqb room 0) _ _ h
    (step-stands (byte_in st b) _ (into-stands (room_after room (byte_in st b)) (stepped (byte_in st b)) bs (byte-stands st h b)))

-- ---- its words

-- up to six numbers are told by six words
six-words : (ns : List ℕ) → length ns ≤ 6
    → take (length ns) (get_or ns 0 0 ∷ get_or ns 1 0 ∷ get_or ns 2 0 ∷ get_or ns 3 0 ∷ get_or ns 4 0 ∷ get_or ns 5 0 ∷ []) ≡ ns
six-words [] h = refl
six-words (a ∷ []) h = refl
six-words (a ∷ b ∷ []) h = refl
six-words (a ∷ b ∷ c ∷ []) h = refl
six-words (a ∷ b ∷ c ∷ d ∷ []) h = refl
six-words (a ∷ b ∷ c ∷ d ∷ e ∷ []) h = refl
six-words (a ∷ b ∷ c ∷ d ∷ e ∷ f ∷ []) h = refl
six-words (a ∷ b ∷ c ∷ d ∷ e ∷ f ∷ g ∷ ns) h = absurd (omega (arith, h))

-- so the words of a reader say where it stands
words_back : (st : State) → Stands st → state_in (words_of_state st) ≡ st
words_back st h = rw (six-words st.numbers (omega (arith, h.part, fields-few (get_or st.numbers 0 0))))

-- ---- calls

module _ (words piece entries : List ℕ) where
  -- where the reading ends
  abbrev after : State
  after = (read_into (length entries / entry_words) (state_in words) piece).after

  -- a reader may stand there
  call-stands : is_reader words ≡ true → Stands after
  call-stands e = into-stands (length entries / entry_words) (state_in words) piece (reader-stands words e)

  -- what a call leaves is a reader's
  call-reader : is_reader words ≡ true → is_reader (log_read words piece entries).reader ≡ true
  unfolding log_read laid_from
  call-reader e = cond_both (λ (x : Read). is_reader x.reader ≡ true) (reads_here words piece entries) _ _ (stands-words after (call-stands e)) e

  -- a call that is taken has a reader's words
  taken-reader : reads_here words piece entries ≡ true → is_reader words ≡ true
  unfolding reads_here
  taken-reader e = and_left (is_reader words) _ e

  -- and leaves those of where the reading ended
  call_back : reads_here words piece entries ≡ true → state_in (log_read words piece entries).reader ≡ after
  unfolding log_read laid_from
  call_back e = rw e (words_back after (call-stands (taken-reader e)))

-- fresh words
fresh-reader : is_reader fresh_words ≡ true
unfolding is_reader may_read is_reason fields_of stands
fresh-reader = refl

-- six words are written as their entry
words-written : (e : Entry) (bytes : List ℕ) → log_write (words_of e) bytes ≡ write_entry e bytes
unfolding log_write write_entry
words-written e bytes = refl

pub words-stand : WordsStand
words-stand = record {
  fresh_reads = fresh-reader;
  fresh_stands = refl;
  stays = call-reader;
  stands = call_back;
  writes = words-written;
}
