-- A reader's words: which are a reader's, and that the reader after a call is one again.
use Prim.Native.Nat.{ℕ, ◌+◌, ◌*◌, ◌-◌, ◌/◌, ◌%◌, ◌^◌, ◌<◌, ◌≤◌}
use mathlib.Core.Path.{◌≡◌, ◌∙◌, refl, sym, ap}
use mathlib.Core.Bool.{Bool, true, false, ◌&&◌, ◌||◌, cond}
use mathlib.Core.List.{List}
use native.Mathlib.Omega.{arith}
use lib.Dec.{eqb, ltb, leb}
use lib.ListN.{length}
use borrow.Author.Tests.{eq-eqb, eqb-true, eqb-false, ne_eqb, le-leb, lt-leb, lt-ltb, le-ltb, leb-true, ltb-true}
use Rattle.board.proofs.Bools.{clash, and_left}
use Rattle.log_numbers.specs.Numbers.{group_size, groups_before, number_end}
use Rattle.log_numbers.specs.Takes.{number_of}
use Rattle.log_numbers.specs.declared.Reason.{Reason}
use Rattle.log_numbers.specs.declared.Reason.TheVariants.{Misfit, Padded, Tenth, Cut, Kind, Field}
use Rattle.log_entries.specs.Entries.{fields_of, entry_words, entry_from}
use Rattle.log_entries.specs.declared.Entry.{Entry}
use Rattle.log_reader.specs.Reading.{State, read_into, reason_of, place_of}
use Rattle.log_reader.specs.Readers.{state_of, Readable, laid, laid_from}
use Rattle.log_reader.specs.declared.Reader.{Reader}
use Rattle.log_writer.specs.Writing.{write_entry, written, wrote, entry_bytes}
use Rattle.oaledva_log.specs.States.{reader_words, word_at, state_in, words_of_state, is_reason, stands, may_read, is_reader, read, read_as, reads_here, log_read, log_reason, log_place, no_entries, wrote_in, log_write}

-- ---- why a reader may have refused

-- for no log that hasn't ended
pub reason-misfit : (word : ℕ) (e : Reason) → number_of e ≡ word → e ≡ Misfit → false ≡ is_reason word
unfolding is_reason
reason-misfit word e h m = rw (sym h, m)

pub reason-cut : (word : ℕ) (e : Reason) → number_of e ≡ word → e ≡ Cut → false ≡ is_reason word
unfolding is_reason
reason-cut word e h m = rw (sym h, m)

-- for one
known : (e : Reason) → (e ≡ Misfit → ⊥) → (e ≡ Cut → ⊥) → true ≡ is_reason (number_of e)
unfolding is_reason
known Misfit m c = absurd (m refl)
known Padded m c = refl
known Tenth m c = refl
known Cut m c = absurd (c refl)
known Kind m c = refl
known Field m c = refl

pub reason-known : (word : ℕ) (e : Reason) → number_of e ≡ word → (e ≡ Misfit → ⊥) → (e ≡ Cut → ⊥) → true ≡ is_reason word
reason-known word e h m c = rw (sym h) (known e m c)

-- a number that is no reason's: none at all, or one that no log has
pub reason-large : (word : ℕ) → (1 ≤ word → 6 < word) → eqb word 0 ≡ is_reason word
unfolding is_reason
reason-large word h = go (eqb word 0) refl
  where
    go : (t : Bool) → eqb word 0 ≡ t → t ≡ (t || (eqb word 2 || (eqb word 3 || (eqb word 5 || eqb word 6))))
    go true e = refl
    go false e =
        let l : 6 < word = h (omega (arith, eqb-false word 0 e)) in
        rw (ne_eqb word 2 (omega arith), ne_eqb word 3 (omega arith), ne_eqb word 5 (omega arith), ne_eqb word 6 (omega arith))

-- ---- what a reader may be

-- what four tests say, each
each_of : (t u v w : Bool) → (t && (u && (v && w))) ≡ true → (t ≡ true) × (u ≡ true) × (v ≡ true) × (w ≡ true)
each_of true true true true e = (refl, refl, refl, refl)
each_of true true true false e = clash false e refl
each_of true true false w e = clash false e refl
each_of true false v w e = clash false e refl
each_of false u v w e = clash false e refl

module _ (at groups sum count kind : ℕ) where
  pub may-not : groups_before < groups → false ≡ stands at groups sum count kind
  unfolding stands
  may-not h = rw (lt-leb groups groups_before h)

  pub may : (end fields : ℕ) → groups ≤ groups_before → end ≡ group_size ^ groups → fields ≡ length (fields_of kind)
      → (leb groups at && (ltb sum end && leb count fields)) ≡ stands at groups sum count kind
  unfolding stands
  may end fields h w f = rw (le-leb groups groups_before h, w, f)

-- a reader that may be is one that came about by reading
pub may-readable : (r : Reader) → stands r.at r.groups r.sum r.count r.entry.kind ≡ true → Readable r
unfolding stands
may-readable r e =
    let t = each_of (leb r.groups groups_before) (leb r.groups r.at) (ltb r.sum (group_size ^ r.groups)) (leb r.count (length (fields_of r.entry.kind))) e in
    record {
      few = leb-true r.groups groups_before t.0;
      within = leb-true r.groups r.at t.1;
      small = ltb-true r.sum (group_size ^ r.groups) t.2;
      fields = leb-true r.count (length (fields_of r.entry.kind)) t.3;
    }

-- words that are too few or too many, and words that may be no reader's
module _ (words : List ℕ) where
  pub not-eleven : (length words ≡ reader_words → ⊥) → is_reader words ≡ false
  unfolding is_reader
  not-eleven h = rw (ne_eqb (length words) reader_words h)

  pub words-may-not : length words ≡ reader_words
      → (stands (word_at words 0) (word_at words 1) (word_at words 2) (word_at words 3) (word_at words 4) && is_reason (word_at words 10)) ≡ false
      → is_reader words ≡ false
  unfolding is_reader may_read
  words-may-not e h = rw (eq-eqb (length words) reader_words e) h

  -- a reader's words are eleven
  pub eleven : is_reader words ≡ true → length words ≡ reader_words
  unfolding is_reader
  eleven e = eqb-true (length words) reader_words (and_left (eqb (length words) reader_words) (may_read words) e)

  pub words-may : length words ≡ reader_words
      → (stands (word_at words 0) (word_at words 1) (word_at words 2) (word_at words 3) (word_at words 4) && is_reason (word_at words 10)) ≡ true
      → is_reader words ≡ true
  unfolding is_reader may_read
  words-may e h = rw (eq-eqb (length words) reader_words e) h

-- ---- its words

-- ---- a call that reads

module _ (words piece entries : List ℕ) where
  pub not-reader : is_reader words ≡ false → read no_entries words entries ≡ log_read words piece entries
  unfolding log_read reads_here
  not-reader e = rw e

  module _ (r : Reader) (yes : is_reader words ≡ true) (is : state_of r ≡ state_in words) (small : r.at < number_end) where
    same_at : r.at ≡ word_at words 0
    same_at = ap (λ (st : State). st.at) is

    pub read-long : number_end - 1 - r.at < length piece → read no_entries words entries ≡ log_read words piece entries
    unfolding log_read reads_here
    read-long h = rw (yes, le-ltb (word_at words 0 + length piece) number_end (omega (arith, small, h, same_at)))

    pub read-uneven : (length entries % entry_words ≡ 0 → ⊥) → read no_entries words entries ≡ log_read words piece entries
    unfolding log_read reads_here
    read-uneven h = rw (yes, ne_eqb (length entries % entry_words) 0 h) (none (ltb (word_at words 0 + length piece) number_end))
      where
        none : (t : Bool) → read no_entries words entries ≡ cond (t && false) (read_as (laid_from entries 0 (read_into (length entries / entry_words) (state_in words) piece))) (read no_entries words entries)
        none true = refl
        none false = refl

    pub read_done : (given : ℕ) (words₁ entries₁ : List ℕ) (x : Reader) → length piece ≤ number_end - 1 - r.at → length entries % entry_words ≡ 0
        → laid entries₁ given (state_of x) ≡ laid_from entries 0 (read_into (length entries / entry_words) (state_of r) piece) → words₁ ≡ words_of_state (state_of x)
        → read given words₁ entries₁ ≡ log_read words piece entries
    unfolding log_read reads_here
    read_done given words₁ entries₁ x h m l w =
        rw (yes, lt-ltb (word_at words 0 + length piece) number_end (omega (arith, small, h, same_at)), eq-eqb (length entries % entry_words) 0 m, w)
        (ap read_as l ∙ ap (λ (st : State). read_as (laid_from entries 0 (read_into (length entries / entry_words) st piece))) is)

-- ---- why and where

module _ (words : List ℕ) where
  pub reason-wild : (ended : Bool) → is_reader words ≡ false → 1 ≡ log_reason words ended
  unfolding log_reason
  reason-wild ended h = rw h

  pub place-wild : is_reader words ≡ false → 0 ≡ log_place words
  unfolding log_place
  place-wild h = rw h

  module _ (r : Reader) (yes : is_reader words ≡ true) (is : state_of r ≡ state_in words) where
    pub reason-told : (ended : Bool) (n : ℕ) → n ≡ reason_of (state_of r) ended → n ≡ log_reason words ended
    unfolding log_reason
    reason-told ended n x = rw yes (x ∙ ap (λ (st : State). reason_of st ended) is)

    pub place-told : (n : ℕ) → n ≡ place_of (state_of r) → n ≡ log_place words
    unfolding log_place
    place-told n x = rw yes (x ∙ ap place_of is)

-- ---- a call that writes

-- a result is read off its number
number_read : (reason amount : ℕ) → reason ≤ 6 → amount ≤ entry_bytes → wrote_in (reason * 4294967296 + amount) ≡ wrote reason amount
unfolding wrote_in
number_read reason amount h l =
    let a : (reason * 4294967296 + amount) / 4294967296 ≡ reason = omega (arith, h, l) in
    let b : (reason * 4294967296 + amount) % 4294967296 ≡ amount = omega (arith, h, l) in
    rw (a, b)

module _ (words bytes : List ℕ) where
  pub write-misfit : (length words ≡ entry_words → ⊥) → written (wrote_in 4294967296) bytes ≡ log_write words bytes
  unfolding log_write wrote_in
  write-misfit h = rw (ne_eqb (length words) entry_words h)

  pub write-told : (e : Entry) (reason amount n : ℕ) (bytes₁ : List ℕ) → length words ≡ entry_words → e ≡ entry_from words 0
      → written (wrote reason amount) bytes₁ ≡ write_entry e bytes → reason ≤ 6 → amount ≤ entry_bytes → n ≡ reason * 4294967296 + amount
      → written (wrote_in n) bytes₁ ≡ log_write words bytes
  unfolding log_write
  write-told e reason amount n bytes₁ l is p few room z = rw (z, eq-eqb (length words) entry_words l, number_read reason amount few room, sym is) p
