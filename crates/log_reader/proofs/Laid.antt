-- Entries laid out in a list by six words each, and reading on from any of them.
use Prim.Native.Nat.{ℕ, zero, suc, ◌+◌, ◌*◌, ◌-◌, ◌/◌, ◌<◌, ◌≤◌}
use mathlib.Core.Path.{◌≡◌, ◌∙◌, refl, sym, ap}
use mathlib.Core.Bool.{Bool, true, false, not, ◌&&◌, cond}
use mathlib.Core.List.{List, [], ◌∷◌}
use native.Mathlib.Numerals.{add-one}
use native.Mathlib.Omega.{arith}
use lib.Dec.{eqb, ltb, eqb-suc-zero}
use lib.ListN.{length, get_or, set, take, drop, drop_of_length-le}
use lib.Seq.{drop-cons}
use borrow.Author.Tests.{ne_eqb, eqb-false, ltb-true, ltb-false}
use Rattle.board.specs.Lists.{is_yes, splice}
use Rattle.board.proofs.Bools.{clash}
use Rattle.board.proofs.Lists.{length-splice}
use Rattle.log_entries.specs.Entries.{entry_words, fields_of, five_of, words_of, six_of}
use Rattle.log_entries.specs.declared.Entry.{Entry}
use Rattle.log_reader.specs.Reading.{State, state, fresh, Step, on, gives, Reading, reading, byte_in, stepped, step_first, room_after, read_into, is_between, reason_of, place_of}
use Rattle.log_reader.specs.Readers.{state_of, Readable, Turned, sixes, laid, laid_from, laid_left, put_step, given_after}
use Rattle.log_reader.specs.declared.Reader.{Reader}

-- ---- six words

-- six words put one after another
pub six-put : (list : List ℕ) (at a b c d e f : ℕ)
    → set (set (set (set (set (set list at a) (at + 1) b) (at + 2) c) (at + 3) d) (at + 4) e) (at + 5) f ≡ splice list at (a ∷ b ∷ c ∷ d ∷ e ∷ f ∷ [])
unfolding splice
six-put list at a b c d e f =
    let a₁ : at + 1 ≡ suc at = omega arith in
    let a₂ : at + 2 ≡ suc (suc at) = omega arith in
    let a₃ : at + 3 ≡ suc (suc (suc at)) = omega arith in
    let a₄ : at + 4 ≡ suc (suc (suc (suc at))) = omega arith in
    let a₅ : at + 5 ≡ suc (suc (suc (suc (suc at)))) = omega arith in
    rw (a₁, a₂, a₃, a₄, a₅)

-- six words are all of a list of six
pub six-all : (l : List ℕ) → length l ≡ 6 → six_of l ≡ l
six-all (a ∷ b ∷ c ∷ d ∷ e ∷ f ∷ []) h = refl
six-all [] h = absurd (omega (arith, h))
six-all (a ∷ []) h = absurd (omega (arith, h))
six-all (a ∷ b ∷ []) h = absurd (omega (arith, h))
six-all (a ∷ b ∷ c ∷ []) h = absurd (omega (arith, h))
six-all (a ∷ b ∷ c ∷ d ∷ []) h = absurd (omega (arith, h))
six-all (a ∷ b ∷ c ∷ d ∷ e ∷ []) h = absurd (omega (arith, h))
six-all (a ∷ b ∷ c ∷ d ∷ e ∷ f ∷ g ∷ l) h = absurd (omega (arith, h))

-- ---- reading on

-- a reader that waits for the header
pub fresh-is : (e : Entry) → words_of e ≡ 0 ∷ 0 ∷ 0 ∷ 0 ∷ 0 ∷ 0 ∷ [] → state 0 0 0 (take 1 (words_of e)) 0 ≡ fresh
fresh-is e w = let k : e.kind ≡ 0 = ap (λ (l : List ℕ). get_or l 0 0) w in rw k

pub fresh-fields : (e : Entry) → words_of e ≡ 0 ∷ 0 ∷ 0 ∷ 0 ∷ 0 ∷ 0 ∷ [] → 1 ≤ length (fields_of e.kind)
unfolding fields_of
fresh-fields e w = let k : e.kind ≡ 0 = ap (λ (l : List ℕ). get_or l 0 0) w in rw k (omega arith)

-- there is room for the words of one more entry
pub room-words : (given n : ℕ) → given < n / entry_words → entry_words * given + entry_words ≤ n
room-words given n h = omega (arith, h)

-- an entry first, then the others
pub laid_more : (list : List ℕ) (given : ℕ) (e : List ℕ) (x : Reading)
    → laid_from list given (reading (e ∷ x.entries) x.after) ≡ laid_from (splice list (entry_words * given) (six_of e)) (given + 1) x
unfolding laid_from sixes splice
laid_more list given e x =
    let a : suc (suc (suc (suc (suc (suc (entry_words * given)))))) ≡ entry_words * (given + 1) = omega arith in
    let b : given + suc (length x.entries) ≡ given + 1 + length x.entries = omega arith in
    rw (a, b)

-- one byte of what is left, with room for an entry
module _ (list : List ℕ) (given : ℕ) (st : State) (bytes : List ℕ) (from : ℕ) (s : Step)
    (inside : from < length bytes) (room : given < length list / entry_words) (step : s ≡ byte_in st (get_or bytes from 0)) where
  abbrev left : ℕ
  left = length list / entry_words - given

  byte-read : read_into left st (drop from bytes) ≡ step_first s (read_into (room_after left s) (stepped s) (drop (from + 1) bytes))
  unfolding read_into
  byte-read =
      let n : eqb left 0 ≡ false = ne_eqb left 0 (λ z. absurd (omega (arith, room, z))) in
      rw (drop-cons bytes from 0 inside, n, sym step, add-one from)

  pub turn-same : laid_left list given st (drop from bytes) ≡ laid_left (put_step list given s) (given_after given s) (stepped s) (drop (from + 1) bytes)
  turn-same = ap (laid_from list given) byte-read ∙ go s
    where
      go : (t : Step) → laid_from list given (step_first t (read_into (room_after left t) (stepped t) (drop (from + 1) bytes)))
          ≡ laid_left (put_step list given t) (given_after given t) (stepped t) (drop (from + 1) bytes)
      go (on st₁) = refl
      go (gives e st₁) =
          laid_more list given e (read_into (left - 1) st₁ (drop (from + 1) bytes))
          ∙ ap (λ (k : ℕ). laid_from (splice list (entry_words * given) (six_of e)) (given + 1) (read_into k st₁ (drop (from + 1) bytes))) kept
        where
          kept : left - 1 ≡ length (splice list (entry_words * given) (six_of e)) / entry_words - (given + 1)
          kept = rw (length-splice list (entry_words * given) (six_of e)) (omega arith)

-- a byte's step, by the reader after it
pub turned : (list list₁ : List ℕ) (given given₁ : ℕ) (r x : Reader) (bytes : List ℕ) (from : ℕ) (s : Step)
    → Readable r → from < length bytes → given < length list / entry_words → s ≡ byte_in (state_of r) (get_or bytes from 0)
    → stepped s ≡ state_of x → Readable x → x.at ≤ r.at + 1 → list₁ ≡ put_step list given s → given₁ ≡ given_after given s
    → Turned r.at from (length bytes) (from + 1) x (laid_left list given (state_of r) (drop from bytes)) (laid_left list₁ given₁ (state_of x) (drop (from + 1) bytes))
turned list list₁ given given₁ r x bytes from s h inside room e stands readable near p q =
    record {
      same = turn-same list given (state_of r) bytes from s inside room e ∙ rw (sym p, sym q, stands);
      readable = readable;
      further = omega arith;
      inside = omega (arith, inside);
      taken = omega (arith, near);
    }

-- ---- the end

-- a reader that has refused takes nothing
refused-read : (room : ℕ) (st : State) (bytes : List ℕ) → (st.reason ≡ 0 → ⊥) → read_into room st bytes ≡ reading [] st
unfolding read_into byte_in
refused-read room st [] h = refl
refused-read room st (b ∷ bs) h = go (eqb room 0) (refused-read room st bs h)
  where
    yes : is_yes st.reason ≡ true
    yes = rw (ne_eqb st.reason 0 h)

    go : (t : Bool) → read_into room st bs ≡ reading [] st
        → cond t (reading [] st) (step_first (byte_in st b) (read_into (room_after room (byte_in st b)) (stepped (byte_in st b)) bs)) ≡ reading [] st
    go true r = refl
    go false r = rw yes r

-- nor does one without room, or without bytes
full-read : (room : ℕ) (st : State) (bytes : List ℕ) → room ≡ 0 → read_into room st bytes ≡ reading [] st
unfolding read_into
full-read room st [] z = refl
full-read room st (b ∷ bs) z = rw z

ended-read : (room : ℕ) (st : State) → read_into room st [] ≡ reading [] st
unfolding read_into
ended-read room st = refl

-- nothing is left to be read: the piece, the room, or the log's right bytes are used up
pub read_done : (list bytes : List ℕ) (given from : ℕ) (st : State) → (ltb from (length bytes) && ltb given (length list / entry_words) && eqb st.reason 0) ≡ false
    → laid list given st ≡ laid_left list given st (drop from bytes)
unfolding laid_from splice sixes
read_done list bytes given from st e = none ∙ ap (laid_from list given) (sym (go (ltb from (length bytes)) (ltb given (length list / entry_words)) (eqb st.reason 0) refl refl refl e))
  where
    go : (t u v : Bool) → ltb from (length bytes) ≡ t → ltb given (length list / entry_words) ≡ u → eqb st.reason 0 ≡ v → (t && u && v) ≡ false
        → read_into (length list / entry_words - given) st (drop from bytes) ≡ reading [] st
    go true true true p q r x = clash true refl x
    go true true false p q r x = refused-read (length list / entry_words - given) st (drop from bytes) (eqb-false st.reason 0 r)
    go true false v p q r x = full-read (length list / entry_words - given) st (drop from bytes) (omega (arith, ltb-false given (length list / entry_words) q))
    go false u v p q r x = rw (drop_of_length-le bytes {i = from} (ltb-false from (length bytes) p)) (ended-read (length list / entry_words - given) st)

    none : laid list given st ≡ laid_from list given (reading [] st)
    none = let a : given + 0 ≡ given = omega arith in rw a

-- at the start nothing is there
pub laid-start : (list : List ℕ) (st : State) (bytes : List ℕ) → laid_left list 0 st (drop 0 bytes) ≡ laid_from list 0 (read_into (length list / entry_words) st bytes)
laid-start list st bytes = let a : length list / entry_words - 0 ≡ length list / entry_words = omega arith in rw a

-- the loop's test, part by part
pub and_first : (t u v : Bool) → (t && u && v) ≡ true → (t ≡ true) × (u ≡ true) × (v ≡ true)
and_first true true true e = (refl, refl, refl)
and_first true true false e = clash false e refl
and_first true false v e = clash false e refl
and_first false u v e = clash false e refl

-- the room is that of the list, whose length stays
pub turn-room : (given n₀ : ℕ) (l : List ℕ) → length l ≡ n₀ → ltb given (n₀ / entry_words) ≡ true → given < length l / entry_words
turn-room given n₀ l e t = rw e (ltb-true given (n₀ / entry_words) t)

pub turn-ends : (t v : Bool) (given n₀ : ℕ) (l : List ℕ) → length l ≡ n₀ → (t && ltb given (n₀ / entry_words) && v) ≡ false → (t && ltb given (length l / entry_words) && v) ≡ false
turn-ends t v given n₀ l e x = rw e x

-- ---- between entries, and the end of a log

-- no number of the entry is there
count_none : (e : Entry) (count : ℕ) → eqb (length (take count (words_of e))) 0 ≡ eqb count 0
count_none e zero = refl
count_none e (suc n) = eqb-suc-zero (length (take n (five_of e))) ∙ sym (eqb-suc-zero n)

pub between_is : (r : Reader) → (eqb r.groups 0 && eqb r.count 0) ≡ is_between (state_of r)
unfolding is_between
between_is r = rw (count_none r.entry r.count)

module _ (r : Reader) where
  pub reason-refused : (ended : Bool) → (r.reason ≡ 0 → ⊥) → r.reason ≡ reason_of (state_of r) ended
  unfolding reason_of
  reason-refused ended h = rw (ne_eqb r.reason 0 h)

  pub reason-cut : (ended between : Bool) → between ≡ is_between (state_of r) → (r.reason ≡ 0) → (ended && not between) ≡ true → 4 ≡ reason_of (state_of r) ended
  unfolding reason_of
  reason-cut ended between b z e = rw (sym b, z, e)

  pub reason-none : (ended between : Bool) → between ≡ is_between (state_of r) → (r.reason ≡ 0) → (ended && not between) ≡ false → 0 ≡ reason_of (state_of r) ended
  unfolding reason_of
  reason-none ended between b z e = rw (sym b, z, e)

  pub place-number : (r.reason ≡ 0 → ⊥) → r.at - r.groups ≡ place_of (state_of r)
  unfolding place_of
  place-number h = rw (ne_eqb r.reason 0 h)

  pub place_end : r.reason ≡ 0 → r.at ≡ place_of (state_of r)
  unfolding place_of
  place_end z = rw z
