-- A log in pieces, cut anywhere, with any room: the entries, the reason and the place are those of the whole log. A byte that is taken moves the
-- reader on by one; one that isn't leaves it refused, and then no byte changes anything.
use Prim.Native.Nat.{ℕ, zero, suc, ◌+◌, ◌*◌, ◌-◌, ◌%◌, ◌^◌, ◌<◌, ◌≤◌}
use mathlib.Core.Path.{◌≡◌, ◌∙◌, refl, sym, ap}
use mathlib.Core.Bool.{Bool, true, false, not, ◌&&◌, cond}
use mathlib.Core.Logic.{◌≢◌, ◌⊎◌, inl, inr}
use mathlib.Core.List.{List, [], ◌∷◌, ◌++◌, append-nil, append_assoc}
use native.Mathlib.Omega.{arith}
use lib.ListN.{length, take, drop}
use lib.Seq.{take_at, drop_at}
use lib.Dec.{eqb, ltb, leb}
use borrow.Author.Tests.{ne_eqb, eqb-true, eqb-false, not-true}
use Rattle.board.specs.Lists.{is_yes}
use Rattle.board.proofs.Bools.{cond_both}
use Rattle.log_numbers.specs.Numbers.{group_size, groups_before, take_byte}
use Rattle.log_numbers.specs.Reasons.{reason_none, reason_padded, reason_tenth, reason_kind, reason_field}
use Rattle.log_numbers.specs.Numbers.{More, Whole, Wrong}
use Rattle.log_entries.specs.Entries.{growing, whole, improper, number_in, is_kind, is_whole, most}
use Rattle.log_reader.specs.Reading.{State, fresh, Step, on, gives, numbered, taken, byte_in, Reading, reading, step_first, stepped, room_after, read_all, read_into, read_log, as_log, reason_of}
use Rattle.log_promises.specs.Pieces.{Piece, Fed, in_pieces, joined, ample, fed_log, PiecesAreWhole}

-- ---- a byte

-- a byte is taken, with or without a whole entry, or it isn't and the reader is refused then
data Steps (st : State) : Step → Type 0 where
  takes : (st' : State) → st'.at ≡ suc st.at → Steps st (on st')
  ends : (e : List ℕ) (st' : State) → st'.at ≡ suc st.at → Steps st (gives e st')
  stops : (st' : State) → st'.at ≡ st.at → is_yes st'.reason ≡ true → Steps st (on st')

module _ (st : State) where
  -- the last group of a number, by the tests on the number: no refusal has the reason 0
  number-tests : (t u : Bool) (ns : List ℕ) (r : ℕ) → is_yes r ≡ true → Steps st (numbered st (cond t (cond u (whole ns) (growing ns)) (improper r)))
  number-tests true true ns r e = ends _ _ refl
  number-tests true false ns r e = takes _ refl
  number-tests false u ns r e = stops _ refl e

  -- the last group of a number
  number-steps : (ns : List ℕ) (n : ℕ) → Steps st (numbered st (number_in ns n))
  unfolding number_in
  number-steps [] n = number-tests (is_kind n) (is_whole n []) (n ∷ []) reason_kind refl
  number-steps (kind ∷ fields) n =
      number-tests (leb n (most kind fields)) (is_whole kind (fields ++ n ∷ [])) (kind ∷ (fields ++ n ∷ [])) reason_field refl

  -- a byte in a reader that hasn't refused, by the tests on the byte
  byte-tests : (t u v : Bool) (sum n : ℕ) → Steps st (taken st (cond t (Wrong reason_tenth) (cond u (More sum) (cond v (Wrong reason_padded) (Whole n)))))
  byte-tests true u v sum n = stops _ refl refl
  byte-tests false true v sum n = takes _ refl
  byte-tests false false true sum n = stops _ refl refl
  byte-tests false false false sum n = number-steps st.numbers n

  -- any byte
  byte-steps : (b : ℕ) → Steps st (byte_in st b)
  unfolding byte_in take_byte
  byte-steps b = go (is_yes st.reason) refl
    where
      go : (t : Bool) → is_yes st.reason ≡ t → Steps st (cond t (on st) (taken st (take_byte st.groups st.sum b)))
      go true e = stops st refl e
      go false e =
          byte-tests (eqb st.groups groups_before && ltb 1 b) (leb group_size b) (not (eqb st.groups 0) && eqb b 0)
          (st.sum + b % group_size * group_size ^ st.groups) (st.sum + b * group_size ^ st.groups)

-- a reader that has refused stays: after a byte
refused-byte : (st : State) (b : ℕ) → is_yes st.reason ≡ true → byte_in st b ≡ on st
unfolding byte_in
refused-byte st b e = rw e

-- after bytes
refused_all : (st : State) (bs : List ℕ) → is_yes st.reason ≡ true → read_all st bs ≡ reading [] st
unfolding read_all
refused_all st [] e = refl
refused_all st (b ∷ bs) e = rw (refused-byte st b e, refused_all st bs e)

-- after bytes, with any room
refused-into : (room : ℕ) (st : State) (bs : List ℕ) → is_yes st.reason ≡ true → read_into room st bs ≡ reading [] st
unfolding read_into
refused-into room st [] e = refl
refused-into room st (b ∷ bs) e =
    rw (refused-byte st b e, refused-into room st bs e) (cond_both (λ (x : Reading). x ≡ reading [] st) (eqb room 0) (reading [] st) (reading [] st) refl refl)

-- ---- a piece

-- entries, and what is read after them
abbrev read_first : List (List ℕ) → Reading → Reading
read_first es x = reading (es ++ x.entries) x.after

-- what a piece of these bytes gave, from this place on, begins what all of them give: the bytes that weren't taken give the rest
record Begins (place : ℕ) (bs : List ℕ) (x all : Reading) : Type 0 where
  grows : place ≤ x.after.at
  rest : all ≡ read_first x.entries (read_all x.after (drop (x.after.at - place) bs))

-- nothing is taken
begins-none : (place : ℕ) (st : State) (bs : List ℕ) → st.at ≡ place → Begins place bs (reading [] st) (read_all st bs)
begins-none place st bs e =
    let z : st.at - place ≡ 0 = omega arith in
    record { grows = omega arith; rest = rw z }

-- a byte before those of a piece
begins-byte : (place place' b : ℕ) (bs : List ℕ) (x all : Reading) → place' ≡ suc place → Begins place' bs x all → Begins place (b ∷ bs) x all
begins-byte place place' b bs x all e h =
    let z : x.after.at - place ≡ suc (x.after.at - place') = omega (arith, h.grows) in
    record { grows = omega (arith, h.grows); rest = rw z h.rest }

-- an entry before those of a piece
begins-entry : (place : ℕ) (bs e : List ℕ) (x all : Reading) → Begins place bs x all → Begins place bs (read_first (e ∷ []) x) (read_first (e ∷ []) all)
begins-entry place bs e x all h = record { grows = h.grows; rest = ap (read_first (e ∷ [])) h.rest }

-- a byte's step before a piece
begins-step : (st : State) (b : ℕ) (bs part : List ℕ) (room : ℕ) {s : Step} → Steps st s
    → ((room : ℕ) (st' : State) → Begins st'.at bs (read_into room st' part) (read_all st' bs))
    → Begins st.at (b ∷ bs) (step_first s (read_into (room_after room s) (stepped s) part)) (step_first s (read_all (stepped s) bs))
begins-step st b bs part room (takes st' e) h = begins-byte st.at st'.at b bs _ _ e (h room st')
begins-step st b bs part room (ends n st' e) h =
    begins-byte st.at st'.at b bs _ _ e (begins-entry st'.at bs n _ _ (h (room - 1) st'))
begins-step st b bs part room (stops st' e f) h =
    rw (refused-into room st' part f, refused_all st' bs f) (rw (refused_all st' (b ∷ bs) f) at (begins-none st.at st' (b ∷ bs) e))

-- a piece of any length, with any room
piece-begins : (n : ℕ) (bs : List ℕ) (room : ℕ) (st : State) → Begins st.at bs (read_into room st (take n bs)) (read_all st bs)
unfolding read_into read_all
piece-begins zero bs room st = begins-none st.at st bs refl
piece-begins (suc n) [] room st = begins-none st.at st [] refl
piece-begins (suc n) (b ∷ bs) room st =
    cond_both (λ (x : Reading). Begins st.at (b ∷ bs) x (read_all st (b ∷ bs))) (eqb room 0) _ _ (begins-none st.at st (b ∷ bs) refl)
    (begins-step st b bs (take n bs) room (byte-steps st b) (piece-begins n bs))

-- why a call stopped: its piece is used up; or its room is full, and that before the piece's end, since a byte gives one entry at most; or the log is refused
data Stopped (room : ℕ) (st : State) (bs : List ℕ) (x : Reading) : Type 0 where
  used : x.after.at ≡ st.at + length bs → Stopped room st bs x
  filled : length x.entries ≡ room → room < length bs → Stopped room st bs x
  wrong : is_yes x.after.reason ≡ true → Stopped room st bs x

-- a byte that is taken before it
stopped-byte : (room : ℕ) (st st' : State) (b : ℕ) (bs : List ℕ) (x : Reading) → st'.at ≡ suc st.at → Stopped room st' bs x → Stopped room st (b ∷ bs) x
stopped-byte room st st' b bs x e (used h) = used (omega arith)
stopped-byte room st st' b bs x e (filled h l) = filled h (omega arith)
stopped-byte room st st' b bs x e (wrong h) = wrong h

-- a byte that makes an entry whole before it
stopped-entry : (room : ℕ) (st st' : State) (b : ℕ) (bs n : List ℕ) (x : Reading) → st'.at ≡ suc st.at → 1 ≤ room → Stopped (room - 1) st' bs x
    → Stopped room st (b ∷ bs) (read_first (n ∷ []) x)
stopped-entry room st st' b bs n x e r (used h) = used (omega arith)
stopped-entry room st st' b bs n x e r (filled h l) = filled (omega arith) (omega arith)
stopped-entry room st st' b bs n x e r (wrong h) = wrong h

-- a byte's step before it
stopped-step : (room : ℕ) (st : State) (b : ℕ) (bs : List ℕ) {s : Step} → Steps st s → 1 ≤ room
    → ((room : ℕ) (st' : State) → Stopped room st' bs (read_into room st' bs))
    → Stopped room st (b ∷ bs) (step_first s (read_into (room_after room s) (stepped s) bs))
stopped-step room st b bs (takes st' e) r h = stopped-byte room st st' b bs (read_into room st' bs) e (h room st')
stopped-step room st b bs (ends n st' e) r h = stopped-entry room st st' b bs n (read_into (room - 1) st' bs) e r (h (room - 1) st')
stopped-step room st b bs (stops st' e f) r h = wrong (rw (refused-into room st' bs f) f)

-- a byte before it, by the test on the room
stopped-tests : (b : ℕ) (bs : List ℕ) (room : ℕ) (st : State) → ((room : ℕ) (st' : State) → Stopped room st' bs (read_into room st' bs)) → (t : Bool) → eqb room 0 ≡ t
    → Stopped room st (b ∷ bs) (cond t (reading [] st) (step_first (byte_in st b) (read_into (room_after room (byte_in st b)) (stepped (byte_in st b)) bs)))
stopped-tests b bs room st h true e = let z : room ≡ 0 = eqb-true room 0 e in filled (omega arith) (omega arith)
stopped-tests b bs room st h false e = stopped-step room st b bs (byte-steps st b) (omega (arith, eqb-false room 0 e)) h

-- any call
into-stopped : (bs : List ℕ) (room : ℕ) (st : State) → Stopped room st bs (read_into room st bs)
unfolding read_into
into-stopped [] room st = used (omega arith)
into-stopped (b ∷ bs) room st = stopped-tests b bs room st (into-stopped bs) (eqb room 0) refl

-- the reason of a reader that has refused
refused-reason : (st : State) → is_yes st.reason ≡ true → st.reason ≢ reason_none
refused-reason st f = eqb-false st.reason 0 (not-true _ f)

-- so it stops only there
into-goes-on : (room : ℕ) (st : State) (bs : List ℕ) (x : Reading) → Stopped room st bs x
    → (x.after.at ≡ st.at + length bs) ⊎ ((length x.entries ≡ room) ⊎ (x.after.reason ≢ reason_none))
into-goes-on room st bs x (used h) = inl h
into-goes-on room st bs x (filled h l) = inr (inl h)
into-goes-on room st bs x (wrong h) = inr (inr (refused-reason x.after h))

-- a step's entry has room
few-step : (room : ℕ) (s : Step) (x : Reading) → 1 ≤ room → length x.entries ≤ room_after room s → length (step_first s x).entries ≤ room
few-step room (on st) x r h = h
few-step room (gives e st) x r h = omega arith

-- or there is no room
few-tests : (room : ℕ) (st : State) (s : Step) (x : Reading) → length x.entries ≤ room_after room s → (t : Bool) → eqb room 0 ≡ t
    → length (cond t (reading [] st) (step_first s x)).entries ≤ room
few-tests room st s x h true e = omega arith
few-tests room st s x h false e = few-step room s x (omega (arith, eqb-false room 0 e)) h

-- a call gives no more entries than it has room for
into_few : (room : ℕ) (st : State) (bs : List ℕ) → length (read_into room st bs).entries ≤ room
unfolding read_into
into_few room st [] = omega arith
into_few room st (b ∷ bs) = few-tests room st (byte_in st b) _ (into_few (room_after room (byte_in st b)) (stepped (byte_in st b)) bs) (eqb room 0) refl

-- ---- pieces

-- the bytes that a row of pieces leaves give the rest
pieces-begin : (ps : List Piece) (st : State) (bs : List ℕ)
    → read_all st bs ≡ read_first (in_pieces st bs ps).entries (read_all (in_pieces st bs ps).after (in_pieces st bs ps).left)
unfolding in_pieces
pieces-begin [] st bs = refl
pieces-begin (p ∷ ps) st bs =
    let x = read_into p.room st (take p.bytes bs) in
    (piece-begins p.bytes bs p.room st).rest
    ∙ ap (read_first x.entries) (pieces-begin ps x.after (drop (x.after.at - st.at) bs))
    ∙ rw append_assoc

-- so the pieces are the whole log when those bytes give nothing
pieces_end : (bytes : List ℕ) (ps : List Piece)
    → read_all (in_pieces fresh bytes ps).after (in_pieces fresh bytes ps).left ≡ reading [] (in_pieces fresh bytes ps).after
    → as_log (reading (in_pieces fresh bytes ps).entries (in_pieces fresh bytes ps).after) ≡ read_log bytes
unfolding read_log
pieces_end bytes ps e = sym (ap as_log (pieces-begin ps fresh bytes ∙ rw (e, append-nil)))

-- no bytes give nothing
all_none : (st : State) → read_all st [] ≡ reading [] st
unfolding read_all
all_none st = refl

-- no bytes are left, or the reader has refused
abbrev Done : Fed → Type 0
Done x = (x.left ≡ []) ⊎ (x.after.reason ≢ reason_none)

-- then the pieces are the whole log
pieces-done : (bytes : List ℕ) (ps : List Piece) → Done (in_pieces fresh bytes ps) → fed_log (in_pieces fresh bytes ps) ≡ read_log bytes
pieces-done bytes ps (inl e) = pieces_end bytes ps (rw (e, all_none))
pieces-done bytes ps (inr h) = pieces_end bytes ps (refused_all _ _ (rw (ne_eqb (in_pieces fresh bytes ps).after.reason 0 h)))

-- a reader that has refused stays, after pieces too
refused-pieces : (ps : List Piece) (st : State) (bs : List ℕ) → is_yes st.reason ≡ true → (in_pieces st bs ps).after ≡ st
unfolding in_pieces
refused-pieces [] st bs f = refl
refused-pieces (p ∷ ps) st bs f = rw (refused-into p.room st (take p.bytes bs) f) (refused-pieces ps st _ f)

-- pieces after one with room for an entry of every byte
ample-first : (x rest : List ℕ) (ps : List Piece) (st : State) (r : Reading) → Stopped (length x) st x r → Done (in_pieces r.after rest ps)
    → Done (in_pieces r.after (drop (r.after.at - st.at) (x ++ rest)) ps)
ample-first x rest ps st r (used h) d = let n : length x ≡ r.after.at - st.at = omega arith in rw (drop_at x rest (r.after.at - st.at) n) d
ample-first x rest ps st r (filled h l) d = absurd (omega (arith, l))
ample-first x rest ps st r (wrong h) d = inr (rw (refused-pieces ps r.after (drop (r.after.at - st.at) (x ++ rest)) h) (refused-reason r.after h))

-- such pieces use all bytes up, or the log is refused
ample-done : (xs : List (List ℕ)) (st : State) → Done (in_pieces st (joined xs) (ample xs))
unfolding in_pieces joined ample
ample-done [] st = inl refl
ample-done (x ∷ xs) st =
    rw (take_at x (joined xs) (length x) refl)
    (ample-first x (joined xs) (ample xs) st (read_into (length x) st x) (into-stopped x (length x) st) (ample-done xs (read_into (length x) st x).after))

-- before the end of a log, what the bytes taken show is the reason
before-end : (st : State) → reason_of st false ≡ st.reason
unfolding reason_of
before-end st = go (eqb st.reason 0) refl
  where
    go : (t : Bool) → eqb st.reason 0 ≡ t → cond (not t) st.reason reason_none ≡ st.reason
    go true e = sym (eqb-true st.reason 0 e)
    go false e = refl

pub pieces-are-whole : PiecesAreWhole
pieces-are-whole = record {
  every_cut = λ xs. pieces-done (joined xs) (ample xs) (ample-done xs fresh);
  every_room = pieces-done;
  few = into_few;
  goes_on = λ room st bs. into-goes-on room st bs (read_into room st bs) (into-stopped bs room st);
  not_ended = before-end;
}
