-- The writer writes a call that a log can hold as its bytes, and nothing else: no field is wrong exactly if all of them fit, and six words that fit
-- are those of a call or of a header. What it refuses, it refuses for the first thing that is wrong.
use Prim.Native.Nat.{ℕ, zero, suc, ◌+◌, ◌*◌, ◌-◌, ◌<◌, ◌≤◌}
use mathlib.Core.Path.{◌≡◌, ◌∙◌, refl, sym, ap, ap₂}
use mathlib.Core.Bool.{Bool, true, false, ◌&&◌, cond}
use mathlib.Core.Logic.{◌≢◌}
use mathlib.Core.List.{List, [], ◌∷◌, ◌++◌, append-nil, append_assoc}
use native.Mathlib.Omega.{arith}
use lib.Dec.{eqb, ltb, leb, leb-zero}
use lib.ListN.{length, get_or, take, drop, replicate, length-append, length-take, take-append-drop, get_or-eq_default}
use borrow.Author.Tests.{ltb-true, ltb-false, leb-true, leb-false, lt-ltb, le-ltb}
use Rattle.address.specs.Addresses.{effective, global}
use Rattle.board.specs.Lists.{is_yes, bit, splice}
use Rattle.board.specs.declared.Shape.{Shape}
use Rattle.board.proofs.Bools.{and_left, and_right, cond_both}
use Rattle.log_numbers.proofs.Groups.{groups-room}
use Rattle.log_numbers.specs.Numbers.{groups_before, bytes_of}
use Rattle.log_numbers.specs.Reasons.{reason_none, reason_misfit, reason_kind, reason_field}
use Rattle.log_entries.specs.Entries.{none, fields_by_kind, fields_of, most_of, most, entry_from, five_of, words_of, six_of}
use Rattle.log_entries.specs.declared.Entry.{Entry}
use Rattle.log_writer.specs.Writing.{first_wrong, numbers_of, entry_bytes, wrote, Written, written, by_field, write_entry}
use Rattle.promises.specs.Runs.{Call, user, supervisor, access, attach, detach, map, unmap, protect, move, flush_all, tag, load_and_map, drop_tag}
use Rattle.log_promises.specs.Calls.{entry_of, header_of, fields_fit, entry_fits, header_bytes}
use Rattle.log_promises.specs.Writer.{Holds, call, header, WrongField, WriterIsRight}

-- ---- fields that fit

module _ (kind : ℕ) (before : List ℕ) (n : ℕ) (ns : List ℕ) (h : fields_fit kind before (n ∷ ns) ≡ true) where
  -- the first of fields that fit
  fits-first : n ≤ most kind before
  unfolding fields_fit
  fits-first = leb-true n (most kind before) (and_left (leb n (most kind before)) _ h)

  -- and the rest
  fits-rest : fields_fit kind (before ++ n ∷ []) ns ≡ true
  unfolding fields_fit
  fits-rest = and_right (leb n (most kind before)) _ h

-- zeros fit
zeros-fit : (kind : ℕ) (before : List ℕ) (n : ℕ) → fields_fit kind before (replicate n 0) ≡ true
unfolding fields_fit
zeros-fit kind before zero = refl
zeros-fit kind before (suc n) = rw (leb-zero (most kind before)) (zeros-fit kind (before ++ 0 ∷ []) n)

-- with zeros after them, fields fit as before
fits_more : (kind : ℕ) (before ns : List ℕ) (n : ℕ) → fields_fit kind before (ns ++ replicate n 0) ≡ fields_fit kind before ns
unfolding fields_fit
fits_more kind before [] n = zeros-fit kind before n
fits_more kind before (m ∷ ns) n = ap (λ (t : Bool). leb m (most kind before) && t) (fits_more kind (before ++ m ∷ []) ns n)

-- each field is at most what it may be
fits_each : (kind : ℕ) (before ns : List ℕ) (i : ℕ) → fields_fit kind before ns ≡ true → get_or ns i 0 ≤ most kind (before ++ take i ns)
fits_each kind before [] i h = omega arith
fits_each kind before (n ∷ ns) zero h = rw append-nil (fits-first kind before n ns h)
fits_each kind before (n ∷ ns) (suc i) h = rw append_assoc at (fits_each kind (before ++ n ∷ []) ns i (fits-rest kind before n ns h))

-- what is wrong with fields, by the number of the first that is too large: nothing, or those before it fit and it doesn't
data Wrongs (kind : ℕ) (before ns : List ℕ) : ℕ → Type 0 where
  fit : fields_fit kind before ns ≡ true → Wrongs kind before ns 0
  large : (i j : ℕ) → i ≡ length before + j → j < length ns → fields_fit kind before (take j ns) ≡ true → most kind (before ++ take j ns) < get_or ns j 0
      → Wrongs kind before ns (suc i)

-- with one more before them that fits
wrong-before : (kind : ℕ) (before : List ℕ) (n : ℕ) (ns : List ℕ) {i : ℕ} → leb n (most kind before) ≡ true → Wrongs kind (before ++ n ∷ []) ns i
    → Wrongs kind before (n ∷ ns) i
unfolding fields_fit
wrong-before kind before n ns e (fit f) = fit (rw (e, f))
wrong-before kind before n ns e (large i j q l f g) =
    large i (suc j) (omega (arith, length-append before (n ∷ []))) (omega arith) (rw (e, f)) (rw append_assoc at g)

-- that number is the writer's
wrong_first : (kind : ℕ) (before ns : List ℕ) → Wrongs kind before ns (first_wrong kind before ns)
unfolding first_wrong fields_fit
wrong_first kind before [] = fit refl
wrong_first kind before (n ∷ ns) = go (leb n (most kind before)) refl (wrong_first kind (before ++ n ∷ []) ns)
  where
    go : (t : Bool) {w : ℕ} → leb n (most kind before) ≡ t → Wrongs kind (before ++ n ∷ []) ns w
        → Wrongs kind before (n ∷ ns) (cond t w (suc (length before)))
    go true e h = wrong-before kind before n ns e h
    go false e h = large (length before) 0 (omega arith) (omega arith) refl (rw append-nil (leb-false n (most kind before) e))

-- it is 0 if they fit
wrong-none : (kind : ℕ) (before ns : List ℕ) {i : ℕ} → fields_fit kind before ns ≡ true → Wrongs kind before ns i → i ≡ 0
wrong-none kind before ns h (fit f) = refl
wrong-none kind before ns h (large i j q l f g) = absurd (omega (arith, fits_each kind before ns j h))

-- a field that the kind doesn't have may only be 0
most-none : (kind : ℕ) (before : List ℕ) → length (fields_of kind) ≤ length before → most kind before ≡ 0
unfolding most most_of
most-none kind before h = rw (get_or-eq_default (fields_of kind) none h)

-- so all that come after those that it has are 0
fits-zeros : (kind : ℕ) (before ns : List ℕ) (n : ℕ) → length (fields_of kind) ≤ length before + n → fields_fit kind before ns ≡ true
    → drop n ns ≡ replicate (length (drop n ns)) 0
fits-zeros kind before [] zero l h = refl
fits-zeros kind before [] (suc n) l h = refl
fits-zeros kind before (m ∷ ns) zero l h =
    let z : m ≡ 0 = omega (arith, fits-first kind before m ns h, most-none kind before (omega arith)) in
    ap₂ (λ (a : ℕ) (r : List ℕ). a ∷ r) z (fits-zeros kind (before ++ m ∷ []) ns zero (rw length-append (omega arith)) (fits-rest kind before m ns h))
fits-zeros kind before (m ∷ ns) (suc n) l h =
    fits-zeros kind (before ++ m ∷ []) ns n (rw length-append (omega arith)) (fits-rest kind before m ns h)

-- five that fit: those that the kind has fit, and the others are 0
record Split (kind : ℕ) (five : List ℕ) : Type 0 where
  each : (i : ℕ) → get_or five i 0 ≤ most kind (take i five)
  fits : fields_fit kind [] (take (length (fields_of kind)) five) ≡ true
  words : kind ∷ five ≡ kind ∷ (take (length (fields_of kind)) five ++ replicate (length (drop (length (fields_of kind)) five)) 0)

-- five that fit are split so
fits-split : (kind : ℕ) (five : List ℕ) → fields_fit kind [] five ≡ true → Split kind five
fits-split kind five h =
    let n = length (fields_of kind) in
    let q = sym (take-append-drop n five) ∙ ap (λ (l : List ℕ). take n five ++ l) (fits-zeros kind [] five n (omega arith) h) in
    record {
      each = λ i. fits_each kind [] five i h;
      fits = sym (fits_more kind [] (take n five) (length (drop n five))) ∙ ap (fields_fit kind []) (sym q) ∙ h;
      words = ap (λ (l : List ℕ). kind ∷ l) q;
    }

-- ---- what is written

-- a list's first six as an entry
abbrev entry_on : List ℕ → Entry
entry_on l = entry_from l 0

-- an entry of a known kind: the words after its fields are 0, and it stands in a log as these numbers
data Shaped (es numbers : List ℕ) : Type 0 where
  shaped : ltb (get_or es 0 0) (length fields_by_kind) ≡ true → entry_fits es ≡ fields_fit (get_or es 0 0) [] (drop 1 es)
      → five_of (entry_on es) ≡ drop 1 es ++ replicate (6 - length es) 0 → numbers_of (get_or es 0 0) (five_of (entry_on es)) ≡ numbers → Shaped es numbers

-- every call is one
call-shaped : (k : Call) → Shaped (entry_of k) (entry_of k)
unfolding entry_of entry_fits numbers_of fields_of
call-shaped (user process a e) = shaped refl refl refl refl
call-shaped (supervisor (access a g)) = shaped refl refl refl refl
call-shaped (supervisor (attach process slot segment write)) = shaped refl refl refl refl
call-shaped (supervisor (detach process slot)) = shaped refl refl refl refl
call-shaped (supervisor (map page frame write)) = shaped refl refl refl refl
call-shaped (supervisor (unmap page)) = shaped refl refl refl refl
call-shaped (supervisor (protect page write)) = shaped refl refl refl refl
call-shaped (supervisor flush_all) = shaped refl refl refl refl
call-shaped (supervisor (tag name)) = shaped refl refl refl refl
call-shaped (supervisor (load_and_map line)) = shaped refl refl refl refl
call-shaped (supervisor drop_tag) = shaped refl refl refl refl
call-shaped (supervisor (move page new)) = shaped refl refl refl refl

-- and so is a header, without its kind
header-shaped : (s : Shape) → Shaped (header_of s) (drop 1 (header_of s))
unfolding header_of entry_fits numbers_of fields_of
header-shaped s = shaped refl refl refl refl

-- the six words of one fit exactly if it does
shaped-fits : (es numbers : List ℕ) → Shaped es numbers → fields_fit (get_or es 0 0) [] (five_of (entry_on es)) ≡ entry_fits es
shaped-fits es numbers (shaped known as_fields five as-numbers) =
    ap (fields_fit (get_or es 0 0) []) five ∙ fits_more (get_or es 0 0) [] (drop 1 es) (6 - length es) ∙ sym as_fields

-- if it fits, it is written as those numbers
shaped-writes : (es numbers bytes : List ℕ) (e : Entry) → Shaped es numbers → entry_fits es ≡ true → words_of e ≡ six_of es → entry_bytes ≤ length bytes
    → write_entry e bytes ≡ written (wrote reason_none (length (bytes_of numbers))) (splice bytes 0 (bytes_of numbers))
unfolding write_entry by_field
shaped-writes es numbers bytes e (shaped known as_fields five as-numbers) h w room =
    let k : e.kind ≡ get_or es 0 0 = ap (λ (l : List ℕ). get_or l 0 0) w in
    let q : five_of e ≡ five_of (entry_on es) = ap (drop 1) w in
    let fits = shaped-fits es numbers (shaped known as_fields five as-numbers) ∙ h in
    let right = wrong-none (get_or es 0 0) [] (five_of (entry_on es)) fits (wrong_first _ _ _) in
    rw (k, q, le-ltb (length bytes) entry_bytes room, known, right, as-numbers)

-- ---- how many bytes

-- numbers have at most ten bytes each
bytes-room : (ns : List ℕ) → length (bytes_of ns) ≤ 10 * length ns
unfolding bytes_of
bytes-room [] = omega arith
bytes-room (n ∷ ns) = rw length-append (omega (arith, groups-room groups_before n, bytes-room ns))

-- an entry has at most one number for each word
numbers-room : (kind : ℕ) (five : List ℕ) → length (numbers_of kind five) ≤ suc (length five)
unfolding numbers_of
numbers-room kind five =
    let l = length-take (length (fields_of kind)) five in
    cond_both (λ (ns : List ℕ). length ns ≤ suc (length five)) (eqb kind 0) _ _ (omega arith) (omega arith)

-- so a buffer of the size that is asked has room
shaped-room : {es numbers : List ℕ} → Shaped es numbers → length (bytes_of numbers) ≤ entry_bytes
shaped-room {es} {numbers} (shaped known as_fields five as-numbers) =
    omega (arith, bytes-room numbers, numbers-room (get_or es 0 0) (five_of (entry_on es)), ap length as-numbers)

-- ---- what is refused

-- an entry is refused and nothing is written: for a field, if there is room and its kind is known. Or there is room, its kind is known and its fields fit
data Ways (e : Entry) (bytes : List ℕ) : Written → Type 0 where
  refuses : (reason amount : ℕ) → reason ≢ reason_none
      → (entry_bytes ≤ length bytes → e.kind < length fields_by_kind → WrongField e (wrote reason amount)) → Ways e bytes (written (wrote reason amount) bytes)
  writes : (amount : ℕ) (after : List ℕ) → entry_bytes ≤ length bytes → e.kind < length fields_by_kind → fields_fit e.kind [] (five_of e) ≡ true
      → Ways e bytes (written (wrote reason_none amount) after)

module _ (e : Entry) (bytes : List ℕ) where
  -- by the field that is wrong
  field-ways : {i : ℕ} → entry_bytes ≤ length bytes → e.kind < length fields_by_kind → Wrongs e.kind [] (five_of e) i
      → Ways e bytes (by_field i e.kind (five_of e) bytes)
  unfolding by_field
  field-ways room k (fit f) = writes _ _ room k f
  field-ways room k (large i j q l f g) =
      let z : suc i - 1 ≡ j = omega arith in
      let w : WrongField e (wrote reason_field (suc i)) = record { reason = refl; number = omega arith; some = omega arith; before = rw z f; large = rw z g } in
      refuses reason_field (suc i) (omega arith) (λ _ _. w)

  -- by whether the kind is known
  kind-ways : (t : Bool) → entry_bytes ≤ length bytes → ltb e.kind (length fields_by_kind) ≡ t
      → Ways e bytes (cond t (by_field (first_wrong e.kind [] (five_of e)) e.kind (five_of e) bytes) (written (wrote reason_kind 0) bytes))
  kind-ways true room k = field-ways room (omega (arith, ltb-true)) (wrong_first e.kind [] (five_of e))
  kind-ways false room k = refuses reason_kind 0 (omega arith) (λ _ l. absurd (omega (arith, ltb-false)))

  -- by whether there is room
  room-ways : (t : Bool) (x : Written) → ltb (length bytes) entry_bytes ≡ t → (entry_bytes ≤ length bytes → Ways e bytes x)
      → Ways e bytes (cond t (written (wrote reason_misfit 0) bytes) x)
  room-ways true x r h = refuses reason_misfit 0 (omega arith) (λ l _. absurd (omega (arith, ltb-true)))
  room-ways false x r h = h (omega (arith, ltb-false))

  -- any entry
  write-ways : Ways e bytes (write_entry e bytes)
  unfolding write_entry
  write-ways = room-ways _ _ refl (λ room. kind-ways _ room refl)

  -- without room, why it is refused
  write-short : length bytes < entry_bytes → (write_entry e bytes).wrote ≡ wrote reason_misfit 0
  unfolding write_entry
  write-short h = rw (lt-ltb (length bytes) entry_bytes h)

  -- with room and a kind that isn't known, why
  write-unknown : entry_bytes ≤ length bytes → length fields_by_kind ≤ e.kind → (write_entry e bytes).wrote ≡ wrote reason_kind 0
  unfolding write_entry
  write-unknown room h = rw (le-ltb (length bytes) entry_bytes room, le-ltb e.kind (length fields_by_kind) h)

-- what is refused changes nothing
ways-keep : {e : Entry} {bytes : List ℕ} {x : Written} → Ways e bytes x → x.wrote.reason ≢ reason_none → x.bytes ≡ bytes
ways-keep (refuses reason amount n f) h = refl
ways-keep (writes amount after room k f) h = absurd (h refl)

-- and with room and a known kind it is for the first field that is too large
ways-wrong : {e : Entry} {bytes : List ℕ} {x : Written} → Ways e bytes x → entry_bytes ≤ length bytes → e.kind < length fields_by_kind
    → x.wrote.reason ≢ reason_none → WrongField e x.wrote
ways-wrong (refuses reason amount n f) room k h = f room k
ways-wrong (writes amount after _ _ f) room k h = absurd (h refl)

-- so it is if its fields don't fit
ways-large : {e : Entry} {bytes : List ℕ} {x : Written} → Ways e bytes x → entry_bytes ≤ length bytes → e.kind < length fields_by_kind
    → (fields_fit e.kind [] (five_of e) ≡ true → ⊥) → WrongField e x.wrote
ways-large (refuses reason amount n f) room k h = f room k
ways-large (writes amount after _ _ f) room k h = absurd (h f)

-- an entry of a known kind that doesn't fit is refused for a field
shaped-refuses : (es numbers bytes : List ℕ) (e : Entry) → Shaped es numbers → (entry_fits es ≡ true → ⊥) → words_of e ≡ six_of es → entry_bytes ≤ length bytes
    → WrongField e (write_entry e bytes).wrote
shaped-refuses es numbers bytes e (shaped known as_fields five as-numbers) h w room =
    let k : e.kind ≡ get_or es 0 0 = ap (λ (l : List ℕ). get_or l 0 0) w in
    let q : five_of e ≡ five_of (entry_on es) = ap (drop 1) w in
    let same = ap₂ (λ (n : ℕ) (l : List ℕ). fields_fit n [] l) k q ∙ shaped-fits es numbers (shaped known as_fields five as-numbers) in
    let below : e.kind < length fields_by_kind = rw k (ltb-true (get_or es 0 0) (length fields_by_kind) known) in
    ways-large (write-ways e bytes) room below (λ f. h (sym same ∙ f))

-- ---- six words that fit

-- a flag is a bit
flag-bit : (n : ℕ) → n ≤ 1 → bit (is_yes n) ≡ n
flag-bit zero h = refl
flag-bit (suc zero) h = refl
flag-bit (suc (suc n)) h = absurd (omega arith)

module _ (x : Entry) (a b c d f : ℕ) where
  -- by the kind: the call that has these words, or the board, of 01's edition
  split-holds : (kind : ℕ) → words_of x ≡ kind ∷ a ∷ b ∷ c ∷ d ∷ f ∷ [] → kind < length fields_by_kind → Split kind (a ∷ b ∷ c ∷ d ∷ f ∷ []) → Holds x
  unfolding entry_of header_of entry_fits fields_of most most_of
  split-holds zero w l s = header (record { frames = a; uncached = b; processes = c; lines = d; ways = 1 }) s.fits (w ∙ s.words)
  split-holds (suc zero) w l s =
      let q = flag-bit b (s.each 1) in
      call (user a (record { store = is_yes b; width = c; value = f }) (effective d)) (rw q s.fits) (w ∙ rw q s.words)
  split-holds (suc (suc zero)) w l s =
      let q = flag-bit a (s.each 0) in
      call (supervisor (access (record { store = is_yes a; width = b; value = d }) (global c))) (rw q s.fits) (w ∙ rw q s.words)
  split-holds (suc (suc (suc zero))) w l s =
      let q = flag-bit d (s.each 3) in
      call (supervisor (attach a b c (is_yes d))) (rw q s.fits) (w ∙ rw q s.words)
  split-holds (suc (suc (suc (suc zero)))) w l s = call (supervisor (detach a b)) s.fits (w ∙ s.words)
  split-holds (suc (suc (suc (suc (suc zero))))) w l s =
      let q = flag-bit c (s.each 2) in
      call (supervisor (map a b (is_yes c))) (rw q s.fits) (w ∙ rw q s.words)
  split-holds (suc (suc (suc (suc (suc (suc zero)))))) w l s = call (supervisor (unmap a)) s.fits (w ∙ s.words)
  split-holds (suc (suc (suc (suc (suc (suc (suc zero))))))) w l s =
      let q = flag-bit b (s.each 1) in
      call (supervisor (protect a (is_yes b))) (rw q s.fits) (w ∙ rw q s.words)
  split-holds (suc (suc (suc (suc (suc (suc (suc (suc zero)))))))) w l s = call (supervisor flush_all) s.fits (w ∙ s.words)
  split-holds (suc (suc (suc (suc (suc (suc (suc (suc (suc zero))))))))) w l s = call (supervisor (tag a)) s.fits (w ∙ s.words)
  split-holds (suc (suc (suc (suc (suc (suc (suc (suc (suc (suc zero)))))))))) w l s = call (supervisor (load_and_map a)) s.fits (w ∙ s.words)
  split-holds (suc (suc (suc (suc (suc (suc (suc (suc (suc (suc (suc zero))))))))))) w l s = call (supervisor drop_tag) s.fits (w ∙ s.words)
  split-holds (suc (suc (suc (suc (suc (suc (suc (suc (suc (suc (suc (suc zero)))))))))))) w l s = call (supervisor (move a b)) s.fits (w ∙ s.words)
  split-holds (suc (suc (suc (suc (suc (suc (suc (suc (suc (suc (suc (suc (suc n))))))))))))) w l s = absurd (omega arith)

-- words that aren't refused are those of a call or of a header, and there is room
ways-hold : {e : Entry} {bytes : List ℕ} {x : Written} → Ways e bytes x → x.wrote.reason ≡ reason_none → Holds e × (entry_bytes ≤ length bytes)
ways-hold (refuses reason amount n f) h = absurd (n h)
ways-hold {e} (writes amount after room k f) h =
    (split-holds e (get_or e.fields 0 0) (get_or e.fields 1 0) (get_or e.fields 2 0) (get_or e.fields 3 0) (get_or e.fields 4 0) e.kind refl k (fits-split e.kind (five_of e) f), room)

-- ---- the statement

pub writer-is-right : WriterIsRight
unfolding header_bytes header_of
writer-is-right = record {
  writes_call = λ k e bytes h w room. shaped-writes (entry_of k) (entry_of k) bytes e (call-shaped k) h w room;
  writes_header = λ s e bytes h w room. shaped-writes (header_of s) (drop 1 (header_of s)) bytes e (header-shaped s) h w room;
  call_has_room = λ k. shaped-room (call-shaped k);
  header_has_room = λ s. shaped-room (header-shaped s);
  writes_only = λ e bytes h. ways-hold (write-ways e bytes) h;
  refuses_call = λ k e bytes h w room. shaped-refuses (entry_of k) (entry_of k) bytes e (call-shaped k) h w room;
  keeps = λ e bytes h. ways-keep (write-ways e bytes) h;
  too_short = write-short;
  no_kind = write-unknown;
  field_wrong = λ e bytes room k h. ways-wrong (write-ways e bytes) room k h;
}
