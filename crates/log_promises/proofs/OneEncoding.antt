-- CR 1, "a list of calls has one encoding": numbers that come to whole entries are those of a board's log, so bytes that aren't refused are that log.
use Prim.Native.Nat.{ℕ}
use mathlib.Core.Path.{◌≡◌, ◌∙◌, refl, sym, ap, ap₂}
use mathlib.Core.Bool.{true, false}
use mathlib.Core.List.{List, [], ◌∷◌, ◌++◌, append_assoc, append-nil, map, cons-ne-nil}
use lib.ListN.{length, get_or, drop}
use borrow.Author.Tests.{eqb-true}
use Rattle.board.specs.declared.Shape.{Shape}
use Rattle.board.proofs.Bools.{clash}
use Rattle.log_numbers.specs.Numbers.{bytes_of}
use Rattle.log_entries.specs.Entries.{is_whole, fields_of}
use Rattle.log_reader.specs.Reading.{Log, read_log}
use Rattle.promises.specs.Runs.{Call}
use Rattle.log_promises.specs.Calls.{Loggable, LoggableShape, AllLoggable, none, also, entry_of, header_of, entry_fits, fields_fit, header_bytes, log_of, entries_of}
use Rattle.log_promises.specs.Written.{Logged, OneEncoding}
use Rattle.log_promises.specs.Places.{Come, start, grows, ends}
use Rattle.log_promises.proofs.Decoded.{call_of, shape_of, call_back, IsEntry, entry, entry-back, header-back}
use Rattle.log_promises.proofs.Written.{numbers_of, header_numbers, log_numbers, log-bytes, written-is-read}
use Rattle.log_promises.proofs.Entered.{is_headed, is_full, OneMore, number-says}
use Rattle.log_promises.proofs.Refusals.{wrong-reason, refused-read}
use Rattle.log_promises.proofs.Judged.{Judged, right, wrong, judged}

-- ---- one more call

-- its numbers
numbers-next : (ks : List Call) (k : Call) → numbers_of (ks ++ k ∷ []) ≡ numbers_of ks ++ entry_of k
numbers-next [] k = append-nil (entry_of k)
numbers-next (j ∷ ks) k = ap (λ (l : List ℕ). entry_of j ++ l) (numbers-next ks k) ∙ sym (append_assoc (entry_of j) (numbers_of ks) (entry_of k))

-- its entry
entries_next : (ks : List Call) (k : Call) → entries_of (ks ++ k ∷ []) ≡ entries_of ks ++ entry_of k ∷ []
unfolding entries_of
entries_next [] k = refl
entries_next (j ∷ ks) k = ap (λ (l : List (List ℕ)). entry_of j ∷ l) (entries_next ks k)

-- it can be logged like the others
loggable-next : {ks : List Call} (k : Call) → AllLoggable ks → Loggable k → AllLoggable (ks ++ k ∷ [])
loggable-next k none h = also h none
loggable-next k (also f all) h = also f (loggable-next k all h)

-- ---- numbers, as those of a log

-- numbers in the header, or a board's calls and then numbers of one more
data Told (ns : List ℕ) (es : List (List ℕ)) (e : List ℕ) : Type 0 where
  opening : es ≡ [] → e ≡ 0 ∷ ns → entry_fits e ≡ true → Told ns es e
  running : (s : Shape) (ks : List Call) → LoggableShape s → AllLoggable ks → ns ≡ log_numbers s ks ++ e → es ≡ header_of s ∷ entries_of ks
      → is_headed e ≡ true → entry_fits e ≡ true → Told ns es e

-- an entry that is headed, full and fits is whole
entry_whole : (e : List ℕ) → is_headed e ≡ true → is_full e ≡ true → entry_fits e ≡ true → IsEntry e
unfolding is_whole entry_fits
entry_whole [] h w f = clash false w refl
entry_whole (kind ∷ fields) h w f = entry h (eqb-true (length fields) (length (fields_of kind)) w) f

-- a whole header
header-told : (l : List ℕ) → is_full (0 ∷ l) ≡ true → entry_fits (0 ∷ l) ≡ true → Told l ((0 ∷ l) ∷ []) []
unfolding is_whole header_of entries_of entry_fits
header-told l w f =
    let q : header_of (shape_of 1 (0 ∷ l)) ≡ 0 ∷ l = header-back l (eqb-true (length l) (length (fields_of 0)) w) in
    running (shape_of 1 (0 ∷ l)) [] (ap entry_fits q ∙ f) none (ap (drop 1) (sym q)) (ap (λ (e : List ℕ). e ∷ []) (sym q)) refl refl

-- a whole call after others
call-told : (s : Shape) (ks : List Call) (e : List ℕ) → LoggableShape s → AllLoggable ks → is_headed e ≡ true → is_full e ≡ true → entry_fits e ≡ true
    → Told (log_numbers s ks ++ e) ((header_of s ∷ entries_of ks) ++ e ∷ []) []
unfolding entry_fits
call-told s ks e fs all h w f =
    let k : Call = call_of e in
    let q : entry_of k ≡ e = entry-back (entry_whole e h w f) in
    running s (ks ++ k ∷ []) fs (loggable-next k all (ap entry_fits q ∙ f))
    (sym (append-nil (log_numbers s (ks ++ k ∷ [])) ∙ ap (λ (l : List ℕ). header_numbers s ++ l) (numbers-next ks k ∙ ap (λ (l : List ℕ). numbers_of ks ++ l) q)))
    (sym (ap (λ (l : List (List ℕ)). header_of s ∷ l) (entries_next ks k ∙ ap (λ (l : List ℕ). entries_of ks ++ l ∷ []) q)))
    refl refl

module _ (n : ℕ) (ns : List ℕ) (es : List (List ℕ)) (e e' : List ℕ) (x : OneMore e n e') where
  -- the numbers of a log, and those of the entry
  numbers_more : (l : List ℕ) → ns ≡ l ++ e → ns ++ n ∷ [] ≡ l ++ e'
  numbers_more l p = ap (λ (r : List ℕ). r ++ n ∷ []) p ∙ append_assoc l e (n ∷ []) ∙ ap (λ (r : List ℕ). l ++ r) (sym x.more)

  -- an entry grows
  told-grows : Told ns es e → Told (ns ++ n ∷ []) es e'
  told-grows (opening p q f) = opening p (x.more ∙ ap (λ (l : List ℕ). l ++ n ∷ []) q) (x.fits f)
  told-grows (running s ks fs all p q h f) = running s ks fs all (numbers_more (log_numbers s ks) p) q (x.headed h) (x.fits f)

  -- an entry is whole
  told-ends : is_full e' ≡ true → Told ns es e → Told (ns ++ n ∷ []) (es ++ e' ∷ []) []
  told-ends w (opening p q f) =
      let r : e' ≡ 0 ∷ (ns ++ n ∷ []) = x.more ∙ ap (λ (l : List ℕ). l ++ n ∷ []) q in
      rw (p, r) (header-told (ns ++ n ∷ []) (rw r at w) (rw r at (x.fits f)))
  told-ends w (running s ks fs all p q h f) =
      rw (numbers_more (log_numbers s ks) p, q) (call-told s ks e' fs all (x.headed h) w (x.fits f))

-- all that numbers come to is told so
told : {ns : List ℕ} {es : List (List ℕ)} {e : List ℕ} → Come ns es e → Told ns es e
unfolding entry_fits fields_fit
told start = opening refl refl refl
told (grows {ns = ns} {es = es} {e = e} {e' = e'} n c h g) = told-grows n ns es e e' (number-says e n g) (told c)
told (ends {ns = ns} {es = es} {e = e} {e' = e'} n c h g) =
    let y = number-says e n g in
    told-ends n ns es e e' y.0 y.1 (told c)

-- ---- bytes

-- bytes that aren't refused are a log
logged : (bytes : List ℕ) → (read_log bytes).reason ≡ 0 → Judged bytes → Logged bytes
logged bytes h (right {ns = ns} c q) = go (told c)
  where
    go : {es : List (List ℕ)} → Told ns es [] → Logged bytes
    go (opening p r f) = absurd (cons-ne-nil 0 ns (sym r))
    go (running s ks fs all p r t f) =
        let w : bytes ≡ log_of s ks = q ∙ ap bytes_of (p ∙ append-nil (log_numbers s ks)) ∙ log-bytes s ks in
        record { shape = s; calls = ks; fits = fs; all_fit = all; written = w; read = rw w (written-is-read.same_calls s ks fs all) }
logged bytes h (wrong r) = absurd (wrong-reason r.wrong (sym (ap (λ (x : Log). x.reason) (refused-read r)) ∙ h))

-- the log of entries, as of a board of 01's edition
log_from : List (List ℕ) → List ℕ
log_from es = log_of (shape_of 1 (get_or es 0 [])) (map call_of (drop 1 es))

-- entries give their calls back
calls_back : (ks : List Call) → map call_of (entries_of ks) ≡ ks
unfolding entries_of
calls_back [] = refl
calls_back (k ∷ ks) = ap₂ (λ (j : Call) (l : List Call). j ∷ l) (call_back k) (calls_back ks)

-- and a log's entries the log, whatever the edition
logged-from : (bytes : List ℕ) → Logged bytes → bytes ≡ log_from (read_log bytes).entries
unfolding log_from header_of header_bytes log_of
logged-from bytes x = x.written ∙ sym (ap log_from x.read.entries ∙ ap (log_of x.shape) (calls_back x.calls))

-- the promise
pub one-encoding : OneEncoding
one-encoding = record {
  only_written = λ bytes b h. logged bytes h (judged bytes b);
  no_second = λ bytes other s ks b b' r r'.
      logged-from bytes (logged bytes r.whole (judged bytes b)) ∙ ap log_from (r.entries ∙ sym r'.entries)
      ∙ sym (logged-from other (logged other r'.whole (judged other b')));
}
