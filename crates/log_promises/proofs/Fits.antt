-- Fields that fit their kind: the first of them, the rest, one more at the end.
use Prim.Native.Nat.{ℕ, zero, suc, ◌-◌, ◌^◌, ◌<◌, ◌≤◌}
use mathlib.Core.Path.{◌≡◌, ◌∙◌}
use mathlib.Core.Bool.{true}
use mathlib.Core.List.{List, [], ◌∷◌, ◌++◌, append-nil}
use native.Mathlib.Omega.{arith}
use lib.Dec.{eqb, leb}
use lib.ListN.{length, get_or, take, length-append}
use lib.Seq.{append_snoc}
use borrow.Author.Tests.{leb-true}
use Rattle.board.proofs.Bools.{and_left, and_right, cond_both}
use Rattle.log_numbers.specs.Numbers.{number_end}
use Rattle.log_entries.specs.Entries.{Field, any_number, flag, word, value, none, fields_of, most, most_of}
use Rattle.log_promises.specs.Calls.{fields_fit}

-- a list with one number more
pub length-next : (l : List ℕ) (n : ℕ) → length (l ++ n ∷ []) ≡ suc (length l)
length-next l n = length-append l (n ∷ []) ∙ omega arith

-- of fields that fit, the first does, and the rest after it
module _ (kind n : ℕ) (before l : List ℕ) (f : fields_fit kind before (n ∷ l) ≡ true) where
  pub fit-first : leb n (most kind before) ≡ true
  unfolding fields_fit
  fit-first = and_left (leb n (most kind before)) (fields_fit kind (before ++ n ∷ []) l) f

  pub fit-rest : fields_fit kind (before ++ n ∷ []) l ≡ true
  unfolding fields_fit
  fit-rest = and_right (leb n (most kind before)) (fields_fit kind (before ++ n ∷ []) l) f

-- each is at most what it may be
pub fit-each : (kind : ℕ) (before l : List ℕ) (i : ℕ) → fields_fit kind before l ≡ true → i < length l → get_or l i 0 ≤ most kind (before ++ take i l)
fit-each kind before [] i f h = absurd (omega (arith, h))
fit-each kind before (n ∷ l) zero f h = rw append-nil (leb-true n (most kind before) (fit-first kind n before l f))
fit-each kind before (n ∷ l) (suc i) f h =
    rw (append_snoc before n (take i l)) at (fit-each kind (before ++ n ∷ []) l i (fit-rest kind n before l f) (omega (arith, h)))

-- one more that fits
pub fit_next : (kind n : ℕ) (before l : List ℕ) → leb n (most kind (before ++ l)) ≡ true → fields_fit kind before l ≡ true → fields_fit kind before (l ++ n ∷ []) ≡ true
unfolding fields_fit
fit_next kind n before [] h f = let g : leb n (most kind before) ≡ true = rw (append-nil before) at h in rw g
fit_next kind n before (m ∷ l) h f =
    rw (fit-first kind m before l f, fit_next kind n (before ++ m ∷ []) l (rw (append_snoc before m l) h) (fit-rest kind m before l f))

-- what a field may be is a number of a log
most-below : (l : List ℕ) (x : Field) → most_of l x < number_end
unfolding most_of
most-below l any_number = omega arith
most-below l flag = omega arith
most-below l word = omega arith
most-below l (value i) = cond_both (λ (m : ℕ). m < number_end) (eqb (get_or l i 0) 0) 0 (2 ^ 32 - 1) (omega arith) (omega arith)
most-below l none = omega arith

-- so what fits is one
pub fit-below : (kind n : ℕ) (fields : List ℕ) → leb n (most kind fields) ≡ true → n < number_end
unfolding most
fit-below kind n fields f = omega (arith, leb-true n (most kind fields) f, most-below fields (get_or (fields_of kind) (length fields) none))
