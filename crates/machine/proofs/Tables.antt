-- Laws of refusal tables: one after another, what a passed table says, what holds of all that a table gives, and how an
-- outcome is carried through a table.
use Rattle.std.specs.Prelude.{Result, Ok, Err}
use Prim.Native.Nat.{ℕ, suc, zero}
use mathlib.Core.Path.{◌≡◌, ◌∙◌, refl, ap}
use mathlib.Core.Bool.{Bool, true, false, ◌&&◌, cond}
use mathlib.Core.List.{List, [], ◌∷◌, ◌++◌}
use native.Mathlib.Omega.{arith}
use lib.Dec.{eqb, leb}
use lib.ListN.{get_or}
use borrow.Author.Tests.{eqb-true, leb-true}
use Rattle.board.specs.Refusals.{number_of, refusal_of}
use Rattle.board.specs.declared.Refusal.{Refusal}
use Rattle.board.proofs.Bools.{and_left, and_right}
use Rattle.board.proofs.Tables.{every_below, every-below}
use Rattle.machine.specs.Refusals.{Row, row, by_table, checked}

module _ {A : Type 0} (refuse : ℕ → A) where
  -- a table that goes on in another
  pub table-append : (xs ys : List Row) (done : A) → by_table refuse (xs ++ ys) done ≡ by_table refuse xs (by_table refuse ys done)
  unfolding by_table
  table-append [] ys done = refl
  table-append (x ∷ xs) ys done = ap (cond x.applies (refuse x.number)) (table-append xs ys done)

-- an outcome carried through a table
pub table-map : {A B : Type 0} (f : A → B) (refuse : ℕ → A) (rows : List Row) (done : A)
    → f (by_table refuse rows done) ≡ by_table (λ n. f (refuse n)) rows (f done)
unfolding by_table
table-map f refuse [] done = refl
table-map f refuse (r ∷ rows) done = go r.applies (table-map f refuse rows done)
  where
    go : (t : Bool) → f (by_table refuse rows done) ≡ by_table (λ n. f (refuse n)) rows (f done)
        → f (cond t (refuse r.number) (by_table refuse rows done)) ≡ cond t (f (refuse r.number)) (by_table (λ n. f (refuse n)) rows (f done))
    go true e = refl
    go false e = e

-- a table with no rows refuses nothing
pub table-end : {A : Type 0} (refuse : ℕ → A) (done x : A) → by_table refuse [] done ≡ x → done ≡ x
unfolding by_table
table-end refuse done x e = e

-- where a table ended in something else than a row's refusal, that row did not apply
module _ {A : Type 0} (refuse : ℕ → A) (n : ℕ) where
  cond-passed : (t : Bool) (rest x : A) → (refuse n ≡ x → ⊥) → cond t (refuse n) rest ≡ x → (t ≡ false) × (rest ≡ x)
  cond-passed true rest x other e = absurd (other e)
  cond-passed false rest x other e = (refl, e)

  pub table-passed : (t : Bool) (rows : List Row) (done x : A) → (refuse n ≡ x → ⊥) → by_table refuse (row n t ∷ rows) done ≡ x
      → (t ≡ false) × (by_table refuse rows done ≡ x)
  unfolding by_table
  table-passed t rows done x other e = cond-passed t (by_table refuse rows done) x other e

-- no row of a table applies, row by row from 0
abbrev pub Passed : List Row → Type 0
Passed rows = (i : ℕ) → (get_or rows i (row 0 false)).applies ≡ false

pub passed-more : (r : Row) (rows : List Row) → r.applies ≡ false → Passed rows → Passed (r ∷ rows)
passed-more r rows e q zero = e
passed-more r rows e q (suc i) = q i

-- then the table gives what is done
pub table_done : {A : Type 0} (refuse : ℕ → A) (rows : List Row) (done : A) → Passed rows → by_table refuse rows done ≡ done
unfolding by_table
table_done refuse [] done h = refl
table_done refuse (r ∷ rows) done h = let e = h 0 in rw e (table_done refuse rows done (λ i. h (suc i)))

-- two tables of the same rows: what holds of the refusals, and of what is done where no row applies, holds of what they give
pub table-both : {A B : Type 0} (R : A → B → Type 0) (f : ℕ → A) (g : ℕ → B) → ((n : ℕ) → R (f n) (g n)) → (rows : List Row) (x : A) (y : B)
    → (Passed rows → R x y) → R (by_table f rows x) (by_table g rows y)
unfolding by_table
table-both R f g refusals [] x y h = h (λ i. refl)
table-both R f g refusals (r ∷ rows) x y h = go r.applies refl (table-both R f g refusals rows x y)
  where
    go : (t : Bool) → r.applies ≡ t → ((Passed rows → R x y) → R (by_table f rows x) (by_table g rows y))
        → R (cond t (f r.number) (by_table f rows x)) (cond t (g r.number) (by_table g rows y))
    go true e later = refusals r.number
    go false e later = later (λ q. h (passed-more r rows e q))

-- the same of one table
pub table-cases : {A : Type 0} (P : A → Type 0) (refuse : ℕ → A) → ((n : ℕ) → P (refuse n)) → (rows : List Row) (done : A) → (Passed rows → P done)
    → P (by_table refuse rows done)
table-cases P refuse refuses rows done = table-both (λ x y. P x) refuse refuse refuses rows done done

-- ---- what a check of the code gives, carried to the call

-- a row's number is one of a refusal
abbrev known_row : Row → Bool
known_row r = leb 1 r.number && leb r.number 13

unfoldable pub known : List Row → Bool
known [] = true
known (r ∷ rows) = known_row r && known rows

same-number : ℕ → Bool
same-number k = eqb (number_of (refusal_of (suc k))) (suc k)

pub number-of : (n : ℕ) → (leb 1 n && leb n 13) ≡ true → number_of (refusal_of n) ≡ n
unfolding same-number every_below
number-of zero e = absurd (let z = leb-true 1 zero (and_left (leb 1 zero) (leb zero 13) e) in omega (arith, z))
number-of (suc k) e =
    let z = leb-true (suc k) 13 (and_right (leb 1 (suc k)) (leb (suc k) 13) e) in
    eqb-true (number_of (refusal_of (suc k))) (suc k) (every-below 13 same-number refl k (omega (arith, z)))

module _ {A B : Type 0} (refuse : ℕ → B) (go : A → B) where
  -- a refusal, or what a check goes on with
  unfoldable pub by_check : Result A Refusal → B
  by_check (Err why) = refuse (number_of why)
  by_check (Ok x) = go x

  known-numbers : (rows : List Row) (d : B) → known rows ≡ true → by_table (λ n. refuse (number_of (refusal_of n))) rows d ≡ by_table refuse rows d
  unfolding by_table known
  known-numbers [] d h = refl
  known-numbers (r ∷ rows) d h =
      rw (number-of r.number (and_left (known_row r) (known rows) h), known-numbers rows d (and_right (known_row r) (known rows) h)) refl

  -- a table that a check asked does what that says
  pub check-table : (rows : List Row) (x : A) (k : Result A Refusal) → known rows ≡ true → k ≡ checked rows x → by_check k ≡ by_table refuse rows (go x)
  unfolding by_check
  check-table rows x k h e = ap by_check e ∙ table-map by_check (λ n. Err (refusal_of n)) rows (Ok x) ∙ known-numbers rows (go x) h
