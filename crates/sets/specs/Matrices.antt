-- CR 4: the matrix of a set of four: who was used after whom, one row to each line, 0 when fresh. On runs from a fresh board row a,
-- column b is 1 exactly if the last use of line a is later than that of line b.
use Rattle.std.specs.Prelude.{ℕ, zero, suc, ◌+◌, ◌<◌, ◌≡◌, cond, List, [], ◌∷◌, length, get_or, set, eqb, leb}

-- a matrix, row by row
abbrev pub Matrix : Type 0
Matrix = List (List ℕ)

abbrev pub row_of : Matrix → ℕ → List ℕ
row_of m a = get_or m a []

abbrev pub entry_at : Matrix → ℕ → ℕ → ℕ
entry_at m a b = get_or (row_of m a) b 0

-- it is four rows of four
pub record Square (m : Matrix) : Type 0 where
  pub rows : length m ≡ 4
  pub columns : (a : ℕ) → a < 4 → length (row_of m a) ≡ 4

-- a row of zeros, a row of ones, and the matrix of a fresh set
abbrev pub no_ones : List ℕ
no_ones = 0 ∷ 0 ∷ 0 ∷ 0 ∷ []

abbrev pub all_ones : List ℕ
all_ones = 1 ∷ 1 ∷ 1 ∷ 1 ∷ []

abbrev pub fresh_matrix : Matrix
fresh_matrix = no_ones ∷ no_ones ∷ no_ones ∷ no_ones ∷ []

-- ---- a use

-- column r cleared in the first n rows
unfoldable pub cleared : ℕ → ℕ → Matrix → Matrix
cleared zero r m = m
cleared (suc n) r m = set (cleared n r m) n (set (row_of (cleared n r m) n) r 0)

-- a use of line r sets its row and then clears its column
unfoldable pub used : Matrix → ℕ → Matrix
used m r = cleared 4 r (set m r all_ones)

-- ---- the line with the fewest ones

-- an entry that is not 0 is a one
abbrev pub one : ℕ → ℕ
one x = cond (eqb x 0) 0 1

-- how many ones a row has
unfoldable pub ones_of : List ℕ → ℕ
ones_of row = one (get_or row 0 0) + one (get_or row 1 0) + one (get_or row 2 0) + one (get_or row 3 0)

-- of two lines the first, unless the second's row has fewer ones
unfoldable pub fewer : Matrix → ℕ → ℕ → ℕ
fewer m a b = cond (leb (ones_of (row_of m a)) (ones_of (row_of m b))) a b

-- the lowest line whose row has the fewest ones
unfoldable pub fewest : Matrix → ℕ
fewest m = fewer m (fewer m (fewer m 0 1) 2) 3
