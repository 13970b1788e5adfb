-- Keys that stand more than once. A key of 0 is no key.
use Rattle.std.specs.Prelude.{ℕ, zero, suc, ◌-◌, Bool, false, not, ◌&&◌, ◌||◌, List, [], ◌∷◌, length, get_or, eqb, Option}
use Rattle.board.specs.Searches.{first}

-- the key stands at one of the n places from i on
unfoldable pub stands : List ℕ → ℕ → ℕ → ℕ → Bool
stands keys key i zero = false
stands keys key i (suc n) = eqb (get_or keys i 0) key || stands keys key (suc i) n

-- place i has a key that a higher place has too
unfoldable pub repeats : List ℕ → ℕ → Bool
repeats keys i = not (eqb (get_or keys i 0) 0) && stands keys (get_or keys i 0) (suc i) (length keys - suc i)

-- the keys that a function gives to the n places from i on, and to the first n
unfoldable pub keys_from : (ℕ → ℕ) → ℕ → ℕ → List ℕ
keys_from key i zero = []
keys_from key i (suc n) = key i ∷ keys_from key (suc i) n

abbrev pub keys_of : (ℕ → ℕ) → ℕ → List ℕ
keys_of key n = keys_from key 0 n

-- the lowest of n places whose key a higher one has too
abbrev pub first_double : (ℕ → ℕ) → ℕ → Option ℕ
first_double key n = first (repeats (keys_of key n)) 0 n
