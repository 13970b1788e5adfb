-- Lists read and written by position; a flag and a bit as numbers.
use Rattle.std.specs.Prelude.{ℕ, Bool, not, cond, List, eqb, take, drop}
use Rattle.std.proofs.lemmas.List.Edits.{sets}

-- the n elements of l from `at` on
unfoldable pub part : List ℕ → ℕ → ℕ → List ℕ
part l at n = take n (drop at l)

-- l with the elements vs from `at` on
unfoldable pub splice : List ℕ → ℕ → List ℕ → List ℕ
splice l at vs = sets l at vs

-- a flag as a number: any but 0 says yes
abbrev pub is_yes : ℕ → Bool
is_yes n = not (eqb n 0)

-- a bit as a number
abbrev pub bit : Bool → ℕ
bit b = cond b 1 0
