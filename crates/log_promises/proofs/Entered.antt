-- What a number makes of an entry: one that fits if the entry did, with the number at its end; or it is refused, and there is a reason.
use Prim.Native.Nat.{ℕ}
use mathlib.Core.Path.{◌≡◌, refl, subst}
use mathlib.Core.Logic.{◌≢◌}
use mathlib.Core.Bool.{Bool, true, false, cond}
use mathlib.Core.List.{List, [], ◌∷◌, ◌++◌}
use native.Mathlib.Omega.{arith}
use lib.Dec.{leb}
use Rattle.log_numbers.specs.Reasons.{reason_kind, reason_field}
use Rattle.log_entries.specs.Entries.{Entered, growing, whole, improper, entered_as, number_in, is_kind, is_whole, most}
use Rattle.log_promises.specs.Calls.{fields_fit, entry_fits}
use Rattle.log_promises.proofs.Fits.{fit_next}

-- the first number of an entry is a kind that is known
abbrev pub is_headed : List ℕ → Bool
is_headed [] = true
is_headed (kind ∷ fields) = is_kind kind

-- all fields are there
abbrev pub is_full : List ℕ → Bool
is_full [] = false
is_full (kind ∷ fields) = is_whole kind fields

-- an entry with a number more
pub record OneMore (e : List ℕ) (n : ℕ) (e' : List ℕ) : Type 0 where
  pub more : e' ≡ e ++ n ∷ []
  pub fits : entry_fits e ≡ true → entry_fits e' ≡ true
  pub headed : is_headed e ≡ true → is_headed e' ≡ true

-- what an outcome says
abbrev pub Says : List ℕ → ℕ → Entered → Type 0
Says e n (growing e') = OneMore e n e'
Says e n (whole e') = OneMore e n e' × (is_full e' ≡ true)
Says e n (improper reason) = reason ≢ 0

-- an entry that is taken on
says-more : (kind n : ℕ) (e fields : List ℕ) → OneMore e n (kind ∷ fields) → (t : Bool) → is_whole kind fields ≡ t
    → Says e n (cond t (whole (kind ∷ fields)) (growing (kind ∷ fields)))
says-more kind n e fields x true h = (x, h)
says-more kind n e fields x false h = x

-- any entry and number
says_of : (e : List ℕ) (n : ℕ) → Says e n (number_in e n)
unfolding number_in entry_fits fields_fit
says_of [] n = go (is_kind n) refl
  where
    go : (t : Bool) → is_kind n ≡ t → Says [] n (cond t (entered_as n []) (improper reason_kind))
    go true h = says-more n n [] [] (record { more = refl; fits = λ f. refl; headed = λ f. h }) (is_whole n []) refl
    go false h = omega arith
says_of (kind ∷ fields) n = go (leb n (most kind fields)) refl
  where
    go : (t : Bool) → leb n (most kind fields) ≡ t → Says (kind ∷ fields) n (cond t (entered_as kind (fields ++ n ∷ [])) (improper reason_field))
    go true h =
        says-more kind n (kind ∷ fields) (fields ++ n ∷ []) (record { more = refl; fits = λ f. fit_next kind n [] fields h f; headed = λ f. f })
        (is_whole kind (fields ++ n ∷ [])) refl
    go false h = omega arith

-- so what they come to
pub number-says : {x : Entered} (e : List ℕ) (n : ℕ) → number_in e n ≡ x → Says e n x
number-says e n g = subst (Says e n) g (says_of e n)
