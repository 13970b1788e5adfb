-- A table's rule: a test of every place, computed, and the rule at each.
use Prim.Native.Nat.{ℕ, zero, suc, ◌<◌}
use mathlib.Core.Path.{◌≡◌, refl}
use mathlib.Core.Bool.{Bool, true, false, ◌&&◌}
use native.Mathlib.Omega.{arith}
use lib.Dec.{eqb}
use borrow.Author.Tests.{eqb-true, eqb-false}
use Rattle.board.proofs.Bools.{and_left, and_right}

-- the test at every place below n
unfoldable pub every_below : ℕ → (ℕ → Bool) → Bool
every_below zero f = true
every_below (suc n) f = f n && every_below n f

pub every-below : (n : ℕ) (f : ℕ → Bool) → every_below n f ≡ true → (k : ℕ) → k < n → f k ≡ true
unfolding every_below
every-below zero f e k h = absurd (omega arith)
every-below (suc n) f e k h = go (every-below n f (and_right (f n) _ e) k) (eqb k n) refl
  where
    go : (k < n → f k ≡ true) → (t : Bool) → eqb k n ≡ t → f k ≡ true
    go below true q = let z : k ≡ n = eqb-true _ _ q in rw z (and_left (f n) _ e)
    go below false q = let z : k ≡ n → ⊥ = eqb-false k n q in below (omega (arith, z))
