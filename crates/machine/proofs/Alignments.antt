-- An aligned access has a width that may be, and stays inside its line and its aligned word.
use Prim.Native.Nat.{ℕ, ◌+◌, ◌%◌, ◌≤◌}
use mathlib.Core.Path.{◌≡◌, refl}
use mathlib.Core.Bool.{Bool, true, false, ◌||◌}
use native.Mathlib.Omega.{arith}
use lib.Dec.{eqb}
use borrow.Author.Tests.{eqb-true}
use Rattle.board.proofs.Bools.{and_left, and_right}
use Rattle.line_bytes.specs.Premises.{Width, InWord}
use Rattle.machine.specs.Refusals.{aligned_to}

pub record Aligned (width at : ℕ) : Type 0 where
  pub wide : Width width
  pub inside : at % 16 + width ≤ 16
  pub in_word : InWord at width

module _ (width at : ℕ) where
  as_one : width ≡ 1 → Aligned width at
  as_one e = record { wide = record { low = omega arith; high = omega arith; not_three = λ h. omega arith }; inside = omega arith; in_word = omega arith }

  as-two : width ≡ 2 → at % width ≡ 0 → Aligned width at
  as-two e h =
      let z : at % 2 ≡ 0 = rw e at h in
      record { wide = record { low = omega arith; high = omega arith; not_three = λ k. omega arith }; inside = omega arith; in_word = omega arith }

  as-four : width ≡ 4 → at % width ≡ 0 → Aligned width at
  as-four e h =
      let z : at % 4 ≡ 0 = rw e at h in
      record { wide = record { low = omega arith; high = omega arith; not_three = λ k. omega arith }; inside = omega arith; in_word = omega arith }

  as-widths : (x y z : Bool) → eqb width 1 ≡ x → eqb width 2 ≡ y → eqb width 4 ≡ z → (x || (y || z)) ≡ true → at % width ≡ 0 → Aligned width at
  as-widths true y z e f g h k = as_one (eqb-true _ _ e)
  as-widths false true z e f g h k = as-two (eqb-true _ _ f) k
  as-widths false false true e f g h k = as-four (eqb-true _ _ g) k
  as-widths false false false e f g h k = absurd (let z : ◌≡◌ {A = ℕ} 0 1 = cc in omega arith)

  pub aligned-inside : aligned_to width at ≡ true → Aligned width at
  unfolding aligned_to
  aligned-inside e =
      as-widths (eqb width 1) (eqb width 2) (eqb width 4) refl refl refl
      (and_left (eqb width 1 || (eqb width 2 || eqb width 4)) (eqb (at % width) 0) e)
      (eqb-true _ _ (and_right (eqb width 1 || (eqb width 2 || eqb width 4)) (eqb (at % width) 0) e))
