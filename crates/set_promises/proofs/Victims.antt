-- The victim of a set of four: the lowest record that holds nothing, else the lowest whose row has the fewest ones.
use Rattle.std.specs.Prelude.{Option, Some, None}
use Prim.Native.Nat.{ℕ, ◌+◌, ◌*◌, ◌/◌, ◌%◌, ◌≤◌, ◌<◌}
use mathlib.Core.Path.{◌≡◌, ◌∙◌, refl, sym}
use mathlib.Core.Bool.{Bool, true, false}
use mathlib.Core.List.{List}
use native.Mathlib.Omega.{arith}
use lib.Dec.{leb}
use borrow.Author.Tests.{leb-true, leb-false, not-true}
use Rattle.board.specs.Shapes.{set_lines}
use Rattle.board.specs.declared.Shape.{Shape}
use Rattle.board.proofs.Bools.{clash}
use Rattle.board.proofs.Searches.{first-at, first-nothing}
use Rattle.sets.specs.Matrices.{Matrix, row_of, ones_of, fewest}
use Rattle.sets.proofs.Orders.{fewest-is}
use Rattle.lines.specs.Holds.{set_at, first_at, holds_at}
use Rattle.lines.specs.Victims.{Uses, matrix_of, is_empty, empty_at, victim_by, victim_at}
use Rattle.lines.proofs.Sets.{set_is, found_in}
use Rattle.set_promises.specs.Editions.{row_for, LowestOf, FewestOnes}

module _ (s : Shape) (four : s.ways ≡ set_lines) (uses : Uses) (records : List ℕ) (place : ℕ) where
  abbrev victim : ℕ
  victim = victim_at s uses records place

  -- ---- a set that is not full

  pub empty-victim : (i : ℕ) → set_at s i ≡ place → holds_at s records i ≡ false → LowestOf s place victim (λ j. holds_at s records j ≡ false)
  unfolding victim_at victim_by is_empty
  empty-victim i e h = go (empty_at s records place) refl
    where
      from : (j : ℕ) → set_at s j ≡ place → first_at s place ≤ j
      from j q = let z : j / 4 ≡ place = rw four at q in rw four (omega arith)

      to : (j : ℕ) → set_at s j ≡ place → j < first_at s place + s.ways
      to j q = let z : j / 4 ≡ place = rw four at q in rw four (omega arith)

      go : (f : Option ℕ) → empty_at s records place ≡ f → LowestOf s place (victim_by s uses place f) (λ j. holds_at s records j ≡ false)
      go (Some v) q =
          let x = first-at (is_empty s records) (first_at s place) s.ways v q in
          record { in_set = set_is s place v (found_in s (is_empty s records) place v q); passes = not-true _ x.passes; lowest = λ j p n. x.lowest j (from j p) (rw n) }
      go None q = clash _ (rw h) (first-nothing (is_empty s records) (first_at s place) s.ways i q (from i e) (to i e))

  -- ---- a full set

  module _ (full : (i : ℕ) → set_at s i ≡ place → holds_at s records i ≡ true) where
    abbrev matrix : Matrix
    matrix = matrix_of uses place

    pub full-victim : victim ≡ place * 4 + fewest matrix
    unfolding victim_at victim_by is_empty
    full-victim = go (empty_at s records place) refl
      where
        go : (f : Option ℕ) → empty_at s records place ≡ f → victim_by s uses place f ≡ place * 4 + fewest matrix
        go (Some v) q =
            let h = (first-at (is_empty s records) (first_at s place) s.ways v q).passes in
            clash _ (full v (set_is s place v (found_in s (is_empty s records) place v q))) (not-true _ h)
        go None q = rw four

    -- the record that is given up, and the row of each record of the set
    abbrev given : ℕ
    given = place * 4 + fewest matrix

    given-set : set_at s given ≡ place
    given-set = rw four (omega (arith, (fewest-is matrix).low))

    row_is : (i a : ℕ) → set_at s i ≡ place → i % 4 ≡ a → ones_of (row_for uses i) ≡ ones_of (row_of matrix a)
    row_is i a e q = let z : i / 4 ≡ place = rw four at e in rw (z, q)

    given-row : ones_of (row_for uses given) ≡ ones_of (row_of matrix (fewest matrix))
    given-row = row_is given (fewest matrix) given-set (omega (arith, (fewest-is matrix).low))

    given-lowest : (i : ℕ) → set_at s i ≡ place → FewestOnes s uses i → given ≤ i
    given-lowest i e p = go (leb given i) refl
      where
        go : (t : Bool) → leb given i ≡ t → given ≤ i
        go true t = leb-true _ _ t
        go false t =
            let l : i < given = leb-false _ _ t in
            let z : i / 4 ≡ place = rw four at e in
            let a = (fewest-is matrix).lowest (i % 4) (omega arith) in
            let b = p given (given-set ∙ sym e) in
            absurd (omega (arith, row_is i (i % 4) e refl, given-row))

    pub fewest-victim : LowestOf s place victim (FewestOnes s uses)
    fewest-victim =
        rw full-victim
        (record {
          in_set = given-set;
          passes = λ j e. rw (given-row, row_is j (j % 4) (e ∙ given-set) refl) ((fewest-is matrix).least (j % 4) (omega arith));
          lowest = given-lowest;
        })
