-- The lowest number of a range that passes a test: the searches for the record of a name, of a physical line or of a set, and for the frame of a page are
-- all this one, so their laws are these. A loop that searches goes by the last three.
use Rattle.std.specs.Prelude.{Some, None}
use Prim.Native.Nat.{ℕ, zero, suc, ◌+◌, ◌-◌, ◌≤◌, ◌<◌}
use mathlib.Core.Logic.{◌≢◌}
use mathlib.Core.Path.{◌≡◌, refl}
use mathlib.Core.Bool.{Bool, true, false, cond}
use native.Mathlib.Numerals.{add-one}
use native.Mathlib.Omega.{arith}
use lib.Dec.{eqb}
use borrow.Author.Tests.{eqb-true, eqb-false}
use Rattle.board.specs.Searches.{first}
use Rattle.board.proofs.Bools.{clash}

pub record First (test : ℕ → Bool) (i n j : ℕ) : Type 0 where
  pub from : i ≤ j
  pub to : j < i + n
  pub passes : test j ≡ true
  pub lowest : (k : ℕ) → i ≤ k → test k ≡ true → j ≤ k

module _ (test : ℕ → Bool) where
  -- what is found is in the range and passes, and nothing lower of it does
  pub first-at : (i n j : ℕ) → first test i n ≡ Some j → First test i n j
  unfolding first
  first-at i zero j h = absurd (let z : ◌≡◌ {A = ℕ} 0 1 = cc in omega arith)
  first-at i (suc n) j h = go (test i) refl h (first-at (suc i) n j)
    where
      go : (t : Bool) → test i ≡ t → cond t (Some i) (first test (suc i) n) ≡ Some j → (first test (suc i) n ≡ Some j → First test (suc i) n j)
          → First test i (suc n) j
      go true t h later =
          let a : i ≡ j = cc in
          rw (← a) record { from = omega arith; to = omega arith; passes = t; lowest = λ k b p. b }
      go false t h later =
          let r = later h in
          record {
            from = omega arith;
            to = omega arith;
            passes = r.passes;
            lowest = λ k b p. let d : k ≢ i = λ q. clash (test i) (rw q at p) t in r.lowest k (omega arith) p;
          }

  -- where nothing is found, nothing in the range passes
  pub first-nothing : (i n j : ℕ) → first test i n ≡ None → i ≤ j → j < i + n → test j ≡ false
  unfolding first
  first-nothing i zero j h a b = absurd (omega arith)
  first-nothing i (suc n) j h a b = go (test i) (eqb j i) refl refl h (first-nothing (suc i) n j)
    where
      go : (t u : Bool) → test i ≡ t → eqb j i ≡ u → cond t (Some i) (first test (suc i) n) ≡ None
          → (first test (suc i) n ≡ None → suc i ≤ j → j < suc i + n → test j ≡ false) → test j ≡ false
      go true u t v h later = absurd (let z : ◌≡◌ {A = ℕ} 0 1 = cc in omega arith)
      go false true t v h later = let q : j ≡ i = eqb-true j i v in rw q t
      go false false t v h later = let q = eqb-false j i v in later h (omega arith) (omega arith)

  -- a number that passes is found, where nothing lower of the range does; and nothing is found, where nothing does
  pub first-is : (i n j : ℕ) → i ≤ j → j < i + n → ((k : ℕ) → i ≤ k → k < j → test k ≡ false) → test j ≡ true → first test i n ≡ Some j
  unfolding first
  first-is i zero j low high before h = absurd (omega arith)
  first-is i (suc n) j low high before h = go (eqb i j) refl (first-is (suc i) n j)
    where
      go : (t : Bool) → eqb i j ≡ t
          → (suc i ≤ j → j < suc i + n → ((k : ℕ) → suc i ≤ k → k < j → test k ≡ false) → test j ≡ true → first test (suc i) n ≡ Some j)
          → cond (test i) (Some i) (first test (suc i) n) ≡ Some j
      go true t later = let q : i ≡ j = eqb-true i j t in rw (q, h)
      go false t later =
          let q = eqb-false i j t in
          let z : test i ≡ false = before i (omega arith) (omega arith) in
          rw z (later (omega arith) (omega arith) (λ k a b. before k (omega arith) b) h)

  pub first-none : (i n : ℕ) → ((k : ℕ) → i ≤ k → k < i + n → test k ≡ false) → first test i n ≡ None
  unfolding first
  first-none i zero all = refl
  first-none i (suc n) all =
      let z : test i ≡ false = all i (omega arith) (omega arith) in
      rw z (first-none (suc i) n (λ k a b. all k (omega arith) (omega arith)))

module _ (test other : ℕ → Bool) where
  -- tests that agree find the same
  pub first-same : ((k : ℕ) → other k ≡ test k) → (i n : ℕ) → first other i n ≡ first test i n
  unfolding first
  first-same e i zero = refl
  first-same e i (suc n) = rw (e i, first-same e (suc i) n)

  -- what was found is still found, where it still passes and the others are tested as before
  pub first-hit : (f : ℕ) → other f ≡ true → ((k : ℕ) → k ≢ f → other k ≡ test k) → (i n : ℕ) → first test i n ≡ Some f → first other i n ≡ Some f
  unfolding first
  first-hit f y e i zero h = h
  first-hit f y e i (suc n) h = go (eqb i f) (test i) refl refl h (first-hit f y e (suc i) n)
    where
      go : (t u : Bool) → eqb i f ≡ t → test i ≡ u → cond u (Some i) (first test (suc i) n) ≡ Some f
          → (first test (suc i) n ≡ Some f → first other (suc i) n ≡ Some f) → cond (other i) (Some i) (first other (suc i) n) ≡ Some f
      go true u t v h later = let q : i ≡ f = eqb-true i f t in rw (q, y)
      go false true t v h later = let z : i ≡ f = cc in absurd (eqb-false i f t z)
      go false false t v h later = rw (e i (eqb-false i f t), v) (later h)

-- a search of one number
pub first_one : (test : ℕ → Bool) (i : ℕ) → first test i 1 ≡ cond (test i) (Some i) None
unfolding first
first_one test i = refl

-- ---- the search up to `end`, from number i on

module _ (test : ℕ → Bool) (end i : ℕ) where
  pub first-here : (t : Bool) → t ≡ test i → t ≡ true → i < end → first test i (end - i) ≡ Some i
  unfolding first
  first-here t e h k =
      let z : end - i ≡ suc (end - (i + 1)) = omega arith in
      rw (z, ← e, h)

  pub first_more : (t : Bool) → t ≡ test i → t ≡ false → i < end → first test i (end - i) ≡ first test (i + 1) (end - (i + 1))
  unfolding first
  first_more t e h k =
      let z : end - i ≡ suc (end - (i + 1)) = omega arith in
      rw (z, ← e, h, add-one)

  pub first-start : (n : ℕ) → end ≡ i + n → first test i n ≡ first test i (end - i)
  first-start n e =
      let z : end - i ≡ n = omega arith in
      rw z

  pub first-end : end ≤ i → first test i (end - i) ≡ None
  unfolding first
  first-end h =
      let z : end - i ≡ zero = omega arith in
      rw z
