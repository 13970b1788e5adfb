-- A number with one bit set is a power of two: by its trailing zeros. And a power of two has one bit set.
use Prim.Native.Nat.{ℕ, zero, suc, ◌*◌, ◌/◌, ◌%◌, ◌^◌, ◌<◌}
use mathlib.Core.Path.{◌≡◌, ◌∙◌, refl, sym, ap}
use mathlib.Core.Logic.{◌⊎◌, inl, inr, ⊎_elim}
use native.Mathlib.Omega.{arith}
use native.Mathlib.Nat.{pow-suc, lt_of_not-le, add-zero, one-mul}
use lib.Pow.{pow_mono, pow_pos}
use lib.Count.{ones, ones_in, ones_step, ones_cat, ones-le, count_trailing_zeros, under}

-- a digit is 0 or 1
pub digit : (n : ℕ) → (n % 2 ≡ 0) ⊎ (n % 2 ≡ 1)
digit n = go (n % 2) (omega arith)
  where
    go : (d : ℕ) → d < 2 → (d ≡ 0) ⊎ (d ≡ 1)
    go zero h = inl refl
    go (suc zero) h = inr refl
    go (suc (suc d)) h = absurd (omega arith)

-- a number of k digits with none of them set is 0
pub none-set : (k n : ℕ) → n < 2 ^ k → ones n ≡ 0 → n ≡ 0
none-set zero n h e = omega arith
none-set (suc k) n h e =
    let r : n / 2 ≡ 0 = none-set k (n / 2) (omega (arith, pow-suc 2 k)) (omega (arith, ones_step n)) in
    omega (arith, ones_step n)

-- a number of k digits of which one is set is 2 to the power of its trailing zeros
module _ (k n : ℕ) (h : n < 2 ^ suc k) (e : ones n ≡ 1) where
  odd : n % 2 ≡ 1 → 2 ^ under (n % 2) (count_trailing_zeros k (n / 2)) ≡ n
  odd z =
      let r : n / 2 ≡ 0 = none-set k (n / 2) (omega (arith, pow-suc 2 k)) (omega (arith, ones_step n)) in
      rw z (omega arith)

  even : (ones (n / 2) ≡ 1 → 2 ^ count_trailing_zeros k (n / 2) ≡ n / 2) → n % 2 ≡ 0 → 2 ^ under (n % 2) (count_trailing_zeros k (n / 2)) ≡ n
  even step z =
      let ih : 2 ^ count_trailing_zeros k (n / 2) ≡ n / 2 = step (omega (arith, ones_step n)) in
      rw z (omega (arith, pow-suc 2 (count_trailing_zeros k (n / 2))))

pub one_bit : (k n : ℕ) → n < 2 ^ k → ones n ≡ 1 → 2 ^ count_trailing_zeros k n ≡ n
unfolding count_trailing_zeros
one_bit zero n h e = omega (arith, ones-le zero n h)
one_bit (suc k) n h e = ⊎_elim (even k n h e (one_bit k (n / 2) (omega (arith, pow-suc 2 k)))) (odd k n h e) (digit n)

pub one-bit-lt : (k n : ℕ) → n < 2 ^ k → ones n ≡ 1 → count_trailing_zeros k n < k
one-bit-lt k n h e = lt_of_not-le (λ l. omega (arith, one_bit k n h e, pow_mono l))

pub one_shl : (n : ℕ) → n < 2 ^ 64 → ones n ≡ 1 → 1 * 2 ^ count_trailing_zeros 64 n % 2 ^ 64 ≡ n
one_shl n h e = omega (arith, one_bit 64 n h e)

-- a number with one bit set is not 0
pub one-pos : (n : ℕ) → n < 2 ^ 64 → ones n ≡ 1 → 0 < n
one-pos n h e = omega (arith, one_bit 64 n h e, pow_pos (count_trailing_zeros 64 n))

pub power-one : (k : ℕ) → ones (2 ^ k) ≡ 1
unfolding ones ones_in
power-one k = ap ones (sym (add-zero (1 * 2 ^ k) ∙ one-mul (2 ^ k))) ∙ ones_cat k 1 0 (pow_pos k)
