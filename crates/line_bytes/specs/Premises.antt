-- What the code inside asks of its callers. No call's definition needs this: a public call asks nothing.
use Rattle.std.specs.Prelude.{ℕ, ◌+◌, ◌%◌, ◌≤◌, ◌≡◌}

-- a width that an access may have: 1, 2 or 4
pub record Width (w : ℕ) : Type 0 where
  pub low : 1 ≤ w
  pub high : w ≤ 4
  pub not_three : w ≡ 3 → ⊥

-- the `width` bytes from `at` on lie in one aligned word of four, as those of an aligned access do
abbrev pub InWord : ℕ → ℕ → Type 0
InWord at width = at % 4 + width ≤ 4
