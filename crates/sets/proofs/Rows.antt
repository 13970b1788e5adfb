-- The ones of a row, and the line with the fewest.
use Prim.Native.Nat.{ℕ, ◌+◌, ◌≤◌, ◌<◌}
use mathlib.Core.Path.{◌≡◌}
use mathlib.Core.Bool.{Bool, true, false, not, cond}
use mathlib.Core.List.{List}
use native.Mathlib.Omega.{arith}
use mir.Val.{bool_byte}
use lib.ListN.{get_or}
use borrow.Author.Tests.{le-leb, lt-leb}
use Rattle.sets.specs.Matrices.{Matrix, row_of, one, ones_of, fewer, fewest}

pub one-is : (t : Bool) (r : ℕ) → r ≡ bool_byte (not t) → (r ≡ cond t 0 1) × (r ≤ 1)
one-is true r e = (e, omega (arith, e))
one-is false r e = (e, omega (arith, e))

pub ones-by : (row : List ℕ) (a b c d : ℕ) → a ≡ one (get_or row 0 0) → b ≡ one (get_or row 1 0) → c ≡ one (get_or row 2 0) → d ≡ one (get_or row 3 0)
    → a + b + c + d ≡ ones_of row
unfolding ones_of
ones-by row a b c d e f g h = rw (e, f, g, h)

module _ (m : Matrix) (a b x y : ℕ) (e : x ≡ ones_of (row_of m a)) (f : y ≡ ones_of (row_of m b)) where
  pub fewer-first : x ≤ y → a ≡ fewer m a b
  unfolding fewer
  fewer-first h = rw (← e, ← f, le-leb _ _ h)

  pub fewer-second : y < x → b ≡ fewer m a b
  unfolding fewer
  fewer-second h = rw (← e, ← f, lt-leb _ _ h)

pub fewest-by : (m : Matrix) (a b c : ℕ) → a ≡ fewer m 0 1 → b ≡ fewer m a 2 → c ≡ fewer m b 3 → c ≡ fewest m
unfolding fewest
fewest-by m a b c e f g = rw (← e, ← f, g)
