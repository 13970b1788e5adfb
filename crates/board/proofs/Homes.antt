-- The parts of a home that was found.
use Rattle.std.specs.Prelude.{ℕ, Bool, false, ◌≡◌, Option, Some, None}
use mathlib.Core.Path.{ap}
use Rattle.board.specs.Homes.{at_line}
use Rattle.board.specs.declared.Home.{Home}

line_in : Option Home → ℕ
line_in (Some h) = h.line
line_in None = 0

write_in : Option Home → Bool
write_in (Some h) = h.write
write_in None = false

pub home-parts : {l m : ℕ} {w x : Bool} → Some (at_line m x) ≡ Some (at_line l w) → (m ≡ l) × (x ≡ w)
unfolding line_in write_in
home-parts e = (ap line_in e, ap write_in e)

pub home-made : (h : Home) (line : ℕ) (write : Bool) → h.line ≡ line → h.write ≡ write → Some h ≡ Some (at_line line write)
home-made h line write a b = rw (← a, ← b)
