-- Tag and drop tag: their returns.
use Rattle.std.specs.Prelude.{Result, Ok}
use Prim.Native.Nat.{ℕ, ◌/◌}
use mathlib.Core.Path.{◌≡◌}
use mathlib.Core.Bool.{Bool, true, false, not, cond}
use mathlib.Core.List.{List}
use lib.ListN.{length}
use Rattle.address.specs.Addresses.{ordinary_page}
use Rattle.board.specs.Answers.{answer}
use Rattle.board.specs.Shapes.{fits_shape}
use Rattle.board.specs.declared.Shape.{Shape}
use Rattle.board.specs.declared.Pending.{Pending}
use Rattle.board.specs.declared.Refusal.{Refusal}
use Rattle.board.specs.Refusals.{fit}
use Rattle.lines.specs.Victims.{Uses}
use Rattle.machine.specs.Boards.{sets_board, outcome, no_tag, tagged}
use Rattle.machine.specs.Refusals.{by_table}
use Rattle.machine.specs.Calls.{tag, drop_tag}
use Rattle.machine.proofs.Fits.{fitted}

-- a row that applies: by itself, since the tag that the row asks stands in the board too
if-true : {A : Type 0} (t : Bool) (x y : A) → t ≡ true → x ≡ cond t x y
if-true t x y h = rw h

if-false : {A : Type 0} (t : Bool) (x y : A) → t ≡ false → x ≡ cond (not t) x y
if-false t x y h = rw h

-- nothing is pending
tag-parts : (none : Pending) → none.set ≡ false → none.name ≡ 0 → none ≡ no_tag
tag-parts none p q i = record { set = p i; name = q i }

module _ (s : Shape) (slots w r c m : List ℕ) (u : Uses) (pending : Pending) (t : Result Unit Refusal)
    (f : t ≡ fit (fits_shape s (length slots) (length w) (length r) (length c) (length m) (length u))) (h : t ≡ Ok tt) where
  module _ (name : ℕ) (o : Bool) (e : o ≡ ordinary_page (name / 256)) where
    pub tag-outside : o ≡ false → outcome (answer 2 0 0) (sets_board slots w r c m u pending) ≡ tag s (sets_board slots w r c m u pending) name
    unfolding tag by_table
    tag-outside k = rw (← fitted s slots w r c m u t f h, ← e, k)

    pub tag-pending : o ≡ true → pending.set ≡ true → outcome (answer 3 0 0) (sets_board slots w r c m u pending) ≡ tag s (sets_board slots w r c m u pending) name
    unfolding tag by_table
    tag-pending k j = rw (← fitted s slots w r c m u t f h, ← e, k) (if-true pending.set _ _ j)

    pub tag-done : o ≡ true → pending.set ≡ false → outcome (answer 0 0 0) (sets_board slots w r c m u (tagged name)) ≡ tag s (sets_board slots w r c m u pending) name
    unfolding tag by_table
    tag-done k j = rw (← fitted s slots w r c m u t f h, ← e, k, j)

  pub drop-done : (none : Pending) → pending.set ≡ true → none.set ≡ false → none.name ≡ 0
      → outcome (answer 0 0 0) (sets_board slots w r c m u none) ≡ drop_tag s (sets_board slots w r c m u pending)
  unfolding drop_tag by_table
  drop-done none j p q = let z : none ≡ no_tag = tag-parts none p q in rw (← fitted s slots w r c m u t f h, j, z)

  pub drop-empty : pending.set ≡ false → outcome (answer 3 0 0) (sets_board slots w r c m u pending) ≡ drop_tag s (sets_board slots w r c m u pending)
  unfolding drop_tag by_table
  drop-empty j = rw (← fitted s slots w r c m u t f h) (if-false pending.set _ _ j)
