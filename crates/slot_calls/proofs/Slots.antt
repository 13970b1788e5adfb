-- Attach and detach: what their ranges give, and their returns.
use Rattle.std.specs.Prelude.{Result, Ok}
use Prim.Native.Nat.{ℕ, ◌≤◌, ◌<◌, ◌^◌}
use mathlib.Core.Path.{◌≡◌, ◌∙◌, refl, sym}
use mathlib.Core.Bool.{Bool, true, false, ◌&&◌}
use mathlib.Core.List.{List}
use native.Mathlib.Omega.{arith}
use lib.Dec.{leb}
use lib.ListN.{length, set}
use borrow.Author.Tests.{leb-true, ltb-true}
use Rattle.address.specs.Layout.{first_segment, last_segment, process_slots}
use Rattle.address.specs.Addresses.{attachable}
use Rattle.board.specs.Answers.{answer}
use Rattle.board.specs.Shapes.{fits_shape}
use Rattle.board.specs.Refusals.{fit}
use Rattle.slots.specs.Slots.{slot_index, slot_word}
use Rattle.board.specs.declared.Refusal.{Refusal}
use Rattle.board.specs.declared.Shape.{Shape}
use Rattle.board.specs.declared.Pending.{Pending}
use Rattle.board.proofs.Bools.{and_left, and_right}
use Rattle.lines.specs.Victims.{Uses}
use Rattle.machine.specs.Boards.{sets_board, outcome}
use Rattle.machine.specs.Refusals.{by_table, is_process, is_slot}
use Rattle.machine.specs.Calls.{attach, detach}
use Rattle.machine.proofs.Fits.{fitted, fitted-slots}

-- what the ranges of a process and a slot give
module _ (s : Shape) (process slot : ℕ) (p : Bool) (e : p ≡ (is_process s process && is_slot slot)) (k : p ≡ true) where
  -- the slots of a process stand inside the list
  pub process-room : (slots w r c m : List ℕ) (u : Uses) (t : Result Unit Refusal)
      → t ≡ fit (fits_shape s (length slots) (length w) (length r) (length c) (length m) (length u)) → t ≡ Ok tt → slot_index process process_slots ≤ length slots
  process-room slots w r c m u t f h =
      let z = fitted-slots s slots w r c m u t f h in
      let y = ltb-true process s.processes (and_left (is_process s process) (is_slot slot) (sym e ∙ k)) in
      omega arith

  pub slot-below : slot < process_slots
  slot-below = ltb-true slot process_slots (and_right (is_process s process) (is_slot slot) (sym e ∙ k))

pub segment-below : (segment : ℕ) (a : Bool) → a ≡ attachable segment → a ≡ true → segment < 2 ^ 22
segment-below segment a e k =
    let z = leb-true segment last_segment (and_right (leb first_segment segment) _ (sym e ∙ k)) in
    omega arith

-- three ranges, of which the first two were asked together
attach-by : (x y z : Bool) → (x && (y && z)) ≡ ((x && y) && z)
attach-by true y z = refl
attach-by false y z = refl

module _ (s : Shape) (slots w r c m : List ℕ) (u : Uses) (tag : Pending) (t : Result Unit Refusal)
    (f : t ≡ fit (fits_shape s (length slots) (length w) (length r) (length c) (length m) (length u))) (h : t ≡ Ok tt) (process slot : ℕ) (p : Bool)
    (e : p ≡ (is_process s process && is_slot slot)) where
  module _ (segment : ℕ) (write : Bool) where
    pub attach-done : (a : Bool) (slots₁ : List ℕ) → p ≡ true → a ≡ attachable segment → a ≡ true → slots₁ ≡ set slots (slot_index process slot) (slot_word segment write)
        → outcome (answer 0 0 0) (sets_board slots₁ w r c m u tag) ≡ attach s (sets_board slots w r c m u tag) process slot segment write
    unfolding attach by_table
    attach-done a slots₁ k d i g =
        rw (← fitted s slots w r c m u t f h, attach-by (is_process s process) (is_slot slot) (attachable segment), ← e, k, ← d, i, g)

    pub attach-no-slot : p ≡ false
        → outcome (answer 2 0 0) (sets_board slots w r c m u tag) ≡ attach s (sets_board slots w r c m u tag) process slot segment write
    unfolding attach by_table
    attach-no-slot k = rw (← fitted s slots w r c m u t f h, attach-by (is_process s process) (is_slot slot) (attachable segment), ← e, k)

    pub attach-no-segment : (a : Bool) → p ≡ true → a ≡ attachable segment → a ≡ false
        → outcome (answer 2 0 0) (sets_board slots w r c m u tag) ≡ attach s (sets_board slots w r c m u tag) process slot segment write
    unfolding attach by_table
    attach-no-segment a k d i = rw (← fitted s slots w r c m u t f h, attach-by (is_process s process) (is_slot slot) (attachable segment), ← e, k, ← d, i)

  pub detach-done : (slots₁ : List ℕ) → p ≡ true → slots₁ ≡ set slots (slot_index process slot) 0
      → outcome (answer 0 0 0) (sets_board slots₁ w r c m u tag) ≡ detach s (sets_board slots w r c m u tag) process slot
  unfolding detach by_table
  detach-done slots₁ k g = rw (← fitted s slots w r c m u t f h, ← e, k, g)

  pub detach-no-slot : p ≡ false → outcome (answer 2 0 0) (sets_board slots w r c m u tag) ≡ detach s (sets_board slots w r c m u tag) process slot
  unfolding detach by_table
  detach-no-slot k = rw (← fitted s slots w r c m u t f h, ← e, k)
