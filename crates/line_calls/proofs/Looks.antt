-- Look: the record that keeps a line, the part of a list, and the returns.
use Rattle.std.specs.Prelude.{Option, Some, None, Result, Ok, Err}
use Prim.Native.Nat.{ℕ, ◌+◌, ◌*◌, ◌-◌, ◌≤◌, ◌<◌}
use mathlib.Core.Path.{◌≡◌, ◌∙◌, refl, sym, ap}
use mathlib.Core.Bool.{Bool, true, false, not, cond}
use mathlib.Core.List.{List, []}
use native.Mathlib.Nat.{add-sub_cancel_left}
use native.Mathlib.Omega.{arith}
use lib.ListN.{length, take, drop}
use lib.Dec.{ltb}
use borrow.Author.Tests.{ltb-true, not-false, lt-ltb, le-ltb}
use Rattle.board.specs.Lists.{part}
use Rattle.board.specs.Shapes.{fits_shape}
use Rattle.board.specs.declared.Shape.{Shape}
use Rattle.board.specs.declared.Pending.{Pending}
use Rattle.board.specs.declared.Refusal.{Refusal}
use Rattle.board.specs.declared.Refusal.TheVariants.{Unfit, OutOfRange, TagState, Misaligned, KernelAddress, EmptySlot, ReadOnlySegment, Unmapped, ReadOnlyPage, FrameInUse, AlreadyMapped, Outside, WrongLine}
use Rattle.board.specs.Refusals.{number_of, fit, call_answer}
use Rattle.board.proofs.Searches.{first-at}
use Rattle.line_bytes.specs.Bytes.{line_of}
use Rattle.stores.specs.Premises.{Sized}
use Rattle.stores.specs.Stores.{store, current_by, current}
use Rattle.lines.specs.Holds.{keeps_line, keeper_of}
use Rattle.lines.specs.Victims.{Uses}
use Rattle.machine.specs.Boards.{sets_board, fits_board}
use Rattle.machine.specs.Refusals.{by_table}
use Rattle.machine.specs.Looks.{look_table, look_number, look, Start, line_start, start_by, look_start}
use Rattle.machine.proofs.Tables.{table-passed}
use Rattle.machine.proofs.Fits.{fit-sized, fitted}

-- the record that keeps a line is one of those searched
pub keeper-inside : (s : Shape) (records : List ℕ) (line i : ℕ) (found : Option ℕ) → found ≡ keeper_of s records line → found ≡ Some i → i < s.lines
unfolding keeper_of
keeper-inside s records line i found e k = let z = (first-at (keeps_line s records line) 0 s.lines i (sym e ∙ k)).to in omega arith

-- the sixteen bytes, as the part that the code lends
part-line : (bytes : List ℕ) (i : ℕ) → take (16 * i + 16 - 16 * i) (drop (16 * i) bytes) ≡ line_of bytes i
unfolding line_of part
part-line bytes i = rw add-sub_cancel_left

module _ (s : Shape) (r c m : List ℕ) (line : ℕ) (found : Option ℕ) (e : found ≡ keeper_of s r line) where
  current-on : current_by c m line found ≡ current s (store r c m) line
  unfolding current
  current-on = rw e

  pub current-kept : (i : ℕ) → found ≡ Some i → take (16 * i + 16 - 16 * i) (drop (16 * i) c) ≡ current s (store r c m) line
  unfolding current_by
  current-kept i k = part-line c i ∙ (ap (current_by c m line) (sym k) ∙ current-on)

  pub current-memory : found ≡ None → take (16 * line + 16 - 16 * line) (drop (16 * line) m) ≡ current s (store r c m) line
  unfolding current_by
  current-memory k = part-line m line ∙ (ap (current_by c m line) (sym k) ∙ current-on)

-- no refusal has number 0
some-number : (why : Refusal) → number_of why ≡ 0 → ⊥
some-number Unfit e = omega (arith, e)
some-number OutOfRange e = omega (arith, e)
some-number TagState e = omega (arith, e)
some-number Misaligned e = omega (arith, e)
some-number KernelAddress e = omega (arith, e)
some-number EmptySlot e = omega (arith, e)
some-number ReadOnlySegment e = omega (arith, e)
some-number Unmapped e = omega (arith, e)
some-number ReadOnlyPage e = omega (arith, e)
some-number FrameInUse e = omega (arith, e)
some-number AlreadyMapped e = omega (arith, e)
some-number Outside e = omega (arith, e)
some-number WrongLine e = omega (arith, e)

-- where they begin: z is the start of the part that the code lends
start-parts : (z x : Start) → z.0 ≡ x.0 → z.1 ≡ x.1 → z ≡ x
start-parts z x p q i = (p i, q i)

module _ (s : Shape) (r : List ℕ) (line : ℕ) (found : Option ℕ) (e : found ≡ keeper_of s r line) (x y z : Start) where
  pub start-kept : (i : ℕ) → found ≡ Some i → z.0 ≡ x.0 → z.1 ≡ x.1 + 16 * i → z ≡ start_by x y line (keeper_of s r line)
  unfolding start_by
  start-kept i k p q = start-parts z (line_start x i) p q ∙ ap (start_by x y line) (sym k ∙ e)

  pub start-memory : found ≡ None → z.0 ≡ y.0 → z.1 ≡ y.1 + 16 * line → z ≡ start_by x y line (keeper_of s r line)
  unfolding start_by
  start-memory k p q = start-parts z (line_start y line) p q ∙ ap (start_by x y line) (sym k ∙ e)

-- the returns
module _ (s : Shape) (slots w r c m : List ℕ) (u : Uses) (tag : Pending) (line : ℕ) where
  -- look's number is 0 on an accepted board with such a line
  pub look-accepted : look_number s (sets_board slots w r c m u tag) line ≡ 0
      → (fits_shape s (length slots) (length w) (length r) (length c) (length m) (length u) ≡ true) × (line < 256 * s.frames)
  unfolding look_number
  look-accepted e =
      let k₁ = table-passed (λ (n : ℕ). n) 1 (not (fits_board s (sets_board slots w r c m u tag))) _ 0 0 (λ z. omega arith) e in
      let k₂ = table-passed (λ (n : ℕ). n) 2 (not (ltb line (256 * s.frames))) _ 0 0 (λ z. omega arith) k₁.1 in
      (not-false (fits_board s (sets_board slots w r c m u tag)) k₁.0, ltb-true line (256 * s.frames) (not-false (ltb line (256 * s.frames)) k₂.0))

  module _ (t : Result Unit Refusal) (f : t ≡ fit (fits_shape s (length slots) (length w) (length r) (length c) (length m) (length u))) where
    pub check-unfit : (q : Result Unit Refusal) (why : Refusal) → t ≡ Err why → q ≡ Err why
        → (call_answer q).number ≡ look_number s (sets_board slots w r c m u tag) line
    unfolding look_number by_table
    check-unfit q why h e = go (fits_shape s (length slots) (length w) (length r) (length c) (length m) (length u)) (sym f ∙ h)
      where
        go : (x : Bool) → fit x ≡ Err why → (call_answer q).number ≡ cond (not x) 1 (cond (not (ltb line (256 * s.frames))) 2 0)
        go true k = absurd (let z : ◌≡◌ {A = ℕ} 0 1 = cc in omega arith)
        go false k = let z : why ≡ Unfit = cc in rw (e, z)

    module _ (h : t ≡ Ok tt) where
      pub check-outside : 256 * s.frames ≤ line → 2 ≡ look_number s (sets_board slots w r c m u tag) line
      unfolding look_number by_table
      check-outside k = rw (← fitted s slots w r c m u t f h, le-ltb _ _ k)

      pub check-inside : line < 256 * s.frames → 0 ≡ look_number s (sets_board slots w r c m u tag) line
      unfolding look_number by_table
      check-inside k = rw (← fitted s slots w r c m u t f h, lt-ltb _ _ k)

  module _ (k : Result Unit Refusal) (e : (call_answer k).number ≡ look_number s (sets_board slots w r c m u tag) line) where
    -- where look is not refused
    module _ (h : k ≡ Ok tt) where
      accepted : (fits_shape s (length slots) (length w) (length r) (length c) (length m) (length u) ≡ true) × (line < 256 * s.frames)
      accepted = look-accepted (sym e ∙ ap (λ (x : Result Unit Refusal). (call_answer x).number) h)

      pub look-sized : Sized s r c m
      look-sized = fit-sized s slots w r c m u (fits_shape s (length slots) (length w) (length r) (length c) (length m) (length u)) refl accepted.0

      pub look-line : line < 256 * s.frames
      look-line = accepted.1

      pub look-inside : (bytes : List ℕ) → bytes ≡ current s (store r c m) line → bytes ≡ look s (sets_board slots w r c m u tag) line
      unfolding look by_table
      look-inside bytes d = rw (accepted.0, lt-ltb _ _ look-line) d

      pub start-inside : (x y z : Start) → z ≡ start_by x y line (keeper_of s r line) → z ≡ look_start s (sets_board slots w r c m u tag) line x y
      unfolding look_start by_table
      start-inside x y z d = rw (accepted.0, lt-ltb _ _ look-line) d

    -- and where it is: whatever the refusal, its table gives what a refused look gives
    module _ (why : Refusal) (h : k ≡ Err why) where
      numbered : number_of why ≡ look_number s (sets_board slots w r c m u tag) line
      numbered = ap (λ (x : Result Unit Refusal). (call_answer x).number) (sym h) ∙ e

      pub look-refused : {A : Type 0} (none x : A) → none ≡ by_table (λ n. none) (look_table s (sets_board slots w r c m u tag) line) x
      unfolding look_number by_table
      look-refused none x = go (fits_board s (sets_board slots w r c m u tag)) (ltb line (256 * s.frames)) why numbered
        where
          go : (t v : Bool) (why : Refusal) → number_of why ≡ cond (not t) 1 (cond (not v) 2 0) → none ≡ cond (not t) none (cond (not v) none x)
          go true true why d = absurd (some-number why d)
          go true false why d = refl
          go false v why d = refl

      pub look-empty : [] ≡ look s (sets_board slots w r c m u tag) line
      unfolding look
      look-empty = look-refused [] _

      pub start-refused : (x y z : Start) → z.0 ≡ x.0 → z.1 ≡ x.1 → z ≡ look_start s (sets_board slots w r c m u tag) line x y
      unfolding look_start
      start-refused x y z p q = start-parts z x p q ∙ look-refused x _
