-- What the checker says, rule after rule.
use Rattle.std.specs.Prelude.{Option, Some, None, Result}
use Rattle.std.specs.Result.{is_err}
use Prim.Native.Nat.{ℕ, ◌*◌, ◌≤◌}
use mathlib.Core.Path.{◌≡◌, ◌∙◌, sym, refl, ap}
use mathlib.Core.Bool.{Bool, true, false, ◌&&◌}
use mathlib.Core.List.{List, []}
use lib.ListN.{length}
use lib.Dec.{leb}
use borrow.Author.Tests.{leb-true}
use Rattle.board.specs.Shapes.{fits_shape, max_frames, max_lines}
use Rattle.board.specs.Refusals.{fit}
use Rattle.board.specs.declared.Refusal.{Refusal}
use Rattle.board.specs.declared.Shape.{Shape}
use Rattle.board.specs.declared.Pending.{Pending}
use Rattle.board.proofs.Bools.{clash, and_left, and_right}
use Rattle.stores.specs.Stores.{store}
use Rattle.stores.specs.Premises.{Sized}
use Rattle.machine.specs.Boards.{board}
use Rattle.machine.proofs.Fits.{fit-sized, fit_words, fit-frames, fit-lines}
use Rattle.dumps.specs.Checks.{report, too_short, or_else, from_rule2, checked, room_for, check_call}
use Rattle.dumps.specs.declared.Report.{Report}

module _ (rule : ℕ) (found target : Option ℕ) (later : Report) (e : found ≡ target) where
  pub or_at : (place : ℕ) (r : Report) → found ≡ Some place → r ≡ report rule place → r ≡ or_else rule target later
  unfolding or_else
  or_at place r k q = rw (← e, k, q)

  pub or_later : (r : Report) → found ≡ None → r ≡ later → r ≡ or_else rule target later
  unfolding or_else
  or_later r k q = rw (← e, k, q)

-- a search that finds nothing
pub none-by : (found target : Option ℕ) → found ≡ target → found ≡ None → target ≡ None
none-by found target e k = sym e ∙ k

-- the lengths fit or not, by whether `fit` gave an error
module _ (b t : Bool) (k : Result Unit Refusal) (e : k ≡ fit b) (q : t ≡ is_err k) where
  pub fits-by : t ≡ false → true ≡ b
  fits-by h = go b (sym h ∙ q ∙ ap is_err e)
    where
      go : (u : Bool) → false ≡ is_err (fit u) → true ≡ u
      go true z = refl
      go false z = clash false z refl

  pub unfit-by : t ≡ true → false ≡ b
  unfit-by h = go b (sym h ∙ q ∙ ap is_err e)
    where
      go : (u : Bool) → true ≡ is_err (fit u) → false ≡ u
      go true z = clash true refl z
      go false z = refl

-- what an accepted shape gives, where there are no matrices
module _ (s : Shape) (slots w r c m : List ℕ) (t : Bool) (f : t ≡ fits_shape s (length slots) (length w) (length r) (length c) (length m) 0) (h : t ≡ true) where
  pub one-sized : Sized s r c m
  one-sized = fit-sized s slots w r c m [] t f h

  pub one-words : length w ≡ s.frames
  one-words = fit_words s slots w r c m [] t f h

  pub one-frames : s.frames ≤ max_frames
  one-frames = fit-frames s slots w r c m [] t f h

  pub one-lines : s.lines ≤ max_lines
  one-lines = fit-lines s slots w r c m [] t f h

-- what enough scratch gives
module _ (s : Shape) (keys links : ℕ) (u : Bool) (g : u ≡ room_for s keys links) (h : u ≡ true) where
  room : room_for s keys links ≡ true
  room = sym g ∙ h

  rest : (leb (2 * s.frames) links && (leb s.lines keys && leb (2 * s.lines) links)) ≡ true
  rest = and_right (leb s.frames keys) _ room

  of-lines : (leb s.lines keys && leb (2 * s.lines) links) ≡ true
  of-lines = and_right (leb (2 * s.frames) links) _ rest

  pub room-frames : s.frames ≤ keys
  room-frames = leb-true s.frames keys (and_left (leb s.frames keys) _ room)

  pub room-frame-links : 2 * s.frames ≤ links
  room-frame-links = leb-true (2 * s.frames) links (and_left (leb (2 * s.frames) links) _ rest)

  pub room-lines : s.lines ≤ keys
  room-lines = leb-true s.lines keys (and_left (leb s.lines keys) _ of-lines)

  pub room-line-links : 2 * s.lines ≤ links
  room-line-links = leb-true (2 * s.lines) links (and_right (leb s.lines keys) _ of-lines)

-- the call, with the tests of lengths
module _ (s : Shape) (slots w r c m : List ℕ) (keys links : ℕ) (t : Bool) (f : t ≡ fits_shape s (length slots) (length w) (length r) (length c) (length m) 0) where
  pub call-unfit : (tag : Pending) (a : Report) → t ≡ false → a ≡ report 1 0 → a ≡ check_call s (board slots w r c m tag) keys links
  unfolding check_call checked
  call-unfit tag a h q = rw (← f, h, q)

  module _ (h : t ≡ true) (u : Bool) (g : u ≡ room_for s keys links) where
    pub call-done : (tag : Pending) (a : Report) → u ≡ true → a ≡ from_rule2 s w (store r c m) → a ≡ check_call s (board slots w r c m tag) keys links
    unfolding check_call checked
    call-done tag a k q = rw (← f, h, ← g, k, q)

    pub call-short : (tag : Pending) → u ≡ false → too_short ≡ check_call s (board slots w r c m tag) keys links
    unfolding check_call
    call-short tag k = rw (← f, h, ← g, k)

    -- with both tests passed the scratch may change
    pub call-works : {A : Type 0} → u ≡ true → (fits_shape s (length slots) (length w) (length r) (length c) (length m) 0 && room_for s keys links) ≡ false → A
    call-works k n = clash true refl (rw (← f, h, ← g, k) at n)
