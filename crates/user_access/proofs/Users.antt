-- A user access: the check carried to the access's table, return by return.
use Rattle.std.specs.Prelude.{Result, Ok, Err}
use Prim.Native.Nat.{ℕ, ◌*◌, ◌≤◌}
use mathlib.Core.Path.{◌≡◌, ◌∙◌, refl, sym, ap}
use mathlib.Core.Bool.{true}
use mathlib.Core.List.{List, ◌++◌}
use lib.ListN.{length}
use Rattle.address.specs.declared.Effective.{Effective}
use Rattle.address.specs.declared.Global.{Global}
use Rattle.address.specs.Layout.{process_slots}
use Rattle.board.specs.Shapes.{fits_shape, matrices_of, max_processes}
use Rattle.board.specs.Refusals.{fit, access_answer}
use Rattle.board.specs.declared.Accessed.{Accessed}
use Rattle.board.specs.declared.Answer.{Answer}
use Rattle.board.specs.declared.Refusal.{Refusal}
use Rattle.board.specs.declared.Shape.{Shape}
use Rattle.board.specs.declared.Pending.{Pending}
use Rattle.lines.specs.Victims.{Uses}
use Rattle.stores.specs.Premises.{Sized}
use Rattle.stores.specs.Stores.{store}
use Rattle.stores.specs.declared.Access.{Access}
use Rattle.machine.specs.Boards.{Board, sets_board, Outcome, outcome, refused}
use Rattle.machine.specs.Refusals.{by_table, line_rows}
use Rattle.machine.specs.Accesses.{reached, stopped, touched, way_to, accessed, on_board, user_rows, user_global, user_table, user_access}
use Rattle.machine.proofs.Fits.{fit-sized, fit_words, fit-slots, fit-processes, fit-uses, fitted, unfitted}
use Rattle.machine.proofs.Tables.{table-append, table-map, known, by_check, check-table}
use Rattle.line_access.specs.LineAccess.{line_access}
use Rattle.user_access.specs.Checks.{user_check}

-- what follows a check that passed
line-done : Shape → Board → Access → Global → Outcome
line-done s b a g = on_board b (line_access s b.words g true a b.store b.uses)

module _ (s : Shape) (b : Board) (process : ℕ) (a : Access) (e : Effective) where
  -- a line's two rows, carried to the board
  done-rows : (g : Global)
      → line-done s b a g ≡ by_table (refused b) (line_rows a (way_to s b.words b.store.records g)) (on_board b (accessed s b.words g a b.store b.uses))
  unfolding line-done line_access
  done-rows g =
      table-map (on_board b) (λ n. touched (stopped b.store n) b.uses) (line_rows a (way_to s b.words b.store.records g))
      (accessed s b.words g a b.store b.uses)

  -- a check's rows, then a line's
  check-rows : (k : Result Global Refusal) → k ≡ user_check s b.slots b.tag process a e
      → by_check (refused b) (line-done s b a) k
      ≡ by_table (refused b) (user_rows s b.slots b.tag process a e ++ line_rows a (way_to s b.words b.store.records (user_global b.slots process e)))
      (on_board b (accessed s b.words (user_global b.slots process e) a b.store b.uses))
  unfolding user_check known
  check-rows k q =
      check-table (refused b) (line-done s b a) (user_rows s b.slots b.tag process a e) (user_global b.slots process e) k refl q
      ∙ ap (by_table (refused b) (user_rows s b.slots b.tag process a e)) (done-rows (user_global b.slots process e))
      ∙ sym (table-append (refused b) (user_rows s b.slots b.tag process a e) _ _)

-- a shape that doesn't fit, and one that does
module _ (s : Shape) (slots words r c m : List ℕ) (u : Uses) (k : Result Unit Refusal)
    (f : k ≡ fit (fits_shape s (length slots) (length words) (length r) (length c) (length m) (length u))) where
  pub user-unfit : (tag : Pending) (process : ℕ) (a : Access) (e : Effective) (q : Result Accessed Refusal) (why : Refusal) → k ≡ Err why → q ≡ Err why
      → outcome (access_answer q) (sets_board slots words r c m u tag) ≡ user_access s (sets_board slots words r c m u tag) process a e
  unfolding user_access user_table
  user-unfit tag process a e q why h i = rw i (unfitted s slots words r c m u k f (Err why) why tag _ _ h refl)

  pub user-fit : k ≡ Ok tt → fits_shape s (length slots) (length words) (length r) (length c) (length m) (length u) ≡ true
  user-fit h = sym (fitted s slots words r c m u k f h)

module _ (s : Shape) (slots words r c m : List ℕ) (u : Uses)
    (f : fits_shape s (length slots) (length words) (length r) (length c) (length m) (length u) ≡ true) where
  -- what the check and the access to the line ask
  pub fitting-slots : length slots ≡ s.processes * process_slots
  fitting-slots = fit-slots s slots words r c m u true (sym f) refl

  pub fitting-processes : s.processes ≤ max_processes
  fitting-processes = fit-processes s slots words r c m u true (sym f) refl

  pub fitting-words : length words ≡ s.frames
  fitting-words = fit_words s slots words r c m u true (sym f) refl

  pub fitting-uses : length u ≡ matrices_of s
  fitting-uses = fit-uses s slots words r c m u true (sym f) refl

  pub fitting-sized : Sized s r c m
  fitting-sized = fit-sized s slots words r c m u true (sym f) refl

  module _ (tag : Pending) (process : ℕ) (a : Access) (e : Effective) (k : Result Global Refusal) (q : k ≡ user_check s slots tag process a e) where
    abbrev b : Board
    b = sets_board slots words r c m u tag

    user-on : by_check (refused b) (line-done s b a) k ≡ user_access s b process a e
    unfolding user_access user_table by_table
    user-on = check-rows s b process a e k q ∙ rw f

    pub user-refused : (x : Result Accessed Refusal) (why : Refusal) → k ≡ Err why → x ≡ Err why → outcome (access_answer x) b ≡ user_access s b process a e
    unfolding by_check
    user-refused x why i j = rw j (ap (by_check (refused b) (line-done s b a)) (sym i) ∙ user-on)

    pub user-goes : (g : Global) (x : Answer) (r₁ c₁ m₁ : List ℕ) (u₁ : Uses) → k ≡ Ok g
        → touched (reached x r₁ c₁ m₁) u₁ ≡ line_access s words g true a (store r c m) u
        → outcome x (sets_board slots words r₁ c₁ m₁ u₁ tag) ≡ user_access s b process a e
    unfolding by_check line-done
    user-goes g x r₁ c₁ m₁ u₁ i d = ap (on_board b) d ∙ ap (by_check (refused b) (line-done s b a)) (sym i) ∙ user-on
