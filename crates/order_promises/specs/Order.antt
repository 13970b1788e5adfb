-- 02, CR 14: what stays the same where two neighbouring accesses by strangers are swapped, and in any reordering of a run.
-- Marks and records are not in it: they may differ.
use Rattle.std.specs.Prelude.{ℕ, suc, ◌<◌, ◌≡◌, true, List, [], ◌∷◌, ◌++◌, length}
use Rattle.board.specs.Shapes.{one_line, four_lines}
use Rattle.board.specs.declared.Shape.{Shape}
use Rattle.board.specs.declared.Answer.{Answer}
use Rattle.machine.specs.Boards.{Board, Fresh}
use Rattle.machine.specs.Looks.{look_number, look}
use Rattle.machine.specs.Lists.{user_accesses}
use Rattle.promises.specs.Runs.{Supervisor, supervisor}
use Rattle.promises.specs.Sound.{Sound}
use Rattle.promises.specs.Brought.{EachBrings}
use Rattle.promises.specs.Lists.{Turn, single, after_turns, replies_of, calls_of}
use Rattle.order_promises.specs.Strangers.{MayCross, is_supervisors, Kind, calls, broughts, board_after, board_at, replies_in, call_at, reply_at}
use Rattle.order_promises.specs.Reorderings.{Reordering, ReorderingsAre}

-- ---- two boards that no number, no value and no look tells apart

-- look, in the shape s, shows the same of all memory, and refuses the same
pub record SameShown (s : Shape) (b c : Board) : Type 0 where
  pub same_bytes : (line : ℕ) → look s b line ≡ look s c line
  pub same_numbers : (line : ℕ) → look_number s b line ≡ look_number s c line

-- that is so after any later turns js that are meant on the first board, so also now (js is []), and these turns get the same numbers and values
pub record SameOnward {T : Type 0} (w : Kind T) (s : Shape) (b c : Board) : Type 0 where
  pub shown : (js : List T) → w.Meant b js → SameShown s (board_after w b js) (board_after w c js)
  pub later_replies : (js : List T) → w.Meant b js → replies_in w b js ≡ replies_in w c js

-- ---- two neighbours

-- two turns made on the board b, one after the other, in either order: each gets the same, and nothing tells the boards apart afterwards
pub record Swapped {T : Type 0} (w : Kind T) (s : Shape) (b : Board) (k l : T) : Type 0 where
  pub same_first : w.gets b k ≡ w.gets (w.leaves b l) k
  pub same_second : w.gets (w.leaves b k) l ≡ w.gets b l
  pub onward : SameOnward w s (board_after w b (k ∷ l ∷ [])) (board_after w b (l ∷ k ∷ []))

-- ---- any reordering

-- what is the same of the run ks from the board b and of ls, in which the turn at place i of ks stands at place `to i`
pub record SameReordered {T : Type 0} (w : Kind T) (s : Shape) (b : Board) (ks ls : List T) (to : ℕ → ℕ) : Type 0 where
  -- each turn gets the same, at its place
  pub same_replies : (i : ℕ) → i < length ks → reply_at (replies_in w b ks) i ≡ reply_at (replies_in w b ls) (to i)
  -- look shows the same just before each supervisor call, and just after it
  pub shown_before : (i : ℕ) → i < length ks → is_supervisors (call_at w ks i) ≡ true → SameShown s (board_at w b ks i) (board_at w b ls (to i))
  pub shown_after : (i : ℕ) → i < length ks → is_supervisors (call_at w ks i) ≡ true → SameShown s (board_at w b ks (suc i)) (board_at w b ls (suc (to i)))
  -- and at the end, and nothing tells the boards apart afterwards
  pub onward : SameOnward w s (board_after w b ks) (board_after w b ls)

-- ---- runs of one kind, from the board b

pub record OrderOf {T : Type 0} (w : Kind T) (s : Shape) (b : Board) : Type 0 where
  -- any two neighbours that may cross, after any turns `before`
  pub swap : (before : List T) (k l : T) → w.Meant b (before ++ k ∷ l ∷ []) → MayCross (board_after w b before).slots (w.call k) (w.call l)
      → Swapped w s (board_after w b before) k l
  pub reorder : (ks ls : List T) → w.Meant b ks → (r : Reordering w b ks ls) → SameReordered w s b ks ls r.places.to

-- ---- runs in which lists of accesses come (CR 12): such a run is the run of the calls that it stands for

-- what is the same of the runs ts and us from the board b; the call at place i of those that ts stands for is at place `to i` of those of us, in lists or alone
pub record SameOfLists (s : Shape) (b : Board) (ts us : List Turn) (to : ℕ → ℕ) : Type 0 where
  -- each call and each access of a list gets the same
  pub same_replies : (i : ℕ) → i < length (calls_of b ts) → reply_at (replies_of b ts) i ≡ reply_at (replies_of b us) (to i)
  -- look shows the same at a supervisor call that stands behind the turns xs in ts, and behind ys in us, as many calls coming before it
  pub shown_before : (xs xs' ys ys' : List Turn) (t : Shape) (c : Supervisor) → ts ≡ xs ++ single t (supervisor c) ∷ xs' → us ≡ ys ++ single t (supervisor c) ∷ ys'
      → length (calls_of b xs) ≡ length (calls_of b ys) → SameShown s (after_turns b xs) (after_turns b ys)
  pub shown_after : (xs xs' ys ys' : List Turn) (t : Shape) (c : Supervisor) → ts ≡ xs ++ single t (supervisor c) ∷ xs' → us ≡ ys ++ single t (supervisor c) ∷ ys'
      → length (calls_of b xs) ≡ length (calls_of b ys)
      → SameShown s (after_turns b (xs ++ single t (supervisor c) ∷ [])) (after_turns b (ys ++ single t (supervisor c) ∷ []))
  -- and after any later turns, so also at the end (`later` is []); and their calls get the same. (Which calls a turn stands for hangs on lengths, and no call
  -- changes one)
  pub shown : (later : List Turn) → EachBrings s (after_turns b ts) (calls_of b later) → SameShown s (after_turns (after_turns b ts) later) (after_turns (after_turns b us) later)
  pub later_replies : (later : List Turn) → EachBrings s (after_turns b ts) (calls_of b later) → replies_of (after_turns b ts) later ≡ replies_of (after_turns b us) later
  -- a list itself, behind them, gets the same: taken in both or refused in both
  pub later_list : (later : List Turn) (t : Shape) (accesses : List ℕ) (answers : List Answer)
      → (user_accesses t (after_turns (after_turns b ts) later) accesses answers).answer ≡ (user_accesses t (after_turns (after_turns b us) later) accesses answers).answer

abbrev pub OrderOfLists : Shape → Board → Type 0
OrderOfLists s b =
    (ts us : List Turn) → EachBrings s b (calls_of b ts) → (r : Reordering (broughts s) b (calls_of b ts) (calls_of b us)) → SameOfLists s b ts us r.places.to

-- ---- the promise

-- of all runs from the board b: of calls in its own shape, of calls that bring their numbers, and with lists
pub record OrderFrom (s : Shape) (b : Board) : Type 0 where
  pub of_calls : OrderOf (calls s) s b
  pub of_brought : OrderOf (broughts s) s b
  pub of_lists : OrderOfLists s b

-- from any sound board, and from any fresh one, whether its numbers fit or not
pub record OrderIn (s : Shape) : Type 0 where
  pub from_sound : (b : Board) → Sound s b → OrderFrom s b
  pub from_fresh : (b : Board) → Fresh b → OrderFrom s b

pub record Order : Type 0 where
  -- in every shape, so in both editions
  pub every_shape : (s : Shape) → OrderIn s
  pub one_line : (f u p l : ℕ) → OrderIn (one_line f u p l)
  pub four_lines : (f u p l : ℕ) → OrderIn (four_lines f u p l)
  -- and what a reordering is, on any board at all
  pub reorderings : (s : Shape) (b : Board) → ReorderingsAre (calls s) b
  pub reorderings_brought : (s : Shape) (b : Board) → ReorderingsAre (broughts s) b
