-- 02, CR 14: what a reordering of a run is: a rearrangement of the places of its list, with a condition on each two of them.
use Rattle.std.specs.Prelude.{ℕ, ◌<◌, ◌≡◌, true, List, ◌∷◌, ◌++◌, length, get_or}
use Rattle.machine.specs.Boards.{Board}
use Rattle.order_promises.specs.Strangers.{MayCross, is_supervisors, Kind, board_after, board_at, call_at}

-- ls is a rearrangement of ks: the turn at place i of ks stands at place `to i` of ls, and that at place j of ls comes from place `from j` of ks
pub record Rearrangement {T : Type 0} (ks ls : List T) : Type 0 where
  pub to : ℕ → ℕ
  pub from : ℕ → ℕ
  pub same_length : length ls ≡ length ks
  pub to_inside : (i : ℕ) → i < length ks → to i < length ks
  pub from_inside : (j : ℕ) → j < length ks → from j < length ks
  pub from_to : (i : ℕ) → i < length ks → from (to i) ≡ i
  pub to_from : (j : ℕ) → j < length ks → to (from j) ≡ j
  -- the turns are the same. (`other` is what `get_or` would give past the end)
  pub same_turns : (i : ℕ) (other : T) → i < length ks → get_or ls (to i) other ≡ get_or ks i other

-- ls is a reordering of ks, both run from the board b: a rearrangement in which any two turns that may not cross keep their order. Whether they are strangers is
-- asked at the place of the earlier one; at the other's the slots are the same, if the two change their order (`one_moment`)
pub record Reordering {T : Type 0} (w : Kind T) (b : Board) (ks ls : List T) : Type 0 where
  pub places : Rearrangement ks ls
  pub keeps_order : (i j : ℕ) → i < j → j < length ks → (MayCross (board_at w b ks i).slots (call_at w ks i) (call_at w ks j) → ⊥)
      → places.to i < places.to j

-- what swaps of neighbours make of the list ks, one after another, each anywhere in the list as it then stands
pub data BySwaps {T : Type 0} (w : Kind T) (b : Board) (ks : List T) : List T → Type 0 where
  none : BySwaps w b ks ks
  one_more : (before : List T) (k l : T) (behind : List T) → BySwaps w b ks (before ++ k ∷ l ∷ behind)
      → MayCross (board_after w b before).slots (w.call k) (w.call l) → BySwaps w b ks (before ++ l ∷ k ∷ behind)

-- what the definition comes to, on the board b, whatever it is
pub record ReorderingsAre {T : Type 0} (w : Kind T) (b : Board) : Type 0 where
  -- of two turns that change their order the slots are the same where either stands
  pub one_moment : (ks ls : List T) (r : Reordering w b ks ls) (i j : ℕ) → i < j → j < length ks → r.places.to j < r.places.to i
      → (board_at w b ks i).slots ≡ (board_at w b ks j).slots
  -- and each turn stands before the same slots in both lists
  pub same_slots : (ks ls : List T) (r : Reordering w b ks ls) (i : ℕ) → i < length ks → (board_at w b ks i).slots ≡ (board_at w b ls (r.places.to i)).slots
  -- a supervisor call stays at its place
  pub supervisors_stay : (ks ls : List T) (r : Reordering w b ks ls) (i : ℕ) → i < length ks → is_supervisors (call_at w ks i) ≡ true → r.places.to i ≡ i
  -- the reorderings of a list are what swaps of neighbours reach, all of it and nothing else
  pub reached : (ks ls : List T) → Reordering w b ks ls → BySwaps w b ks ls
  pub nothing_else : (ks ls : List T) → BySwaps w b ks ls → Reordering w b ks ls
  -- so a list is a reordering of itself, one may follow another, and each can be taken back
  pub itself : (ks : List T) → Reordering w b ks ks
  pub again : (ks ls ms : List T) → Reordering w b ks ls → Reordering w b ls ms → Reordering w b ks ms
  pub back : (ks ls : List T) → Reordering w b ks ls → Reordering w b ls ks
