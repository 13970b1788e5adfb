-- Look for C and Rust: what an accepted look says, the place of a line, and the returns.
use Rattle.std.specs.Prelude.{Option, Some, None, Result, Ok, Err}
use Prim.Native.Nat.{ℕ, ◌+◌, ◌*◌, ◌<◌, ◌≤◌}
use mathlib.Core.Path.{◌≡◌, refl, ◌∙◌, sym, ap}
use mathlib.Core.List.{List}
use native.Mathlib.Nat.{add-sub_cancel_left}
use native.Mathlib.Omega.{arith}
use lib.ListN.{length}
use borrow.Author.Tests.{lt-ltb, le-ltb}
use Rattle.board.specs.Shapes.{max_lines}
use Rattle.board.specs.declared.Shape.{Shape}
use Rattle.board.specs.declared.Pending.{Pending}
use Rattle.board.specs.declared.Refusal.{Refusal}
use Rattle.board.specs.Refusals.{call_answer}
use Rattle.board.proofs.Lists.{length_part}
use Rattle.line_bytes.specs.Bytes.{line_of}
use Rattle.stores.specs.Premises.{Sized}
use Rattle.stores.specs.Stores.{store, current_by, current}
use Rattle.lines.specs.Holds.{keeper_of}
use Rattle.lines.specs.Victims.{Uses}
use Rattle.machine.specs.Boards.{Board, sets_board}
use Rattle.machine.specs.Refusals.{by_table}
use Rattle.machine.specs.Looks.{look_number, look}
use Rattle.line_calls.proofs.Looks.{keeper-inside, look-accepted, look-sized, look-line, look-inside, look-refused}
use Rattle.look_place.specs.Lends.{in_memory, nowhere, place_by, look_place, bytes_at, PlaceIsLook}

-- the return of place_of_line
module _ (s : Shape) (r c m : List ℕ) (line : ℕ) (found : Option ℕ) (e : found ≡ keeper_of s r line) where
  pub kept-below : (i : ℕ) → found ≡ Some i → Sized s r c m → i < max_lines
  kept-below i k z = let y = keeper-inside s r line i found e k in omega arith

  pub place_kept : (i : ℕ) → found ≡ Some i → 16 * i ≡ place_by line (keeper_of s r line)
  unfolding place_by
  place_kept i k = ap (place_by line) (sym k ∙ e)

  pub place-memory : found ≡ None → in_memory + 16 * line ≡ place_by line (keeper_of s r line)
  unfolding place_by
  place-memory k = ap (place_by line) (sym k ∙ e)

-- what a look says that is not refused
module _ (s : Shape) (slots w r c m : List ℕ) (u : Uses) (tag : Pending) (line : ℕ) (k : Result Unit Refusal)
    (e : (call_answer k).number ≡ look_number s (sets_board slots w r c m u tag) line) where
  module _ (h : k ≡ Ok tt) where
    sized : Sized s r c m
    sized = look-sized s slots w r c m u tag line k e h

    below : line < 256 * s.frames
    below = look-line s slots w r c m u tag line k e h

    is-current : current s (store r c m) line ≡ look s (sets_board slots w r c m u tag) line
    is-current = look-inside s slots w r c m u tag line k e h (current s (store r c m) line) refl

    length-by : (found : Option ℕ) → found ≡ keeper_of s r line → length (current_by c m line found) ≡ 16
    unfolding current_by line_of
    length-by (Some i) e =
        let y = keeper-inside s r line i (Some i) e refl in
        let z = sized in
        length_part c (16 * i) 16 (omega arith)
    length-by None e =
        let y = below in
        let z = sized in
        length_part m (16 * line) 16 (omega arith)

    look-sixteen : length (look s (sets_board slots w r c m u tag) line) ≡ 16
    unfolding current
    look-sixteen = ap length (sym is-current) ∙ length-by (keeper_of s r line) refl

    pub look-at-inside : (place : ℕ) → place ≡ place_by line (keeper_of s r line) → place ≡ look_place s (sets_board slots w r c m u tag) line
    unfolding look_place by_table
    look-at-inside place d = rw ((look-accepted s slots w r c m u tag line (sym e ∙ ap (λ (x : Result Unit Refusal). (call_answer x).number) h)).0, lt-ltb line (256 * s.frames) below) d

    place-bytes : (found : Option ℕ) → found ≡ keeper_of s r line → bytes_at (sets_board slots w r c m u tag) (place_by line found) ≡ current_by c m line found
    unfolding bytes_at place_by current_by line_of
    place-bytes (Some i) e =
        let y = kept-below s r c m line (Some i) e i refl sized in
        let z : 16 * i < in_memory = omega arith in
        rw (lt-ltb _ _ z)
    place-bytes None e =
        let z : in_memory ≤ in_memory + 16 * line = omega arith in
        rw (le-ltb _ _ z, add-sub_cancel_left)

  pub look-at-refused : (why : Refusal) → k ≡ Err why → nowhere ≡ look_place s (sets_board slots w r c m u tag) line
  unfolding look_place
  look-at-refused why h = look-refused s slots w r c m u tag line k e why h nowhere _

place-look : (s : Shape) (b : Board) (line : ℕ) → look_number s b line ≡ 0 → bytes_at b (look_place s b line) ≡ look s b line
unfolding current
place-look s b line h =
    let slots = b.slots in
    let w = b.words in
    let r = b.store.records in
    let c = b.store.cache in
    let m = b.store.memory in
    let u = b.uses in
    let found = keeper_of s r line in
    ap (bytes_at b) (sym (look-at-inside s slots w r c m u b.tag line (Ok tt) (sym h) refl (place_by line found) refl))
    ∙ (place-bytes s slots w r c m u b.tag line (Ok tt) (sym h) refl found refl ∙ is-current s slots w r c m u b.tag line (Ok tt) (sym h) refl)

place-sixteen : (s : Shape) (b : Board) (line : ℕ) → look_number s b line ≡ 0 → length (bytes_at b (look_place s b line)) ≡ 16
place-sixteen s b line h =
    ap length (place-look s b line h) ∙ look-sixteen s b.slots b.words b.store.records b.store.cache b.store.memory b.uses b.tag line (Ok tt) (sym h) refl

pub place-is-look : PlaceIsLook
place-is-look = record { bytes = place-look; inside = place-sixteen; no_second_place = λ s b line x y p q. p ∙ sym q }
