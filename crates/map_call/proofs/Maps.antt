-- Map: what its check gives, the change, and the returns.
use Rattle.std.specs.Prelude.{Option, Some, None, Result, Ok, Err}
use Rattle.std.specs.Option.{is_some}
use Prim.Native.Nat.{ℕ, ◌<◌, ◌^◌}
use mathlib.Core.Path.{◌≡◌, ◌∙◌, refl, sym, ap}
use mathlib.Core.Bool.{Bool, true, false, not, ◌&&◌, cond}
use mathlib.Core.List.{List}
use native.Mathlib.Omega.{arith}
use lib.Dec.{leb, ltb}
use lib.ListN.{length, get_or, set}
use borrow.Author.Tests.{eq-eqb, ne_eqb, ltb-true}
use Rattle.address.specs.Addresses.{ordinary_page}
use Rattle.board.specs.Answers.{answer}
use Rattle.board.specs.Shapes.{fits_shape}
use Rattle.board.specs.Refusals.{fit, call_answer}
use Rattle.board.specs.declared.Refusal.{Refusal}
use Rattle.board.specs.declared.Refusal.TheVariants.{OutOfRange, FrameInUse, AlreadyMapped}
use Rattle.pages.specs.Pages.{mapped_to, frame_word}
use Rattle.board.specs.declared.Shape.{Shape}
use Rattle.board.specs.declared.Pending.{Pending}
use Rattle.board.proofs.Bools.{and_left, and_right}
use Rattle.pages.proofs.Frames.{ordinary-below}
use Rattle.line_bytes.specs.Bytes.{zeroed_frame}
use Rattle.stores.specs.Stores.{store}
use Rattle.visits.specs.Visits.{map_visit, visited_all}
use Rattle.visits.specs.declared.Visit.{Visit}
use Rattle.lines.specs.Victims.{Uses}
use Rattle.machine.specs.Boards.{Board, sets_board, Outcome, outcome, refused, done, pages, pages_of, with_pages}
use Rattle.machine.specs.Refusals.{by_table, is_frame, is_mapped}
use Rattle.machine.specs.Calls.{map_rows, mapped, map_page}
use Rattle.machine.proofs.Tables.{known, by_check, check-table}
use Rattle.map_call.specs.Checks.{map_check}
use Rattle.machine.proofs.Fits.{fitted-table, pages-done}

some-mapped : (found : Option ℕ) → is_some found ≡ is_mapped found
unfolding is_mapped
some-mapped (Some f) = refl
some-mapped None = refl

module _ (s : Shape) (words : List ℕ) (page frame : ℕ) (p : Bool) (e : p ≡ (ordinary_page page && is_frame s frame)) where
  pub check-ranges : p ≡ false → Err OutOfRange ≡ map_check s words page frame
  unfolding map_check by_table
  check-ranges h = rw (← e, h)

  module _ (h : p ≡ true) where
    pub check-frame : length words ≡ s.frames → frame < length words
    check-frame n =
        let z : frame < s.frames = ltb-true frame s.frames (and_right (leb s.uncached frame) (ltb frame s.frames) (and_right (ordinary_page page) (is_frame s frame) (sym e ∙ h))) in
        omega arith

    pub check-used : (get_or words frame 0 ≡ 0 → ⊥) → Err FrameInUse ≡ map_check s words page frame
    unfolding map_check by_table
    check-used n = rw (← e, h, ne_eqb _ _ n)

    module _ (z : get_or words frame 0 ≡ 0) (found : Option ℕ) (i : found ≡ mapped_to s words page) (t : Bool) (o : t ≡ is_some found) where
      pub check-mapped : t ≡ true → Err AlreadyMapped ≡ map_check s words page frame
      unfolding map_check by_table
      check-mapped j = rw (← e, h, eq-eqb _ _ z, ← i, ← some-mapped found, ← o, j)

      pub check-none : t ≡ false → Ok tt ≡ map_check s words page frame
      unfolding map_check by_table
      check-none j = rw (← e, h, eq-eqb _ _ z, ← i, ← some-mapped found, ← o, j)

-- where nothing is against it, the first row does not apply
ok-passed : (x : Bool) (rest : Result Unit Refusal) → cond (not x) (Err OutOfRange) rest ≡ Ok tt → x ≡ true
ok-passed true rest e = refl
ok-passed false rest e = absurd (let z : ◌≡◌ {A = ℕ} 0 1 = cc in omega arith)

module _ (s : Shape) (words : List ℕ) (page frame : ℕ) (k : Result Unit Refusal) (e : k ≡ map_check s words page frame) (j : k ≡ Ok tt) where
  passed : (ordinary_page page && is_frame s frame) ≡ true
  unfolding map_check by_table
  passed = ok-passed (ordinary_page page && is_frame s frame) _ (sym e ∙ j)

  pub passed-frame : frame < s.frames
  passed-frame = ltb-true frame s.frames (and_right (leb s.uncached frame) (ltb frame s.frames) (and_right (ordinary_page page) (is_frame s frame) passed))

  pub passed-page : page < 2 ^ 32
  passed-page = ordinary-below page (ordinary_page page) refl (and_left (ordinary_page page) (is_frame s frame) passed)

-- ---- the change

module _ (s : Shape) (page frame : ℕ) (w r c m r₁ m₁ : List ℕ) where
  mapped-by : (write : Bool) (m₂ : List ℕ) (word : ℕ) (v : Visit) → v ≡ map_visit page frame → store r₁ c m₁ ≡ visited_all s v (store r c m) → m₂ ≡ zeroed_frame m₁ frame
      → word ≡ frame_word page write → pages (set w frame word) r₁ c m₂ ≡ mapped s page frame write (pages w r c m)
  unfolding mapped
  mapped-by write m₂ word v k e z g = rw (z, g, ← k, ← e)

-- ---- the returns

module _ (s : Shape) (slots w r c m : List ℕ) (u : Uses) (tag : Pending) (t : Result Unit Refusal)
    (f : t ≡ fit (fits_shape s (length slots) (length w) (length r) (length c) (length m) (length u))) (h : t ≡ Ok tt) (page frame : ℕ) (write : Bool)
    (k : Result Unit Refusal) (e : k ≡ map_check s w page frame) where
  abbrev b : Board
  b = sets_board slots w r c m u tag

  abbrev goes : Unit {0} → Outcome
  goes x = done (with_pages b (mapped s page frame write (pages_of b)))

  map_on : by_check (refused b) goes k ≡ map_page s b page frame write
  unfolding map_page map_check known
  map_on = check-table (refused b) goes (map_rows s w page frame) tt k refl e ∙ fitted-table s slots w r c m u t f h (refused b) tag _ _

  pub map-refused : (q : Result Unit Refusal) (why : Refusal) → k ≡ Err why → q ≡ Err why → outcome (call_answer q) b ≡ map_page s b page frame write
  unfolding by_check
  map-refused q why j p = rw p (ap (by_check (refused b) goes) (sym j) ∙ map_on)

  pub map-done : (v : Visit) (r₁ m₁ m₂ : List ℕ) (word : ℕ) → k ≡ Ok tt → v ≡ map_visit page frame → store r₁ c m₁ ≡ visited_all s v (store r c m) → m₂ ≡ zeroed_frame m₁ frame
      → word ≡ frame_word page write → outcome (answer 0 0 0) (sets_board slots (set w frame word) r₁ c m₂ u tag) ≡ map_page s b page frame write
  unfolding by_check
  map-done v r₁ m₁ m₂ word j y x z g =
      pages-done slots w r c m u tag (answer 0 0 0) _ (set w frame word) r₁ m₂ (mapped-by s page frame w r c m r₁ m₁ write m₂ word v y x z g) refl
      ∙ (ap (by_check (refused b) goes) (sym j) ∙ map_on)
