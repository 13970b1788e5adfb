-- Move: the old page's frame or a number, the change, and the returns.
use Rattle.std.specs.Prelude.{Option, Some, None, Result, Ok, Err}
use Rattle.std.specs.Option.{is_some}
use Prim.Native.Nat.{ℕ, ◌<◌, ◌^◌}
use mathlib.Core.Path.{◌≡◌, ◌∙◌, refl, sym, ap}
use mathlib.Core.Bool.{Bool, true, false, not, ◌&&◌, cond}
use mathlib.Core.List.{List, [], ◌∷◌}
use native.Mathlib.Omega.{arith}
use lib.ListN.{length, get_or, set}
use Rattle.address.specs.Addresses.{ordinary_page}
use Rattle.board.specs.Answers.{answer}
use Rattle.board.specs.Shapes.{fits_shape}
use Rattle.board.specs.Refusals.{fit, call_answer}
use Rattle.board.specs.declared.Refusal.{Refusal}
use Rattle.board.specs.declared.Refusal.TheVariants.{OutOfRange, AlreadyMapped}
use Rattle.board.specs.declared.Shape.{Shape}
use Rattle.board.specs.declared.Pending.{Pending}
use Rattle.board.proofs.Bools.{and_left, and_right, and-false}
use Rattle.pages.specs.Pages.{mapped_to, frame_word, word_writes}
use Rattle.pages.proofs.Frames.{mapped-inside, ordinary-below}
use Rattle.stores.specs.Stores.{store}
use Rattle.visits.specs.Visits.{move_visit, visited_all}
use Rattle.visits.specs.declared.Visit.{Visit}
use Rattle.lines.specs.Victims.{Uses}
use Rattle.machine.specs.Boards.{Board, sets_board, Outcome, outcome, refused, done, pages, pages_of, with_pages}
use Rattle.machine.specs.Refusals.{row, by_table, checked, is_mapped}
use Rattle.machine.specs.Calls.{found_frame, move_rows, moved, move_page}
use Rattle.machine.proofs.Tables.{known, by_check, check-table}
use Rattle.machine.proofs.Fits.{fitted-table, pages-done}
use Rattle.page_calls.specs.Checks.{page_frame}
use Rattle.move_call.specs.Checks.{move_frame}

-- ---- the old page's frame, or a number

-- what the frame of the new page makes of the old one's
unfoldable unless_taken : Bool → Result ℕ Refusal → Result ℕ Refusal
unless_taken taken (Err why) = Err why
unless_taken taken (Ok f) = cond taken (Err AlreadyMapped) (Ok f)

-- where the new page is ordinary, the rows are those of the old page, and then number 11
rows-after : (x : Bool) (found other : Option ℕ)
    → unless_taken (is_some other) (checked (row 2 (not x) ∷ row 8 (not (is_mapped found)) ∷ []) (found_frame found))
    ≡ checked (row 2 (not (x && true)) ∷ row 8 (not (is_mapped found)) ∷ row 11 (is_mapped other) ∷ []) (found_frame found)
unfolding by_table is_mapped found_frame unless_taken
rows-after false found other = refl
rows-after true None other = refl
rows-after true (Some f) (Some g) = refl
rows-after true (Some f) None = refl

module _ (s : Shape) (words : List ℕ) (page new : ℕ) (t : Bool) (e : t ≡ ordinary_page new) where
  pub move-outside : t ≡ false → Err OutOfRange ≡ move_frame s words page new
  unfolding move_frame by_table
  move-outside h = rw (← e, h, and-false (ordinary_page page))

  module _ (h : t ≡ true) (k : Result ℕ Refusal) (j : k ≡ page_frame s words page) where
    move-after : unless_taken (is_some (mapped_to s words new)) k ≡ move_frame s words page new
    unfolding move_frame page_frame
    move-after = rw (j, ← e, h) (rows-after (ordinary_page page) (mapped_to s words page) (mapped_to s words new))

    pub move-stop : (why : Refusal) (q : Result ℕ Refusal) → k ≡ Err why → q ≡ Err why → q ≡ move_frame s words page new
    unfolding unless_taken
    move-stop why q i p = p ∙ ap (unless_taken (is_some (mapped_to s words new))) (sym i) ∙ move-after

    module _ (f : ℕ) (q : k ≡ Ok f) (other : Option ℕ) (o : other ≡ mapped_to s words new) (taken : Bool) (i : taken ≡ is_some other) where
      move-by : cond taken (Err AlreadyMapped) (Ok f) ≡ move_frame s words page new
      unfolding unless_taken
      move-by = ap (λ x. unless_taken x (Ok f)) (i ∙ ap is_some o) ∙ ap (unless_taken (is_some (mapped_to s words new))) (sym q) ∙ move-after

      pub move_taken : taken ≡ true → Err AlreadyMapped ≡ move_frame s words page new
      move_taken z = ap (λ x. cond x (Err AlreadyMapped) (Ok f)) (sym z) ∙ move-by

      pub move-on : taken ≡ false → Ok f ≡ move_frame s words page new
      move-on z = ap (λ x. cond x (Err AlreadyMapped) (Ok f)) (sym z) ∙ move-by

-- where the frame is given, it is the one that the old page is mapped to, and both pages are ordinary
on-found : (x : Bool) (found other : Option ℕ) (f : ℕ)
    → checked (row 2 (not x) ∷ row 8 (not (is_mapped found)) ∷ row 11 (is_mapped other) ∷ []) (found_frame found) ≡ Ok f → (x ≡ true) × (found ≡ Some f)
unfolding by_table is_mapped found_frame
on-found true (Some g) None f e = (refl, cc)
on-found true (Some g) (Some n) f e = absurd (let z : ◌≡◌ {A = ℕ} 0 1 = cc in omega arith)
on-found true None other f e = absurd (let z : ◌≡◌ {A = ℕ} 0 1 = cc in omega arith)
on-found false found other f e = absurd (let z : ◌≡◌ {A = ℕ} 0 1 = cc in omega arith)

module _ (s : Shape) (words : List ℕ) (page new f : ℕ) (k : Result ℕ Refusal) (e : k ≡ move_frame s words page new) (j : k ≡ Ok f) where
  found : ((ordinary_page page && ordinary_page new) ≡ true) × (mapped_to s words page ≡ Some f)
  unfolding move_frame
  found = on-found (ordinary_page page && ordinary_page new) (mapped_to s words page) (mapped_to s words new) f (sym e ∙ j)

  pub move-inside : f < length words
  move-inside = mapped-inside s words page f (mapped_to s words page) refl found.1

  pub move-page : page < 2 ^ 32
  move-page = ordinary-below page (ordinary_page page) refl (and_left (ordinary_page page) (ordinary_page new) found.0)

  pub move_new : new < 2 ^ 32
  move_new = ordinary-below new (ordinary_page new) refl (and_right (ordinary_page page) (ordinary_page new) found.0)

-- ---- the change

module _ (s : Shape) (page new frame : ℕ) (w r c m r₁ m₁ : List ℕ) where
  moved_by : (write : Bool) (word : ℕ) (v : Visit) → v ≡ move_visit page new → store r₁ c m₁ ≡ visited_all s v (store r c m)
      → write ≡ word_writes (get_or w frame 0) → word ≡ frame_word new write → pages (set w frame word) r₁ c m₁ ≡ moved s page new frame (pages w r c m)
  unfolding moved
  moved_by write word v k e g q = rw (q, g, ← k, ← e)

-- ---- the returns

module _ (s : Shape) (slots w r c m : List ℕ) (u : Uses) (tag : Pending) (t : Result Unit Refusal)
    (f : t ≡ fit (fits_shape s (length slots) (length w) (length r) (length c) (length m) (length u))) (h : t ≡ Ok tt) (page new : ℕ)
    (k : Result ℕ Refusal) (e : k ≡ move_frame s w page new) where
  abbrev b : Board
  b = sets_board slots w r c m u tag

  abbrev goes : ℕ → Outcome
  goes x = done (with_pages b (moved s page new x (pages_of b)))

  by-frame : by_check (refused b) goes k ≡ move_page s b page new
  unfolding move_page move_frame known
  by-frame = check-table (refused b) goes (move_rows s w page new) _ k refl e ∙ fitted-table s slots w r c m u t f h (refused b) tag _ _

  pub move-refused : (q : Result Unit Refusal) (why : Refusal) → k ≡ Err why → q ≡ Err why → outcome (call_answer q) b ≡ move_page s b page new
  unfolding by_check
  move-refused q why j p = rw p (ap (by_check (refused b) goes) (sym j) ∙ by-frame)

  pub move-done : (x word : ℕ) (write : Bool) (v : Visit) (r₁ m₁ : List ℕ) → k ≡ Ok x → v ≡ move_visit page new → store r₁ c m₁ ≡ visited_all s v (store r c m)
      → write ≡ word_writes (get_or w x 0) → word ≡ frame_word new write → outcome (answer 0 0 0) (sets_board slots (set w x word) r₁ c m₁ u tag) ≡ move_page s b page new
  unfolding by_check
  move-done x word write v r₁ m₁ j z y g i =
      pages-done slots w r c m u tag (answer 0 0 0) _ (set w x word) r₁ m₁ (moved_by s page new x w r c m r₁ m₁ write word v z y g i) refl
      ∙ (ap (by_check (refused b) goes) (sym j) ∙ by-frame)
