-- Unmap and protect: the frame, the change, and the returns.
use Rattle.std.specs.Prelude.{Option, Some, None, Result, Ok, Err}
use Rattle.std.specs.Option.{ok_or}
use Prim.Native.Nat.{ℕ, ◌<◌, ◌^◌}
use mathlib.Core.Path.{◌≡◌, ◌∙◌, refl, sym, ap}
use mathlib.Core.Bool.{Bool, true, false, not}
use mathlib.Core.List.{List, [], ◌∷◌}
use native.Mathlib.Omega.{arith}
use lib.ListN.{length, set}
use Rattle.address.specs.Addresses.{ordinary_page}
use Rattle.board.specs.Answers.{answer}
use Rattle.board.specs.Shapes.{fits_shape}
use Rattle.pages.specs.Pages.{mapped_to, frame_word}
use Rattle.board.specs.declared.Shape.{Shape}
use Rattle.board.specs.Refusals.{fit, call_answer}
use Rattle.board.specs.declared.Refusal.{Refusal}
use Rattle.board.specs.declared.Refusal.TheVariants.{OutOfRange, Unmapped}
use Rattle.board.specs.declared.Pending.{Pending}
use Rattle.pages.proofs.Frames.{mapped-inside, mapped-ordinary, ordinary-below}
use Rattle.stores.specs.Stores.{store}
use Rattle.visits.specs.Visits.{unmap_visit, protect_visit, visited_all}
use Rattle.visits.specs.declared.Visit.{Visit}
use Rattle.lines.specs.Victims.{Uses}
use Rattle.machine.specs.Boards.{Board, sets_board, outcome, refused, done, pages, pages_of, with_pages}
use Rattle.machine.specs.Refusals.{row, by_table, checked, is_mapped}
use Rattle.machine.specs.Calls.{found_frame, page_rows, unmapped, unmap, protected, protect}
use Rattle.machine.proofs.Tables.{known, by_check, check-table}
use Rattle.page_calls.specs.Checks.{page_frame}
use Rattle.machine.proofs.Fits.{fitted-table, pages-done}

module _ (s : Shape) (words : List ℕ) (page : ℕ) (t : Bool) (e : t ≡ ordinary_page page) where
  pub frame-outside : t ≡ false → Err OutOfRange ≡ page_frame s words page
  unfolding page_frame by_table
  frame-outside h = rw (← e, h)

  by-found : (found : Option ℕ) → ok_or found Unmapped ≡ checked (row 2 false ∷ row 8 (not (is_mapped found)) ∷ []) (found_frame found)
  unfolding by_table is_mapped found_frame
  by-found (Some f) = refl
  by-found None = refl

  pub frame-found : (found : Option ℕ) (k : Result ℕ Refusal) → t ≡ true → found ≡ mapped_to s words page → k ≡ ok_or found Unmapped → k ≡ page_frame s words page
  unfolding page_frame
  frame-found found k h o j = rw (j, ← e, h, ← o) (by-found found)

-- where the frame is given, it is the one that the page is mapped to
on-found : (x : Bool) (found : Option ℕ) (f : ℕ) → checked (row 2 (not x) ∷ row 8 (not (is_mapped found)) ∷ []) (found_frame found) ≡ Ok f → found ≡ Some f
unfolding by_table is_mapped found_frame
on-found true (Some g) f e = cc
on-found true None f e = absurd (let z : ◌≡◌ {A = ℕ} 0 1 = cc in omega arith)
on-found false found f e = absurd (let z : ◌≡◌ {A = ℕ} 0 1 = cc in omega arith)

module _ (s : Shape) (words : List ℕ) (page f : ℕ) (k : Result ℕ Refusal) (e : k ≡ page_frame s words page) (j : k ≡ Ok f) where
  found_at : mapped_to s words page ≡ Some f
  unfolding page_frame
  found_at = on-found (ordinary_page page) (mapped_to s words page) f (sym e ∙ j)

  pub frame-inside : f < length words
  frame-inside = mapped-inside s words page f (mapped_to s words page) refl found_at

  pub frame-page : page < 2 ^ 32
  frame-page = ordinary-below page (ordinary_page page) refl (mapped-ordinary s words page f (mapped_to s words page) refl found_at)

-- ---- the changes

module _ (s : Shape) (page frame : ℕ) (w r c m r₁ m₁ : List ℕ) where
  unmapped-by : (v : Visit) → v ≡ unmap_visit page → store r₁ c m₁ ≡ visited_all s v (store r c m) → pages (set w frame 0) r₁ c m₁ ≡ unmapped s page frame (pages w r c m)
  unfolding unmapped
  unmapped-by v k e = rw (← k, ← e)

  protected-by : (write : Bool) (word : ℕ) (v : Visit) → v ≡ protect_visit page write → store r₁ c m₁ ≡ visited_all s v (store r c m) → word ≡ frame_word page write
      → pages (set w frame word) r₁ c m₁ ≡ protected s page frame write (pages w r c m)
  unfolding protected
  protected-by write word v k e g = rw (g, ← k, ← e)

-- ---- the returns

module _ (s : Shape) (slots w r c m : List ℕ) (u : Uses) (tag : Pending) (t : Result Unit Refusal)
    (f : t ≡ fit (fits_shape s (length slots) (length w) (length r) (length c) (length m) (length u))) (h : t ≡ Ok tt) (page : ℕ) where
  abbrev b : Board
  b = sets_board slots w r c m u tag

  module _ (k : Result ℕ Refusal) (e : k ≡ page_frame s w page) where
    unmap-on : by_check (refused b) (λ x. done (with_pages b (unmapped s page x (pages_of b)))) k ≡ unmap s b page
    unfolding unmap page_frame known
    unmap-on =
        check-table (refused b) (λ x. done (with_pages b (unmapped s page x (pages_of b)))) (page_rows s w page) _ k refl e
        ∙ fitted-table s slots w r c m u t f h (refused b) tag _ _

    pub unmap-stop : (q : Result Unit Refusal) (why : Refusal) → k ≡ Err why → q ≡ Err why → outcome (call_answer q) b ≡ unmap s b page
    unfolding by_check
    unmap-stop q why j p = rw p (ap (by_check (refused b) (λ x. done (with_pages b (unmapped s page x (pages_of b))))) (sym j) ∙ unmap-on)

    pub unmap-done : (x : ℕ) (v : Visit) (r₁ m₁ : List ℕ) → k ≡ Ok x → v ≡ unmap_visit page → store r₁ c m₁ ≡ visited_all s v (store r c m)
        → outcome (answer 0 0 0) (sets_board slots (set w x 0) r₁ c m₁ u tag) ≡ unmap s b page
    unfolding by_check
    unmap-done x v r₁ m₁ j z e =
        pages-done slots w r c m u tag (answer 0 0 0) _ (set w x 0) r₁ m₁ (unmapped-by s page x w r c m r₁ m₁ v z e) refl
        ∙ (ap (by_check (refused b) (λ y. done (with_pages b (unmapped s page y (pages_of b))))) (sym j) ∙ unmap-on)

    module _ (write : Bool) where
      protect-on : by_check (refused b) (λ x. done (with_pages b (protected s page x write (pages_of b)))) k ≡ protect s b page write
      unfolding protect page_frame known
      protect-on =
          check-table (refused b) (λ x. done (with_pages b (protected s page x write (pages_of b)))) (page_rows s w page) _ k refl e
          ∙ fitted-table s slots w r c m u t f h (refused b) tag _ _

      pub protect-stop : (q : Result Unit Refusal) (why : Refusal) → k ≡ Err why → q ≡ Err why → outcome (call_answer q) b ≡ protect s b page write
      unfolding by_check
      protect-stop q why j p = rw p (ap (by_check (refused b) (λ x. done (with_pages b (protected s page x write (pages_of b))))) (sym j) ∙ protect-on)

      pub protect-done : (x word : ℕ) (v : Visit) (r₁ m₁ : List ℕ) → k ≡ Ok x → v ≡ protect_visit page write → store r₁ c m₁ ≡ visited_all s v (store r c m)
          → word ≡ frame_word page write → outcome (answer 0 0 0) (sets_board slots (set w x word) r₁ c m₁ u tag) ≡ protect s b page write
      unfolding by_check
      protect-done x word v r₁ m₁ j z e g =
          pages-done slots w r c m u tag (answer 0 0 0) _ (set w x word) r₁ m₁ (protected-by s page x w r c m r₁ m₁ write word v z e g) refl
          ∙ (ap (by_check (refused b) (λ y. done (with_pages b (protected s page y write (pages_of b))))) (sym j) ∙ protect-on)
