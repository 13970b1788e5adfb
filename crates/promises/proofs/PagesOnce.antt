-- Every call keeps each page to one frame. Stands on Maps and the table laws of `machine`.
use Rattle.std.specs.Prelude.{Some, None}
use Prim.Native.Nat.{ℕ, ◌≤◌, ◌<◌}
use mathlib.Core.Path.{◌≡◌, ◌∙◌, refl, sym}
use mathlib.Core.Bool.{Bool, true, false}
use mathlib.Core.List.{List}
use native.Mathlib.Omega.{arith}
use lib.ListN.{length, get_or, set}
use lib.Seq.{get_or-set_same, get_or-set_other}
use lib.Dec.{eqb}
use borrow.Author.Tests.{eqb-true, eqb-false}
use Rattle.address.specs.Addresses.{ordinary_page}
use Rattle.pages.specs.Pages.{frame_word, names_page, word_writes, mapped_to}
use Rattle.board.specs.declared.Shape.{Shape}
use Rattle.board.proofs.Bools.{clash}
use Rattle.machine.specs.Boards.{Board, Outcome, refused, fits_board}
use Rattle.machine.specs.Refusals.{Row, by_table}
use Rattle.machine.specs.Accesses.{user_access, supervisor_access}
use Rattle.machine.specs.Calls as board
use Rattle.machine.specs.Calls.{found_frame, mapped, unmapped, protected, moved}
use Rattle.machine.proofs.Tables.{Passed, table-cases}
use Rattle.promises.specs.Runs.{Supervisor, access, attach, detach, map, unmap, protect, move, flush_all, tag, load_and_map, drop_tag, Call, user, supervisor, supervise, step}
use Rattle.promises.specs.Sound.{PagesOnce}
use Rattle.page_laws.proofs.Maps.{names-word, frame-word-page, mapped-frame, mapped-nothing, found_at, found_nothing}
use Rattle.promises.proofs.Shapes.{board-shaped}

module _ (s : Shape) (words : List ℕ) (size : length words ≡ s.frames) (once : PagesOnce s words) where
  -- a word that is set, where any frame that names its page already is that frame
  once-set : (frame word : ℕ)
      → ((page g : ℕ) → ordinary_page page ≡ true → s.uncached ≤ g → g < s.frames → names_page word page ≡ true → names_page (get_or words g 0) page ≡ true → g ≡ frame)
      → PagesOnce s (set words frame word)
  once-set frame word only page f g o lf hf lg hg nf ng = go (eqb f frame) (eqb g frame) refl refl
    where
      go : (t u : Bool) → eqb f frame ≡ t → eqb g frame ≡ u → f ≡ g
      go true true p q = omega (arith, eqb-true f frame p, eqb-true g frame q)
      go true false p q =
          let x = eqb-true f frame p in
          let y = get_or-set_other words frame g word 0 (eqb-false g frame q) in
          let w : get_or (set words frame word) f 0 ≡ word = rw x (get_or-set_same words frame word 0 (omega arith)) in
          omega (arith, only page g o lg hg (rw w at nf) (rw y at ng))
      go false true p q =
          let x = eqb-true g frame q in
          let y = get_or-set_other words frame f word 0 (eqb-false f frame p) in
          let w : get_or (set words frame word) g 0 ≡ word = rw x (get_or-set_same words frame word 0 (omega arith)) in
          omega (arith, only page f o lf hf (rw w at ng) (rw y at nf))
      go false false p q =
          let x = get_or-set_other words frame f word 0 (eqb-false f frame p) in
          let y = get_or-set_other words frame g word 0 (eqb-false g frame q) in
          once page f g o lf hf lg hg (rw x at nf) (rw y at ng)

  module _ (page : ℕ) (write : Bool) where
    same-page : (other : ℕ) → names_page (frame_word page write) other ≡ true → other ≡ page
    same-page other e = sym (names-word (frame_word page write) other e).0 ∙ frame-word-page page write

    -- the word of a page that has no frame yet: map and move
    once-mapped : (frame : ℕ) → mapped_to s words page ≡ None → PagesOnce s (set words frame (frame_word page write))
    once-mapped frame e =
        once-set frame (frame_word page write)
        (λ other g o l h n m.
        let z = same-page other n in
        clash (names_page (get_or words g 0) page) (rw z at m) (mapped-nothing s words page (rw z at o) e g l (omega arith)))

    once-protected : (frame : ℕ) → mapped_to s words page ≡ Some frame → PagesOnce s (set words frame (frame_word page write))
    once-protected frame e =
        once-set frame (frame_word page write)
        (λ other g o l h n m.
        let z = same-page other n in
        let k = mapped-frame s words page frame e in
        once page g frame (rw z at o) l h k.from (omega (arith, k.inside)) (rw z at m) k.names)

  once-unmapped : (frame : ℕ) → PagesOnce s (set words frame 0)
  once-unmapped frame = once-set frame 0 (λ page g o l h n m. absurd (omega (arith, (names-word 0 page n).1)))

module _ (s : Shape) (b : Board) (fits : fits_board s b ≡ true) (once : PagesOnce s b.words) where
  size : length b.words ≡ s.frames
  size = (board-shaped s b fits).words_are

  -- what a table gives keeps pages apart if what is done does, where no row applies
  once-table : (rows : List Row) (d : Outcome) → (Passed rows → PagesOnce s d.after.words)
      → PagesOnce s (by_table (refused b) rows d).after.words
  once-table rows d p = table-cases (λ (o : Outcome). PagesOnce s o.after.words) (refused b) (λ n. once) rows d p

  once-supervise : (c : Supervisor) → PagesOnce s (supervise s b c).after.words
  unfolding supervise supervisor_access board.attach board.detach board.map_page board.unmap board.protect board.move_page board.flush_all board.tag board.load_and_map board.drop_tag mapped unmapped protected moved
  once-supervise (access a g) = once-table _ _ (λ q. once)
  once-supervise (attach process slot segment write) = once-table _ _ (λ q. once)
  once-supervise (detach process slot) = once-table _ _ (λ q. once)
  once-supervise (map page frame write) =
      once-table _ _ (λ q. once-mapped s b.words size once page write frame (found_nothing (mapped_to s b.words page) (q 3)))
  once-supervise (unmap page) = once-table _ _ (λ q. once-unmapped s b.words size once (found_frame (mapped_to s b.words page)))
  once-supervise (protect page write) =
      once-table _ _
      (λ q. once-protected s b.words size once page write (found_frame (mapped_to s b.words page))
      (found_at (mapped_to s b.words page) (q 2)))
  once-supervise (move page new) =
      once-table _ _
      (λ q. once-mapped s b.words size once new (word_writes (get_or b.words (found_frame (mapped_to s b.words page)) 0)) (found_frame (mapped_to s b.words page))
      (found_nothing (mapped_to s b.words new) (q 3)))
  once-supervise flush_all = once-table _ _ (λ q. once)
  once-supervise (tag name) = once-table _ _ (λ q. once)
  once-supervise (load_and_map line) = once-table _ _ (λ q. once)
  once-supervise drop_tag = once-table _ _ (λ q. once)

  once-step : (k : Call) → PagesOnce s (step s b k).after.words
  unfolding step user_access
  once-step (user process a e) = once-table _ _ (λ q. once)
  once-step (supervisor c) = once-supervise c

pub pages-once-step : (s : Shape) (b : Board) (k : Call) → fits_board s b ≡ true → PagesOnce s b.words → PagesOnce s (step s b k).after.words
pages-once-step s b k fits once = once-step s b fits once k
