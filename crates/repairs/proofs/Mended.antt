-- What a repair says and leaves, case by case.
use Rattle.std.specs.Prelude.{Option, Some, None}
use Prim.Native.Nat.{ℕ}
use mathlib.Core.Path.{◌≡◌, refl}
use mathlib.Core.Bool.{Bool, true, false, ◌&&◌}
use mathlib.Core.List.{List}
use borrow.Author.Tests.{eq-eqb, ne_eqb}
use lib.Dec.{eqb}
use lib.ListN.{length}
use Rattle.board.specs.Shapes.{fits_shape}
use Rattle.board.specs.declared.Shape.{Shape}
use Rattle.board.specs.declared.Pending.{Pending}
use Rattle.board.specs.declared.Home.{Home}
use Rattle.board.proofs.Bools.{clash, and-false}
use Rattle.pages.specs.Pages.{home_of}
use Rattle.stores.specs.Stores.{Store, store}
use Rattle.machine.specs.Boards.{board}
use Rattle.dump_pages.specs.Pages.{doubled_page}
use Rattle.dumps.specs.declared.Report.{Report}
use Rattle.dumps.specs.Checks.{report, too_short, from_rule3, room_for}
use Rattle.repairs.specs.Repairs.{repaired, dropped_flags, dropped_count, Repaired, repair_outcome, with_dropped, mended_lines, mended_pages, repair_board, repair_call}

pub lines-mended : (s : Shape) (home : ℕ → Option Home) (r c m r₁ flags : List ℕ) (before : Report) (count : ℕ) → before ≡ from_rule3 s home (store r c m)
    → store r₁ c m ≡ repaired s home (store r c m) → flags ≡ dropped_flags s r r₁ → count ≡ dropped_count s r r₁
    → repair_outcome (with_dropped before count) (store r₁ c m) flags ≡ mended_lines s home (store r c m)
lines-mended s home r c m r₁ flags before count e q f k = rw (← q, e, f, k)

module _ (s : Shape) (words : List ℕ) (x : Store) (flags : List ℕ) (found : Option ℕ) (e : found ≡ doubled_page s words) where
  pub pages-doubled : (f : ℕ) (r : Report) → found ≡ Some f → r ≡ report 2 f → repair_outcome r x flags ≡ mended_pages s words x flags (doubled_page s words)
  unfolding mended_pages
  pages-doubled f r k q = rw (← e, k, q)

  pub pages-mended : (o : Repaired) → found ≡ None → o ≡ mended_lines s (home_of s words) x → o ≡ mended_pages s words x flags (doubled_page s words)
  unfolding mended_pages
  pages-mended o k q = rw (← e, k, q)

module _ (s : Shape) (slots w r c m flags : List ℕ) (keys links : ℕ) (t : Bool)
    (f : t ≡ fits_shape s (length slots) (length w) (length r) (length c) (length m) 0) where
  pub board-unfit : (tag : Pending) (a : Report) → t ≡ false → a ≡ report 1 0 → repair_outcome a (store r c m) flags ≡ repair_call s (board slots w r c m tag) keys links flags
  unfolding repair_call repair_board
  board-unfit tag a h q = rw (← f, h, q)

  module _ (h : t ≡ true) (u : Bool) (g : u ≡ room_for s keys links) where
    pub board-mended : (tag : Pending) (o : Repaired) → u ≡ true → length flags ≡ s.lines → o ≡ mended_pages s w (store r c m) flags (doubled_page s w)
        → o ≡ repair_call s (board slots w r c m tag) keys links flags
    unfolding repair_call repair_board
    board-mended tag o k l q = rw (← f, h, ← g, k, eq-eqb (length flags) s.lines l, q)

    pub board-short : (tag : Pending) (a : Report) → (u && eqb (length flags) s.lines) ≡ false → a ≡ too_short
        → repair_outcome a (store r c m) flags ≡ repair_call s (board slots w r c m tag) keys links flags
    unfolding repair_call
    board-short tag a k q = rw (← f, h, ← g, k, q)

    -- with all tests passed the scratch may change
    pub board-works : {A : Type 0} → u ≡ true → length flags ≡ s.lines
        → (fits_shape s (length slots) (length w) (length r) (length c) (length m) 0 && (room_for s keys links && eqb (length flags) s.lines)) ≡ false → A
    board-works k l n = clash true refl (rw (← f, h, ← g, k, eq-eqb (length flags) s.lines l) at n)

-- too little room, or not as many flags as lines
pub no_room : (u v : Bool) → u ≡ false → (u && v) ≡ false
no_room u v e = rw e

pub no-flags : (u : Bool) (a b : ℕ) → (a ≡ b → ⊥) → (u && eqb a b) ≡ false
no-flags u a b n = rw (ne_eqb a b n) (and-false u)
