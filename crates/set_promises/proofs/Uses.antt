-- What a use makes of a matrix: the law of `sets`. Which calls change which matrices: by the tables of the calls, and what is done where no row applies.
use Rattle.std.specs.Prelude.{Option, Some, None}
use Prim.Native.Nat.{ℕ, ◌%◌}
use mathlib.Core.Path.{◌≡◌, refl}
use mathlib.Core.Bool.{Bool, cond}
use mathlib.Core.List.{List}
use native.Mathlib.Omega.{arith}
use lib.Dec.{eqb}
use borrow.Author.Tests.{ne_eqb}
use Rattle.address.specs.Addresses.{name_of, region_of}
use Rattle.address.specs.declared.Global.{Global}
use Rattle.address.specs.declared.Region.{Region}
use Rattle.address.specs.declared.Region.TheVariants.{Uncached, Cached, PageTable, Ordinary}
use Rattle.board.specs.declared.Shape.{Shape}
use Rattle.board.specs.declared.Home.{Home}
use Rattle.board.proofs.Bools.{cond_both}
use Rattle.pages.specs.Pages.{home_of}
use Rattle.sets.proofs.Orders.{used-square, used-entry}
use Rattle.lines.specs.Holds.{holder_of}
use Rattle.lines.specs.Victims.{victim_of, record_by, room_by}
use Rattle.stores.specs.declared.Access.{Access}
use Rattle.reach.specs.Reach.{way_by_home, way_by, way_of}
use Rattle.reach.specs.declared.Way.{Way}
use Rattle.machine.specs.Boards.{Board, Outcome, refused, done, no_tag, with_tag}
use Rattle.machine.specs.Refusals.{Row, by_table}
use Rattle.machine.specs.Rising.{Rises}
use Rattle.machine.specs.Accesses.{performed_on, accessed_by, uses_by, touched, victim_for, accessed, on_board, user_access, supervisor_done, supervisor_access}
use Rattle.machine.specs.Calls as board
use Rattle.machine.specs.Calls.{loaded_uses, on_loaded, loaded}
use Rattle.machine.proofs.Tables.{table-cases}
use Rattle.machine.proofs.Rising.{tables-rise}
use Rattle.promises.specs.Runs.{Supervisor, access, attach, detach, map, unmap, protect, move, flush_all, tag, load_and_map, drop_tag, Call, user, supervisor, supervise, step}
use Rattle.promises.specs.Demand2.{record_to}
use Rattle.promises.proofs.Demand1.{Tabled, passed, stopped, tabled}
use Rattle.set_promises.specs.LastUses.{reached_in, would_use, used_by}
use Rattle.set_promises.specs.Uses.{used_if, EntriesTold, UsesTold}

pub entries-told : EntriesTold
entries-told = record { entries = λ m r a b x h i j. used-entry m x r h a b i j; still_square = λ m r x h. used-square m x r h }

module _ (s : Shape) (b : Board) where
  -- the matrices of an outcome, by the record that it uses if it is done
  abbrev ByUse : Option ℕ → Outcome → Type 0
  ByUse would o = o.after.uses ≡ used_if s b.uses (cond (eqb o.answer.number 0) would None)

  -- a refusal has no number 0
  by-table : (would : Option ℕ) (rows : List Row) (d : Outcome) → Rises rows → ByUse would d → ByUse would (by_table (refused b) rows d)
  unfolding used_if
  by-table would rows d r h = go (by_table (refused b) rows d) (tabled (refused b) d 1 rows r)
    where
      go : (o : Outcome) → Tabled (refused b) 1 rows d o → ByUse would o
      go o (passed _ _) = h
      go o (stopped n l _ _) = rw (ne_eqb n 0 (omega arith))

  -- what uses no record, done or refused
  idle : (o : Outcome) → o.after.uses ≡ b.uses → ByUse None o
  unfolding used_if
  idle o e = rw e (cond_both (λ (f : Option ℕ). b.uses ≡ used_if s b.uses f) (eqb o.answer.number 0) _ _ refl refl)

  idle-table : (rows : List Row) (d : Outcome) → d.after.uses ≡ b.uses → ByUse None (by_table (refused b) rows d)
  idle-table rows d e = idle (by_table (refused b) rows d) (table-cases (λ (o : Outcome). o.after.uses ≡ b.uses) (refused b) (λ n. refl) rows d (λ _. e))

  -- ---- accesses

  module _ (g : Global) (a : Access) where
    abbrev to : ℕ
    to = victim_for s b.uses b.store.records g

    abbrev by : Option Way → Outcome
    by way = on_board b (touched (accessed_by s to (name_of g) (g.0 % 16) a b.store way) (uses_by s to b.uses way))

    by_home : (home : Option Home) → ByUse (Some to) (by (way_by_home home))
    unfolding accessed_by performed_on uses_by way_by_home used_if
    by_home (Some hm) = refl
    by_home None = refl

    by-found : (found : Option ℕ) → ByUse (Some (record_by to found)) (by (way_by b.store.records (home_of s b.words (name_of g)) found))
    unfolding accessed_by performed_on uses_by way_by record_by used_if
    by-found (Some i) = refl
    by-found None = by_home (home_of s b.words (name_of g))

    by-accessed : ByUse (Some (record_to s b g)) (on_board b (accessed s b.words g a b.store b.uses))
    unfolding accessed way_of
    by-accessed = by-found (holder_of s b.store.records (name_of g))

    by-region : (r : Region) → ByUse (reached_in (record_to s b g) r) (on_board b (supervisor_done s b.words a g b.store b.uses r))
    unfolding supervisor_done reached_in used_if
    by-region Uncached = idle (on_board b (supervisor_done s b.words a g b.store b.uses Uncached)) refl
    by-region Cached = by-accessed
    by-region PageTable = refl
    by-region Ordinary = by-accessed

  -- ---- load-and-map

  loaded-by : (victim : ℕ) (found : Option ℕ) → loaded_uses s victim b.uses found ≡ used_if s b.uses (room_by victim found)
  unfolding loaded_uses room_by used_if
  loaded-by victim (Some i) = refl
  loaded-by victim None = refl

  by-loaded : (line : ℕ) (write : Bool)
      → ByUse (room_by (victim_of s b.uses b.store.records b.tag.name) (holder_of s b.store.records b.tag.name))
      (done (with_tag (on_loaded b (loaded s b.tag.name line write b.store b.uses)) no_tag))
  unfolding loaded
  by-loaded line write = loaded-by (victim_of s b.uses b.store.records b.tag.name) (holder_of s b.store.records b.tag.name)

  -- ---- every call

  by-supervise : (c : Supervisor) → ByUse (would_use s b (supervisor c)) (supervise s b c)
  unfolding would_use supervise supervisor_access board.attach board.detach board.map_page board.unmap board.protect board.move_page board.flush_all board.tag board.load_and_map board.drop_tag
  by-supervise (access a g) = by-table _ _ _ (tables-rise.supervisor_access s b a g) (by-region g a (region_of g))
  by-supervise (attach process slot segment write) = idle-table _ _ refl
  by-supervise (detach process slot) = idle-table _ _ refl
  by-supervise (map page frame write) = idle-table _ _ refl
  by-supervise (unmap page) = idle-table _ _ refl
  by-supervise (protect page write) = idle-table _ _ refl
  by-supervise (move page new) = idle-table _ _ refl
  by-supervise flush_all = idle-table _ _ refl
  by-supervise (tag name) = idle-table _ _ refl
  by-supervise (load_and_map line) = by-table _ _ _ (tables-rise.load_and_map s b line) (by-loaded line _)
  by-supervise drop_tag = idle-table _ _ refl

  by-step : (k : Call) → (step s b k).after.uses ≡ used_if s b.uses (used_by s b k)
  unfolding step user_access would_use used_by
  by-step (user process a e) = by-table _ _ _ (tables-rise.user_access s b process a e) (by-accessed _ a)
  by-step (supervisor c) = by-supervise c

  -- ---- drops

  -- a call that would use none leaves every matrix
  left : (k : Call) → would_use s b k ≡ None → (step s b k).after.uses ≡ b.uses
  unfolding used_by used_if
  left k e = rw (by-step k, e) (cond_both (λ (f : Option ℕ). used_if s b.uses f ≡ b.uses) (eqb (step s b k).answer.number 0) _ _ refl refl)

pub uses-told : UsesTold
unfolding would_use
uses-told = record {
  by_use = by-step;
  map_leaves = λ s b page frame write. left s b (supervisor (map page frame write)) refl;
  unmap_leaves = λ s b page. left s b (supervisor (unmap page)) refl;
  protect_leaves = λ s b page write. left s b (supervisor (protect page write)) refl;
  move_leaves = λ s b page new. left s b (supervisor (move page new)) refl;
  flush_leaves = λ s b. left s b (supervisor flush_all) refl;
}
