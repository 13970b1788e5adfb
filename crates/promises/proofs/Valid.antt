-- Every valid record holds a line: each call keeps that, of any board and any numbers.
-- Stands on Runs, the steps of `store_laws` (Valid), `reach`, the set laws of `lines` and the table laws of `machine`.
use Rattle.std.specs.Prelude.{Option, Some, None}
use Prim.Native.Nat.{ℕ, ◌*◌, ◌<◌}
use mathlib.Core.Path.{◌≡◌, refl}
use mathlib.Core.Bool.{Bool, false, not}
use mathlib.Core.List.{List}
use lib.ListN.{length}
use borrow.Author.Tests.{not-false, ltb-true}
use Rattle.address.specs.Layout.{page_lines}
use Rattle.address.specs.Addresses.{name_of}
use Rattle.address.specs.declared.Global.{Global}
use Rattle.address.specs.declared.Physical.{Physical}
use Rattle.address.specs.declared.Region.{Region}
use Rattle.address.specs.declared.Region.TheVariants.{Uncached, Cached, PageTable, Ordinary}
use Rattle.board.specs.declared.Shape.{Shape}
use Rattle.board.proofs.Bools.{cond_both}
use Rattle.lines.specs.Holds.{holder_of}
use Rattle.lines.specs.Victims.{Uses, victim_of}
use Rattle.lines.proofs.Sets.{ways_pos, victim-set}
use Rattle.stores.specs.Stores.{Store}
use Rattle.stores.specs.declared.Access.{Access}
use Rattle.reach.specs.declared.Way.{Way}
use Rattle.reach.specs.declared.Way.TheVariants.{Held, InMemory}
use Rattle.reach.proofs.Reach.{way-inside}
use Rattle.visits.specs.Visits.{map_visit, unmap_visit, protect_visit, move_visit, flush_visit}
use Rattle.machine.specs.Boards.{Board, Outcome, fits_board, refused}
use Rattle.machine.specs.Refusals.{Row, by_table}
use Rattle.machine.specs.Accesses.{Reached, performed_on, accessed_by, accessed, way_to, victim_for, user_table, user_access, memory_access, supervisor_table, supervisor_done, supervisor_access}
use Rattle.machine.specs.Calls as board
use Rattle.machine.specs.Calls.{mapped, unmapped, protected, moved, loaded_by, loaded}
use Rattle.machine.proofs.Tables.{Passed, table-cases}
use Rattle.promises.specs.Runs.{Supervisor, access, attach, detach, map, unmap, protect, move, flush_all, tag, load_and_map, drop_tag, Call, user, supervisor, supervise, step, next}
use Rattle.promises.specs.Sound.{ValidHolds}
use Rattle.promises.specs.Demand3.{ValidHoldsStays}
use Rattle.store_laws.proofs.Valid.{valid-inserted, valid-performed, valid-visited}
use Rattle.promises.proofs.Shapes.{board-shaped, board-lined}
use Rattle.promises.proofs.Runs.{ran-keeps}

-- ---- the access

module _ (s : Shape) (a : Access) where
  valid-done : (i offset mark : ℕ) (x : Store) → ValidHolds s x → ValidHolds s (performed_on i offset a mark x).after
  unfolding performed_on
  valid-done i offset mark x all = valid-performed s i offset a x.records x.cache all

  module _ (words : List ℕ) (size : length words ≡ s.frames) (ways : 0 < s.ways) (x : Store) (uses : Uses) (all : ValidHolds s x) where
    valid-accessed-by : (g : Global) (offset : ℕ) (way : Option Way) → way ≡ way_to s words x.records g
        → ValidHolds s (accessed_by s (victim_for s uses x.records g) (name_of g) offset a x way).after
    unfolding accessed_by
    valid-accessed-by g offset (Some (Held i write)) e = valid-done i offset _ x all
    valid-accessed-by g offset (Some (InMemory line write)) e =
        valid-done (victim_for s uses x.records g) offset _ _
        (valid-inserted s (victim_for s uses x.records g) (name_of g) line write x (victim-set s uses x.records (name_of g) ways)
        (way-inside s words x.records (name_of g) line write (Some (InMemory line write)) e refl size) all)
    valid-accessed-by g offset None e = all

    valid-accessed : (g : Global) → ValidHolds s (accessed s words g a x uses).reached.after
    unfolding accessed
    valid-accessed g = valid-accessed-by g _ (way_to s words x.records g) refl

    valid-memory : (p : Physical) → ValidHolds s (memory_access p a x).after
    unfolding memory_access
    valid-memory p = cond_both (λ (r : Reached). ValidHolds s r.after) a.store _ _ all all

    valid-supervisor : (g : Global) (r : Region) → ValidHolds s (supervisor_done s words a g x uses r).reached.after
    unfolding supervisor_done
    valid-supervisor g Uncached = valid-memory _
    valid-supervisor g Cached = valid-accessed g
    valid-supervisor g PageTable = all
    valid-supervisor g Ordinary = valid-accessed g

-- ---- each call

module _ (s : Shape) (b : Board) (all : ValidHolds s b.store) where
  valid-table : (rows : List Row) (d : Outcome) → (Passed rows → ValidHolds s d.after.store) → ValidHolds s (by_table (refused b) rows d).after.store
  valid-table rows d h = table-cases (λ (o : Outcome). ValidHolds s o.after.store) (refused b) (λ n. all) rows d h

  -- row 1 passed
  size : not (fits_board s b) ≡ false → length b.words ≡ s.frames
  size h = (board-shaped s b (not-false _ h)).words_are

  ways : not (fits_board s b) ≡ false → 0 < s.ways
  ways h = ways_pos s (board-lined s b (not-false _ h))

  valid-loaded : (name line : ℕ) (write : Bool) → 0 < s.ways → line < page_lines * s.frames → ValidHolds s (loaded s name line write b.store b.uses).store
  unfolding loaded loaded_by
  valid-loaded name line write w inside = go (holder_of s b.store.records name)
    where
      to : ℕ
      to = victim_of s b.uses b.store.records name

      go : (found : Option ℕ) → ValidHolds s (loaded_by s to name line write b.store found)
      go (Some i) = all
      go None = valid-inserted s to name line write b.store (victim-set s b.uses b.store.records name w) inside all

  valid-supervise : (c : Supervisor) → ValidHolds s (supervise s b c).after.store
  unfolding supervise supervisor_access supervisor_table board.attach board.detach board.map_page board.unmap board.protect board.move_page board.flush_all board.tag board.load_and_map board.drop_tag mapped unmapped protected moved
  valid-supervise (access a g) = valid-table _ _ (λ q. valid-supervisor s a b.words (size (q 0)) (ways (q 0)) b.store b.uses all g _)
  valid-supervise (attach process slot segment write) = valid-table _ _ (λ q. all)
  valid-supervise (detach process slot) = valid-table _ _ (λ q. all)
  valid-supervise (map page frame write) = valid-table _ _ (λ q. valid-visited s (map_visit page frame) b.store all)
  valid-supervise (unmap page) = valid-table _ _ (λ q. valid-visited s (unmap_visit page) b.store all)
  valid-supervise (protect page write) = valid-table _ _ (λ q. valid-visited s (protect_visit page write) b.store all)
  valid-supervise (move page new) = valid-table _ _ (λ q. valid-visited s (move_visit page new) b.store all)
  valid-supervise flush_all = valid-table _ _ (λ q. valid-visited s flush_visit b.store all)
  valid-supervise (tag name) = valid-table _ _ (λ q. all)
  valid-supervise (load_and_map line) = valid-table _ _ (λ q. valid-loaded _ line _ (ways (q 0)) (ltb-true _ _ (not-false _ (q 1))))
  valid-supervise drop_tag = valid-table _ _ (λ q. all)

  valid-step : (k : Call) → ValidHolds s (step s b k).after.store
  unfolding step user_access user_table
  valid-step (user process a e) = valid-table _ _ (λ q. valid-accessed s a b.words (size (q 0)) (ways (q 0)) b.store b.uses all _)
  valid-step (supervisor c) = valid-supervise c

pub valid-holds-stays : ValidHoldsStays
valid-holds-stays s b all ks = ran-keeps (next s) (λ c. ValidHolds s c.store) (λ c k h. valid-step s c h k) b ks all
