-- User and supervisor accesses: the board and the plain machine stay alike.
-- Stands on Related, Lengths, Reaching (by the cache), Remap (past it), the set laws of `lines` and the regions of `machine`.
use Rattle.std.specs.Prelude.{Option, Some, None}
use Prim.Native.Nat.{ℕ, ◌+◌, ◌*◌, ◌/◌, ◌%◌, ◌≤◌, ◌<◌, ◌^◌}
use mathlib.Core.Path.{◌≡◌, refl, sym}
use mathlib.Core.Bool.{Bool, true, false, not, ◌&&◌, ◌||◌, cond}
use mathlib.Core.List.{List, [], ◌∷◌}
use native.Mathlib.Omega.{arith}
use lib.ListN.{length, get_or}
use lib.Dec.{leb, ltb}
use borrow.Author.Tests.{not-false, leb-true, leb-false, ltb-true, le-leb}
use Rattle.address.specs.Layout.{first_page, last_page, first_segment, last_segment, page_lines, prefix_lines}
use Rattle.address.specs.Addresses.{attachable, ordinary_page, page_of, name_of, region_of, physical_of, in_frame}
use Rattle.address.specs.declared.Effective.{Effective}
use Rattle.address.specs.declared.Global.{Global}
use Rattle.address.specs.declared.Physical.{Physical}
use Rattle.address.specs.declared.Region.{Region}
use Rattle.address.specs.declared.Region.TheVariants.{Uncached, Cached, PageTable, Ordinary}
use Rattle.slots.specs.Slots.{slot_segment}
use Rattle.pages.specs.Pages.{word_writes, mapped_to, home_of}
use Rattle.board.specs.Homes.{at_line}
use Rattle.board.specs.declared.Shape.{Shape}
use Rattle.board.proofs.Bools.{and_left, and_right, or-false}
use Rattle.line_bytes.specs.Bytes.{number, stored}
use Rattle.lines.proofs.Sets.{victim-set, victim-inside}
use Rattle.reach.specs.Reach.{way_of, unreached, may_write}
use Rattle.stores.specs.declared.Access.{Access}
use Rattle.machine.specs.Boards.{Board, fits_board, Outcome, refused, with_store}
use Rattle.machine.specs.Refusals.{Row, row, by_table, row1, line_rows, is_mapped, is_ordinary, is_cached, is_global, too_large, word_in_use, aligned_to, outside}
use Rattle.machine.specs.Accesses.{Touched, touched, on_board, way_to, victim_for, accessed, user_rows, user_table, user_global, slot_word_at, user_access, frame_under, memory_access, supervisor_table, supervisor_done, supervisor_access}
use Rattle.machine.specs.Calls.{found_frame}
use Rattle.machine.proofs.Tables.{table-append}
use Rattle.machine.proofs.Alignments.{aligned-inside}
use Rattle.machine.proofs.Prefixes.{region-cached, region-ordinary, prefix-home}
use Rattle.promises.specs.Plain.{Plain, Given, given, plain_refused, plain_access, address_mapped, address_frame, address_at, plain_user, supervisor_at, plain_supervisor}
use Rattle.promises.specs.Runs.{plain_of}
use Rattle.store_laws.proofs.Sim.{Sim}
use Rattle.page_laws.proofs.Maps.{mapped-home, unmapped-home}
use Rattle.page_laws.proofs.Remap.{memory-same, sim-memory}
use Rattle.page_laws.proofs.Reaching.{Same, way-nowhere, way-reached, way-writes, accessed-same}
use Rattle.promises.proofs.Shapes.{board-shaped}
use Rattle.promises.proofs.Lengths.{lengths-accessed}
use Rattle.promises.proofs.Related.{Related, board-homes, lengths-same, related-refused, related-done, related-table, related-row}

related-by : (s : Shape) (o p : Outcome) (g h : Given) → o ≡ p → g ≡ h → Related s p h → Related s o g
related-by s o p g h q r x = rw (q, r) x

-- the page of a user's address is ordinary
user-page : (word e : ℕ) → attachable (slot_segment word) ≡ true → ordinary_page ((word / 2 * 2 ^ 22 + e % 2 ^ 22) / 4096) ≡ true
user-page word e h =
    let a : 2048 ≤ word / 2 = leb-true _ _ (and_left (leb first_segment (word / 2)) (leb (word / 2) last_segment) h) in
    let b : word / 2 ≤ 4190207 = leb-true _ _ (and_right (leb first_segment (word / 2)) (leb (word / 2) last_segment) h) in
    let c = le-leb first_page ((word / 2 * 2 ^ 22 + e % 2 ^ 22) / 4096) (omega arith) in
    let d = le-leb ((word / 2 * 2 ^ 22 + e % 2 ^ 22) / 4096) last_page (omega arith) in
    rw (c, d)

module _ (s : Shape) (b : Board) (m : List ℕ) (fits : fits_board s b ≡ true) (x : Sim s (home_of s b.words) b.store m) where
  -- an access that is done on the board, as the load or store of flat memory at the same place
  related-touched : (r : Touched) (a : Access) (at : ℕ) (t : Bool) → length r.uses ≡ length b.uses → r.reached.answer.number ≡ 0
      → r.reached.answer.value ≡ cond t 0 (number m at a.width) → Sim s (home_of s b.words) r.reached.after (cond t (stored m at a.width a.value) m)
      → Related s (on_board b r) (cond t (given 0 0 (record {
        slots = b.slots;
        words = b.words;
        tag = b.tag;
        memory = stored m at a.width a.value;
        records_length = length b.store.records;
        cache_length = length b.store.cache;
        uses_length = length b.uses;
      })) (given 0 (number m at a.width) (plain_of b m)))
  related-touched r a at true u n v y =
      related-by s _ _ _ _ refl (rw (n, v)) (related-done s b m x r.reached.answer (on_board b r).after (stored m at a.width a.value) u y)
  related-touched r a at false u n v y = related-by s _ _ _ _ refl (rw (n, v)) (related-done s b m x r.reached.answer (on_board b r).after m u y)

  module _ (g : Global) (a : Access) (inside : g.0 % 16 + a.width ≤ 16) where
    -- an access to a line that has a home is one to the flat memory
    line_same : (p : ℕ) (w : Bool) → home_of s b.words (name_of g) ≡ Some (at_line p w)
        → Same s (home_of s b.words) a m (16 * p + g.0 % 16) (accessed s b.words g a b.store b.uses).reached
    unfolding accessed way_of
    line_same p w h =
        accessed-same s (home_of s b.words) (board-homes s b fits) x (victim_for s b.uses b.store.records g) (name_of g) p w
        (victim-inside s b.uses b.store.records (name_of g) x.ways_pos x.sets_pos)
        (victim-set s b.uses b.store.records (name_of g) x.ways_pos) h (g.0 % 16) a inside

    -- a done access to it
    related-access : (p : ℕ) (w : Bool) (at : Physical) → home_of s b.words (name_of g) ≡ Some (at_line p w) → at.0 ≡ 16 * p + g.0 % 16
        → Related s (on_board b (accessed s b.words g a b.store b.uses)) (plain_access (plain_of b m) at a)
    unfolding plain_access
    related-access p w at h q =
        let k = line_same p w h in
        rw q (related-touched (accessed s b.words g a b.store b.uses) a (16 * p + g.0 % 16) a.store (lengths-accessed s b a g).uses k.number k.value k.sim)

    -- rows 8 and 9 and the access, of an ordinary address
    related-line : (user : Bool) (found : Option ℕ) → ordinary_page (page_of g) ≡ true → mapped_to s b.words (page_of g) ≡ found
        → Related s (by_table (refused b) (row 8 (unreached (way_to s b.words b.store.records g))
        ∷ row 9 (user && (a.store && not (may_write (way_to s b.words b.store.records g)))) ∷ []) (on_board b (accessed s b.words g a b.store b.uses)))
        (by_table (plain_refused (plain_of b m)) (row 8 (not (is_mapped found)) ∷ row 9 (user && (a.store && not (word_writes (get_or b.words (found_frame found) 0)))) ∷ [])
        (plain_access (plain_of b m) (in_frame (found_frame found) g) a))
    unfolding by_table is_mapped found_frame way_of
    related-line user None o q =
        let z : g.0 / 16 / page_lines ≡ g.0 / 4096 = omega arith in
        let h = unmapped-home s b.words (name_of g) (rw z o) (rw z q) in
        rw (way-nowhere s (home_of s b.words) x (name_of g) h) (related-refused s b m x 8)
    related-line user (Some f) o q =
        let z : g.0 / 16 / page_lines ≡ g.0 / 4096 = omega arith in
        let h = mapped-home s b.words (name_of g) f (rw z q) in
        rw (way-reached s (home_of s b.words) x (name_of g) _ _ h, way-writes s (home_of s b.words) x (name_of g) _ _ h)
        (related-row s b m x 9 (user && (a.store && not (word_writes (get_or b.words f 0)))) _ _
        (λ _. related-access (f * page_lines + name_of g % page_lines) (word_writes (get_or b.words f 0)) (in_frame f g) h (omega arith)))

  -- ---- a user access

  pub related-user : (process : ℕ) (a : Access) (e : Effective) → Related s (user_access s b process a e) (plain_user s (plain_of b m) process a e)
  unfolding user_access user_table plain_user
  related-user process a e =
      let g = user_global b.slots process e in
      let rows = row1 s b ∷ user_rows s b.slots b.tag process a e in
      related-by s _ _ _ _
      (table-append (refused b) rows (line_rows a (way_to s b.words b.store.records g)) (on_board b (accessed s b.words g a b.store b.uses)))
      (rw (lengths-same s b m x)
      (table-append (plain_refused (plain_of b m)) rows
      (row 8 (not (address_mapped s (plain_of b m) g)) ∷ row 9 (a.store && not (word_writes (get_or b.words (address_frame s (plain_of b m) g) 0))) ∷ [])
      (plain_access (plain_of b m) (address_at s (plain_of b m) g) a)))
      (related-table s b m x rows _ _
      (λ k.
      let l = aligned-inside a.width e.0 (not-false _ (k 3)) in
      let t = not-false _ (k 5) in
      related-line g a (omega (arith, l.inside)) true (mapped_to s b.words (page_of g)) (user-page (slot_word_at b.slots process e) e.0 t) refl))

  -- ---- a supervisor access

  abbrev plain : Plain
  plain = plain_of b m

  -- the rows after number 4, on each machine
  abbrev board_rows : Global → Region → List Row
  board_rows g r =
      row 8 (is_ordinary r && unreached (way_to s b.words b.store.records g)) ∷ row 10 (is_cached r && word_in_use b.words (frame_under g))
      ∷ row 12 (outside s (frame_under g) r) ∷ []

  abbrev plain_rows : Global → Region → List Row
  plain_rows g r =
      row 8 (is_ordinary r && not (address_mapped s plain g)) ∷ row 10 (is_cached r && word_in_use b.words (frame_under g))
      ∷ row 12 (outside s (frame_under g) r) ∷ []

  module _ (g : Global) (a : Access) (inside : g.0 % 16 + a.width ≤ 16) (below : g.0 < 2 ^ 44) where
    -- memory below U, past the cache
    related-memory : (physical_of g).0 / 4096 < s.uncached → (t : Bool) → a.store ≡ t
        → Related s (on_board b (touched (memory_access (physical_of g) a b.store) b.uses)) (plain_access plain (physical_of g) a)
    unfolding memory_access plain_access
    related-memory u true t =
        rw t (related-done s b m x _ (with_store b _) _ refl
        (sim-memory s b.words b.store m x (board-shaped s b fits).uncached_max (physical_of g).0 a.width (omega arith) u a.value))
    related-memory u false t =
        let e = memory-same s b.words b.store m x (board-shaped s b fits).uncached_max (physical_of g).0 a.width (omega arith) u in
        rw (t, e) (related-done s b m x _ (with_store b b.store) m refl x)

    related-region : (r : Region) → region_of g ≡ r
        → Related s (by_table (refused b) (board_rows g r) (on_board b (supervisor_done s b.words a g b.store b.uses r))) (by_table (plain_refused plain) (plain_rows g r) (plain_access plain (supervisor_at s plain g r) a))
    unfolding by_table is_ordinary is_cached outside supervisor_done supervisor_at
    related-region Uncached q =
        related-row s b m x 12 (leb s.uncached (frame_under g)) _ _ (λ h. related-memory (leb-false _ _ h) a.store refl)
    related-region PageTable q = related-refused s b m x 12
    related-region Cached q =
        related-row s b m x 10 (word_in_use b.words (frame_under g)) _ _ λ h.
        related-row s b m x 12 (leb s.frames (frame_under g) || ltb (frame_under g) s.uncached) _ _ λ k.
        let c = region-cached g q in
        related-access g a inside (name_of g % prefix_lines) true (physical_of g) (sym (prefix-home s b.words g c h k)) (omega arith)
    related-region Ordinary q =
        related-line g a inside false (mapped_to s b.words (page_of g)) (region-ordinary g q below) refl

  pub related-supervisor : (a : Access) (g : Global) → Related s (supervisor_access s b a g) (plain_supervisor s (plain_of b m) a g)
  unfolding supervisor_access supervisor_table plain_supervisor
  related-supervisor a g =
      let rows = row1 s b ∷ row 2 (not (is_global g) || too_large a) ∷ row 3 (is_ordinary (region_of g) && b.tag.set) ∷ row 4 (not (aligned_to a.width g.0)) ∷ [] in
      related-by s _ _ _ _
      (table-append (refused b) rows (board_rows g (region_of g)) (on_board b (supervisor_done s b.words a g b.store b.uses (region_of g))))
      (rw (lengths-same s b m x)
      (table-append (plain_refused plain) rows (plain_rows g (region_of g)) (plain_access plain (supervisor_at s plain g (region_of g)) a)))
      (related-table s b m x rows _ _
      (λ k.
      let l = aligned-inside a.width g.0 (not-false _ (k 3)) in
      related-region g a l.inside (ltb-true _ _ (not-false _ (or-false (not (is_global g)) _ (k 1)).0)) (region_of g) refl))
