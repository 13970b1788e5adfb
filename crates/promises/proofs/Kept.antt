-- A value that was stored is read back whole by a load of the same width and address as the next call, on any board: after a store the line's record
-- holds it; under prefix 0 memory has the bytes. Stands on the laws of searches and sets, Held, Steps (a write-back),
-- Lengths and Demand1 (what a rising table gives).
use Rattle.std.specs.Prelude.{Option, Some, None}
use Prim.Native.Nat.{ℕ, ◌+◌, ◌*◌, ◌%◌, ◌^◌, ◌≤◌, ◌<◌}
use mathlib.Core.Path.{◌≡◌, ◌∙◌, refl, sym, ap}
use mathlib.Core.Bool.{Bool, true, false, not, ◌&&◌, ◌||◌}
use mathlib.Core.List.{List}
use native.Mathlib.Omega.{arith}
use lib.ListN.{length}
use lib.Dec.{eqb}
use borrow.Author.Tests.{eqb-true, eqb-false, leb-false, not-false}
use Rattle.address.specs.Addresses.{name_of, region_of, physical_of}
use Rattle.address.specs.declared.Effective.{Effective}
use Rattle.address.specs.declared.Global.{Global}
use Rattle.address.specs.declared.Region.{Region}
use Rattle.address.specs.declared.Region.TheVariants.{Uncached, Cached, PageTable, Ordinary}
use Rattle.board.specs.Homes.{at_line}
use Rattle.board.specs.declared.Shape.{Shape}
use Rattle.board.specs.declared.Home.{Home}
use Rattle.board.proofs.Searches.{first-same}
use Rattle.board.proofs.Bools.{clash, and_left, and-rest, or-false, cond_both}
use Rattle.pages.specs.Pages.{home_of}
use Rattle.pages.proofs.Frames.{home-inside}
use Rattle.line_bytes.proofs.Bytes.{length-stored}
use Rattle.lines.specs.Records.{line_at, put_line, new_line, changed_line}
use Rattle.lines.specs.Holds.{place_of, first_at, holds_line, holds_at, holds_name, holder_of}
use Rattle.lines.specs.Victims.{Uses, victim_of}
use Rattle.lines.proofs.Records.{length-put, line-put-same, line-put-other}
use Rattle.lines.proofs.Sets.{ways_pos, sets_pos, victim-set, victim-inside, holder-inside}
use Rattle.stores.specs.Premises.{Sized}
use Rattle.stores.specs.Stores.{Store, store, filled, noted, inserted, Performed, performed_at}
use Rattle.stores.specs.declared.Access.{Access}
use Rattle.reach.specs.Reach.{way_by_home, way_by, way_of, unreached}
use Rattle.reach.specs.declared.Way.TheVariants.{Held}
use Rattle.machine.specs.Boards.{Board, fits_board, Outcome, refused}
use Rattle.machine.specs.Refusals.{Row, by_table, is_process, is_global, is_width, too_large, is_ordinary, is_cached, word_in_use, aligned_to, outside}
use Rattle.machine.specs.Accesses.{Reached, performed_on, accessed_by, accessed, way_to, victim_for, on_board, user_global, user_table, user_access, frame_under, memory_access, supervisor_table, supervisor_done, supervisor_access}
use Rattle.machine.specs.Rising.{Rises}
use Rattle.machine.proofs.Tables.{Passed}
use Rattle.machine.proofs.Rising.{tables-rise}
use Rattle.machine.proofs.Alignments.{aligned-inside}
use Rattle.machine.proofs.Prefixes.{region-cached, prefix-reached}
use Rattle.store_laws.proofs.Bytes.{number-stored}
use Rattle.store_laws.proofs.Held.{holds-new, held-put-same, held-put-other, holder-some, holder-nothing}
use Rattle.store_laws.proofs.Steps.{written-records}
use Rattle.promises.specs.Runs.{Reply, reply}
use Rattle.promises.specs.Values.{storing, loading}
use Rattle.promises.proofs.Shapes.{board-shaped, board-sized}
use Rattle.promises.proofs.Lengths.{sizes-inserted, lengths-fit, lengths-accessed, lengths-supervisor}
use Rattle.promises.proofs.Demand1.{Tabled, passed, stopped, tabled}

-- done, with this value
abbrev whole : ℕ → Reply
whole value = record { number = 0; value = value }

-- ---- a line that a record holds

-- the search for this name finds record i, and it has room in both lists
pub record HeldBy (s : Shape) (name : ℕ) (x : Store) (i : ℕ) : Type 0 where
  pub found : holder_of s x.records name ≡ Some i
  pub records_room : 2 * i + 2 ≤ length x.records
  pub cache_room : 16 * i + 16 ≤ length x.cache

-- so the way to the line is that record
held-way : (s : Shape) (words : List ℕ) (name : ℕ) (x : Store) (i : ℕ) → HeldBy s name x i
    → way_of s words x.records name ≡ Some (Held i (line_at x.records i).write)
unfolding way_of way_by
held-way s words name x i h = rw h.found

-- the mark of a change leaves what every search finds
module _ (s : Shape) (r : List ℕ) (name i : ℕ) (room : 2 * i + 2 ≤ length r) where
  abbrev marked : List ℕ
  marked = put_line r i (changed_line (line_at r i))

  marked-name : (k : ℕ) → holds_name s marked name k ≡ holds_name s r name k
  unfolding holds_name holds_at holds_line
  marked-name k = go (eqb i k) refl
    where
      go : (t : Bool) → eqb i k ≡ t → holds_name s marked name k ≡ holds_name s r name k
      go true t = let q : i ≡ k = eqb-true i k t in rw (← q, line-put-same r i (changed_line (line_at r i)) room)
      go false t = rw (line-put-other r i (changed_line (line_at r i)) k (eqb-false i k t))

  marked-holder : holder_of s marked name ≡ holder_of s r name
  unfolding holder_of
  marked-holder = first-same (holds_name s r name) (holds_name s marked name) marked-name (first_at s (place_of s name)) s.ways

-- an access leaves it held
pub performed-held : (s : Shape) (name off : ℕ) (a : Access) (mark i : ℕ) (x : Store) → HeldBy s name x i → HeldBy s name (performed_on i off a mark x).after i
unfolding performed_on performed_at
performed-held s name off a mark i x h =
    cond_both (λ (p : Performed). HeldBy s name (store p.records p.cache x.memory) i) a.store _ _
    (record {
      found = marked-holder s x.records name i h.records_room ∙ h.found;
      records_room = rw length-put h.records_room;
      cache_room = rw length-stored h.cache_room;
    })
    (record { found = h.found; records_room = h.records_room; cache_room = h.cache_room })

-- a name that one record holds and no other is found there
found-only : (s : Shape) (r : List ℕ) (name i : ℕ) → 0 < s.ways → holds_at s r i ≡ true → (line_at r i).name ≡ name
    → ((j : ℕ) → holds_at s r j ≡ true → (line_at r j).name ≡ name → j ≡ i) → holder_of s r name ≡ Some i
found-only s r name i w h n only = go (holder_of s r name) refl
  where
    go : (f : Option ℕ) → holder_of s r name ≡ f → f ≡ Some i
    go (Some j) e = let k = holder-some s r name j e in ap Some (only j k.0 k.1)
    go None e = absurd (holder-nothing s r name i w e h n)

-- the records of a board that fits
module _ (s : Shape) (name : ℕ) (x : Store) (z : Sized s x.records x.cache x.memory) where
  -- the record that is found holds the line
  pub found-held : (i : ℕ) → holder_of s x.records name ≡ Some i → HeldBy s name x i
  found-held i e =
      let low = holder-inside s x.records name i (holder_of s x.records name) refl e z.lined in
      record { found = e; records_room = omega (arith, low, z.records_are); cache_room = omega (arith, low, z.cache_is) }

  -- and so does the victim, once it is filled from the name's home, where none held the line
  module _ (uses : Uses) (words : List ℕ) (frames : length words ≡ s.frames) (line : ℕ) (write : Bool) (home : home_of s words name ≡ Some (at_line line write))
      (none : holder_of s x.records name ≡ None) where
    abbrev to : ℕ
    to = victim_of s uses x.records name

    ways : 0 < s.ways
    ways = ways_pos s z.lined

    low : to < s.lines
    low = victim-inside s uses x.records name ways (sets_pos s z.lined)

    room : 2 * to + 2 ≤ length x.records
    room = omega (arith, low, z.records_are)

    abbrev put : List ℕ
    put = put_line x.records to (new_line name line write)

    put_only : (j : ℕ) → holds_at s put j ≡ true → (line_at put j).name ≡ name → j ≡ to
    put_only j h n = go (eqb j to) refl
      where
        go : (t : Bool) → eqb j to ≡ t → j ≡ to
        go true t = eqb-true j to t
        go false t =
            let d = eqb-false j to t in
            let e = line-put-other x.records to (new_line name line write) j (λ q. d (sym q)) in
            absurd (holder-nothing s x.records name j ways none (sym (held-put-other s x.records to (new_line name line write) j d) ∙ h) (rw e at n))

    put-found : holder_of s put name ≡ Some to
    put-found =
        found-only s put name to ways
        (held-put-same s x.records to (new_line name line write) room
        ∙ holds-new s to name line write (victim-set s uses x.records name ways) (home-inside s words name line write (home_of s words name) refl home frames))
        (rw (line-put-same x.records to (new_line name line write) room)) put_only

    pub filled-held : HeldBy s name (inserted s to name line write x) to
    unfolding inserted noted filled
    filled-held =
        let n = sizes-inserted s to name line write x in
        record {
          found = rw written-records put-found;
          records_room = omega (arith, low, z.records_are, n.records);
          cache_room = omega (arith, low, z.cache_is, n.cache);
        }

module _ (s : Shape) (name off width value v : ℕ) (fits : value < 256 ^ width) (inside : off + width ≤ 16) (mark i : ℕ) (x : Store) (h : HeldBy s name x i) where
  -- a load after a store gives the value
  stored_loaded : (again : ℕ) → reply (performed_on i off (loading width v) again (performed_on i off (storing width value) mark x).after).answer ≡ whole value
  unfolding performed_on performed_at
  stored_loaded again = rw (number-stored x.cache (16 * i + off) width value fits (omega (arith, h.cache_room)))

-- ---- an access to a line

module _ (s : Shape) (words : List ℕ) (g : Global) (width value v : ℕ) (fits : value < 256 ^ width) (inside : g.0 % 16 + width ≤ 16) where
  -- what a store leaves: the line is reached, and a load gives the value, whatever the matrices
  record Again (r : Reached) : Type 0 where
    reaches : unreached (way_to s words r.after.records g) ≡ false
    gives : (uses : Uses) → reply (accessed s words g (loading width v) r.after uses).reached.answer ≡ whole value

  again : (mark i : ℕ) (x : Store) → HeldBy s (name_of g) x i → Again (performed_on i (g.0 % 16) (storing width value) mark x)
  unfolding accessed accessed_by unreached
  again mark i x h =
      let k = performed-held s (name_of g) (g.0 % 16) (storing width value) mark i x h in
      let w = held-way s words (name_of g) (performed_on i (g.0 % 16) (storing width value) mark x).after i k in
      record { reaches = rw w; gives = λ uses. rw w (stored_loaded s (name_of g) (g.0 % 16) width value v fits inside mark i x h _) }

  module _ (x : Store) (uses : Uses) (z : Sized s x.records x.cache x.memory) (frames : length words ≡ s.frames) where
    by_home : (home : Option Home) → home_of s words (name_of g) ≡ home → holder_of s x.records (name_of g) ≡ None → unreached (way_by_home home) ≡ false
        → Again (accessed_by s (victim_for s uses x.records g) (name_of g) (g.0 % 16) (storing width value) x (way_by_home home))
    unfolding way_by_home accessed_by unreached
    by_home (Some hm) e n h =
        again _ (victim_for s uses x.records g) (inserted s (victim_for s uses x.records g) (name_of g) hm.line hm.write x) (filled-held s (name_of g) x z uses words frames hm.line hm.write e n)
    by_home None e n h = clash true refl h

    by-found : (found : Option ℕ) → holder_of s x.records (name_of g) ≡ found → unreached (way_by x.records (home_of s words (name_of g)) found) ≡ false
        → Again (accessed_by s (victim_for s uses x.records g) (name_of g) (g.0 % 16) (storing width value) x (way_by x.records (home_of s words (name_of g)) found))
    unfolding way_by accessed_by
    by-found (Some i) e h = again _ i x (found-held s (name_of g) x z i e)
    by-found None e h = by_home (home_of s words (name_of g)) refl e h

    accessed-again : unreached (way_to s words x.records g) ≡ false → Again (accessed s words g (storing width value) x uses).reached
    unfolding accessed way_of
    accessed-again h = by-found (holder_of s x.records (name_of g)) refl h

-- ---- a call

-- a table that gives 0 was passed
table_done : (b : Board) (P : Outcome → Type 0) (rows : List Row) (d : Outcome) → Rises rows → (Passed rows → P d)
    → (by_table (refused b) rows d).answer.number ≡ 0 → P (by_table (refused b) rows d)
table_done b P rows d r h = go (by_table (refused b) rows d) (tabled (refused b) d 1 rows r)
  where
    go : (o : Outcome) → Tabled (refused b) 1 rows d o → o.answer.number ≡ 0 → P o
    go o (passed _ q) e = h q
    go o (stopped n l _ _) e = absurd (omega arith)

-- a value that passed rows 2 and 4 fits
passed-fits : (width value at : ℕ) (t : Bool) → (t || too_large (storing width value)) ≡ false → not (aligned_to width at) ≡ false → value < 256 ^ width
unfolding too_large aligned_to
passed-fits width value at t h k = leb-false _ _ (and-rest (is_width width) _ (and_left (is_width width) _ (not-false _ k)) (or-false t _ h).1)

module _ (s : Shape) (b : Board) (width value v : ℕ) where
  module _ (n : ℕ) (e : Effective) where
    abbrev own : Global
    own = user_global b.slots n e

    user-passed : Passed (user_table s b n (storing width value) e)
        → reply (user_access s (on_board b (accessed s b.words own (storing width value) b.store b.uses)).after n (loading width v) e).answer ≡ whole value
    unfolding user_access user_table by_table too_large
    user-passed h =
        let fits = not-false (fits_board s b) (h 0) in
        let k = board-shaped s b fits in
        let al = aligned-inside width e.0 (not-false _ (h 3)) in
        let r = accessed-again s b.words own width value v (passed-fits width value e.0 (not (is_process s n)) (h 1) (h 3)) (omega (arith, al.inside))
        b.store b.uses (board-sized s b fits) k.words_are (h 7) in
        let z = lengths-fit s b _ (lengths-accessed s b (storing width value) own) in
        rw (z, h 0, (or-false (not (is_process s n)) _ (h 1)).0, h 2, h 3, h 4, h 5, r.reaches) (r.gives _)

    pub user-kept : (user_access s b n (storing width value) e).answer.number ≡ 0
        → reply (user_access s (user_access s b n (storing width value) e).after n (loading width v) e).answer ≡ whole value
    unfolding user_access
    user-kept =
        table_done b (λ (o : Outcome). reply (user_access s o.after n (loading width v) e).answer ≡ whole value) _ _
        (tables-rise.user_access s b n (storing width value) e) user-passed

  module _ (g : Global) where
    -- what a supervisor's store leaves, by its region
    record KeptIn (r : Region) (o : Reached) : Type 0 where
      reaches : (is_ordinary r && unreached (way_to s b.words o.after.records g)) ≡ false
      gives : (uses : Uses) → reply (supervisor_done s b.words (loading width v) g o.after uses r).reached.answer ≡ whole value

    module _ (fits : value < 256 ^ width) (inside : g.0 % 16 + width ≤ 16) (fit : fits_board s b ≡ true) where
      by-cache : unreached (way_to s b.words b.store.records g) ≡ false → Again s b.words g width value v fits inside (accessed s b.words g (storing width value) b.store b.uses).reached
      by-cache h =
          let k = board-shaped s b fit in
          accessed-again s b.words g width value v fits inside b.store b.uses (board-sized s b fit) k.words_are h

      kept_in : (r : Region) → region_of g ≡ r → (is_ordinary r && unreached (way_to s b.words b.store.records g)) ≡ false
          → (is_cached r && word_in_use b.words (frame_under g)) ≡ false → outside s (frame_under g) r ≡ false
          → KeptIn r (supervisor_done s b.words (storing width value) g b.store b.uses r).reached
      unfolding supervisor_done memory_access is_ordinary is_cached outside
      kept_in Uncached q h i o =
          let k = board-shaped s b fit in
          let f = leb-false s.uncached (frame_under g) o in
          record {
            reaches = refl;
            gives = λ uses. rw (number-stored b.store.memory (physical_of g).0 width value fits (omega (arith, f, k.uncached_max, k.memory_is)));
          }
      kept_in Cached q h i o =
          let r = by-cache (prefix-reached s b.words g (region-cached g q) b.store.records i o) in
          record { reaches = refl; gives = r.gives }
      kept_in PageTable q h i o = clash true refl o
      kept_in Ordinary q h i o = let r = by-cache h in record { reaches = r.reaches; gives = r.gives }

    supervisor-passed : Passed (supervisor_table s b (storing width value) g)
        → reply (supervisor_access s (on_board b (supervisor_done s b.words (storing width value) g b.store b.uses (region_of g))).after (loading width v) g).answer ≡ whole value
    unfolding supervisor_access supervisor_table by_table too_large
    supervisor-passed h =
        let fit = not-false (fits_board s b) (h 0) in
        let al = aligned-inside width g.0 (not-false _ (h 3)) in
        let r = kept_in (passed-fits width value g.0 (not (is_global g)) (h 1) (h 3)) al.inside fit (region_of g) refl (h 4) (h 5) (h 6) in
        let z = lengths-fit s b _ (lengths-supervisor s b (storing width value) g (region_of g)) in
        rw (z, h 0, (or-false (not (is_global g)) _ (h 1)).0, h 2, h 3, r.reaches, h 5, h 6) (r.gives _)

    pub supervisor-kept : (supervisor_access s b (storing width value) g).answer.number ≡ 0
        → reply (supervisor_access s (supervisor_access s b (storing width value) g).after (loading width v) g).answer ≡ whole value
    unfolding supervisor_access
    supervisor-kept =
        table_done b (λ (o : Outcome). reply (supervisor_access s o.after (loading width v) g).answer ≡ whole value) _ _
        (tables-rise.supervisor_access s b (storing width value) g) supervisor-passed
