-- A record that holds a line after a call held it before, or is the one that the call uses; and the set of a used record has a matrix.
use Rattle.std.specs.Prelude.{Option, Some, None}
use Rattle.std.proofs.lemmas.Option.{none-some}
use Prim.Native.Nat.{ℕ, ◌*◌, ◌<◌}
use mathlib.Core.Path.{◌≡◌, ◌∙◌, refl, sym}
use mathlib.Core.Bool.{Bool, true, false, ◌&&◌, cond}
use mathlib.Core.List.{List}
use native.Mathlib.Nat.{mod-lt}
use native.Mathlib.Omega.{arith}
use lib.Dec.{eqb}
use lib.ListN.{length}
use borrow.Author.Tests.{eqb-false, eq-eqb, ne_eqb, not-false}
use Rattle.address.specs.Addresses.{name_of, region_of}
use Rattle.address.specs.declared.Global.{Global}
use Rattle.address.specs.declared.Region.{Region}
use Rattle.address.specs.declared.Region.TheVariants.{Uncached, Cached, PageTable, Ordinary}
use Rattle.board.specs.Shapes.{set_lines}
use Rattle.board.specs.declared.Shape.{Shape}
use Rattle.board.proofs.Bools.{clash, and_right}
use Rattle.board.proofs.Shapes.{matrices-four}
use Rattle.lines.specs.Records.{line_at, no_line, new_line}
use Rattle.lines.specs.Holds.{sets_of, place_of, set_at, holds_line, holds_at, holds_name, holder_of}
use Rattle.lines.specs.Victims.{victim_of, room_by}
use Rattle.lines.specs.declared.Line.{Line}
use Rattle.lines.proofs.Records.{line-put-other}
use Rattle.lines.proofs.Sets.{sets_pos, victim-set}
use Rattle.stores.specs.Stores.{Store, filled, noted, inserted}
use Rattle.stores.specs.declared.Access.{Access}
use Rattle.visits.specs.Visits.{map_visit, unmap_visit, protect_visit, move_visit, flush_visit, selects, visited_all}
use Rattle.visits.specs.declared.Deed.{Deed}
use Rattle.visits.specs.declared.Deed.TheVariants.{Drop, Retire, Permit}
use Rattle.visits.specs.declared.Visit.{Visit}
use Rattle.store_laws.proofs.Held.{held-listed}
use Rattle.store_laws.proofs.Steps.{written-records}
use Rattle.store_laws.proofs.Sweeps.{fate_of, fate, swept-cache, swept-line}
use Rattle.machine.specs.Boards.{Board, Outcome, fits_board, refused}
use Rattle.machine.specs.Refusals.{Row, by_table, row1}
use Rattle.machine.specs.Accesses.{user_global, supervisor_done, supervisor_access}
use Rattle.machine.specs.Calls as board
use Rattle.machine.specs.Calls.{mapped, unmapped, protected, moved, loaded_by, loaded}
use Rattle.machine.proofs.Tables.{Passed, table-cases}
use Rattle.promises.specs.Runs.{Supervisor, access, attach, detach, map, unmap, protect, move, flush_all, tag, load_and_map, drop_tag, Call, user, supervisor, supervise, step}
use Rattle.promises.specs.Demand2.{OnlyAt, record_to}
use Rattle.promises.proofs.Shapes.{board-shaped, board-lined}
use Rattle.promises.proofs.Places.{demand2-place}
use Rattle.promises.proofs.Demand1.{demand1}
use Rattle.promises.proofs.Demand2.{unfit-call}
use Rattle.set_promises.specs.LastUses.{reached_in, would_use, used_by, is_record}

-- a record holds the line of a name by what it says
named-same : (s : Shape) (name i : ℕ) (r q : List ℕ) → line_at r i ≡ line_at q i → holds_name s r name i ≡ holds_name s q name i
unfolding holds_name holds_at
named-same s name i r q e = rw e

-- ---- visits bring no line

module _ (s : Shape) (v : Visit) (i name : ℕ) where
  -- this line, as record i, is that of the name
  abbrev is : Line → Bool
  is l = eqb l.name name && holds_line s i l

  fated : (d : Deed) (l : Line) → is (fate_of d l) ≡ true → is l ≡ true
  unfolding fate_of holds_line
  fated Drop l h = clash (holds_line s i no_line) (and_right (eqb 0 name) _ h) refl
  fated Retire l h = clash (holds_line s i no_line) (and_right (eqb 0 name) _ h) refl
  fated (Permit write) l h = h

  visited-fate : (l : Line) → is (fate s v i l) ≡ true → is l ≡ true
  unfolding fate
  visited-fate l h = go (holds_line s i l && selects v l) h
    where
      go : (t : Bool) → is (cond t (fate_of v.deed l) l) ≡ true → is l ≡ true
      go true h = fated v.deed l h
      go false h = h

  visits-named : (x : Store) → length x.records ≡ 2 * s.lines → holds_name s (visited_all s v x).records name i ≡ true → holds_name s x.records name i ≡ true
  unfolding holds_name holds_at
  visits-named x c h =
      let r = (visited_all s v x).records in
      let low = held-listed s r i s.lines ((swept-cache s v x).records_length ∙ c) (and_right (eqb (line_at r i).name name) _ h) in
      visited-fate (line_at x.records i) (rw (swept-line s v x i c low) at h)

-- ---- each call

module _ (s : Shape) (b : Board) where
  -- a record that holds the line of a name in the store x does so on the board, but for the record that is used
  abbrev Keeps : Option ℕ → Store → Type 0
  Keeps would x = (i name : ℕ) → is_record i would ≡ false → holds_name s x.records name i ≡ true → holds_name s b.store.records name i ≡ true

  keeps-table : (would : Option ℕ) (rows : List Row) (d : Outcome) → (Passed rows → Keeps would d.after.store) → Keeps would (by_table (refused b) rows d).after.store
  keeps-table would rows d h = table-cases (λ (o : Outcome). Keeps would o.after.store) (refused b) (λ n i name u g. g) rows d h

  -- an access alters one record only
  keeps-only : (to : ℕ) (x : Store) → OnlyAt (eqb to) b.store x → Keeps (Some to) x
  unfolding is_record
  keeps-only to x o i name n h =
      sym (named-same s name i x.records b.store.records (o.same_records i (ne_eqb to i (λ e. eqb-false i to n (sym e))))) ∙ h

  keeps-loaded : (victim tagged line : ℕ) (write : Bool) (found : Option ℕ) → Keeps (room_by victim found) (loaded_by s victim tagged line write b.store found)
  unfolding is_record room_by loaded_by inserted noted filled
  keeps-loaded victim tagged line write (Some j) i name n h = h
  keeps-loaded victim tagged line write None i name n h =
      let e = line-put-other b.store.records victim (new_line tagged line write) i (λ y. eqb-false i victim n (sym y)) in
      sym (named-same s name i _ b.store.records e) ∙ (rw (written-records s victim b.store) at h)

  -- a used record is in one of the sets
  abbrev Inside : Option ℕ → Type 0
  Inside would = 0 < s.ways → 0 < sets_of s → (i : ℕ) → would ≡ Some i → set_at s i < sets_of s

  inside : (to name : ℕ) → (0 < s.ways → set_at s to ≡ place_of s name) → Inside (Some to)
  inside to name e w p i q = let z : i ≡ to = cc in rw (z, e w) (mod-lt name p)

  inside-none : Inside None
  inside-none w p i q = absurd (none-some i q)

  -- what a call leaves that uses this record if it is done
  record Leaves (would : Option ℕ) (o : Outcome) : Type 0 where
    keeps : Keeps would o.after.store
    in_sets : Inside would

  -- no use
  leaves_none : (o : Outcome) → Keeps None o.after.store → Leaves None o
  leaves_none o h = record { keeps = h; in_sets = inside-none }

  leaves-idle : (rows : List Row) (d : Outcome) → (Passed rows → Keeps None d.after.store) → Leaves None (by_table (refused b) rows d)
  leaves-idle rows d h = leaves_none (by_table (refused b) rows d) (keeps-table None rows d h)

  leaves_at : (g : Global) (o : Outcome) → OnlyAt (eqb (record_to s b g)) b.store o.after.store → Leaves (Some (record_to s b g)) o
  leaves_at g o h = record { keeps = keeps-only (record_to s b g) o.after.store h; in_sets = inside (record_to s b g) (name_of g) (demand2-place.own_set s b g) }

  leaves-access : (a : Access) (g : Global) (r : Region) → region_of g ≡ r → Leaves (reached_in (record_to s b g) r) (supervisor_access s b a g)
  unfolding reached_in supervisor_access supervisor_done
  leaves-access a g Uncached q = leaves_none (supervisor_access s b a g) (λ i name n h. rw (demand2-place.prefix_0_records s b a g q) at h)
  leaves-access a g Cached q = leaves_at g (supervisor_access s b a g) (demand2-place.supervisor_place s b a g)
  leaves-access a g PageTable q = leaves-idle _ _ (rw q (λ p i name n h. h))
  leaves-access a g Ordinary q = leaves_at g (supervisor_access s b a g) (demand2-place.supervisor_place s b a g)

  keeps-visit : (v : Visit) → (row1 s b).applies ≡ false → Keeps None (visited_all s v b.store)
  keeps-visit v f i name n h = visits-named s v i name b.store (board-shaped s b (not-false _ f)).records_are h

  leaves-loaded : (line : ℕ) → Leaves (would_use s b (supervisor (load_and_map line))) (board.load_and_map s b line)
  unfolding would_use room_by board.load_and_map loaded
  leaves-loaded line = record {
    keeps = keeps-table _ _ _ (λ p. keeps-loaded _ _ line _ (holder_of s b.store.records b.tag.name));
    in_sets = go (holder_of s b.store.records b.tag.name);
  }
    where
      go : (found : Option ℕ) → Inside (room_by (victim_of s b.uses b.store.records b.tag.name) found)
      go (Some j) = inside-none
      go None = inside _ b.tag.name (victim-set s b.uses b.store.records b.tag.name)

  leaves-supervise : (c : Supervisor) → Leaves (would_use s b (supervisor c)) (supervise s b c)
  unfolding would_use supervise board.attach board.detach board.map_page board.unmap board.protect board.move_page board.flush_all board.tag board.drop_tag mapped unmapped protected moved
  leaves-supervise (access a g) = leaves-access a g (region_of g) refl
  leaves-supervise (attach process slot segment write) = leaves-idle _ _ (λ p i name n h. h)
  leaves-supervise (detach process slot) = leaves-idle _ _ (λ p i name n h. h)
  leaves-supervise (map page frame write) = leaves-idle _ _ (λ p. keeps-visit (map_visit page frame) (p 0))
  leaves-supervise (unmap page) = leaves-idle _ _ (λ p. keeps-visit (unmap_visit page) (p 0))
  leaves-supervise (protect page write) = leaves-idle _ _ (λ p. keeps-visit (protect_visit page write) (p 0))
  leaves-supervise (move page new) = leaves-idle _ _ (λ p. keeps-visit (move_visit page new) (p 0))
  leaves-supervise flush_all = leaves-idle _ _ (λ p. keeps-visit flush_visit (p 0))
  leaves-supervise (tag name) = leaves-idle _ _ (λ p i name n h. h)
  leaves-supervise (load_and_map line) = leaves-loaded line
  leaves-supervise drop_tag = leaves-idle _ _ (λ p i name n h. h)

  leaves-step : (k : Call) → Leaves (would_use s b k) (step s b k)
  unfolding would_use step
  leaves-step (user process a e) = leaves_at (user_global b.slots process e) _ (demand2-place.user_place s b process a e)
  leaves-step (supervisor c) = leaves-supervise c

  -- ---- by the record that is used

  module _ (k : Call) where
    -- a refused call uses none, and keeps the board
    pub kept-named : (i name : ℕ) → is_record i (used_by s b k) ≡ false → holds_name s (step s b k).after.store.records name i ≡ true
        → holds_name s b.store.records name i ≡ true
    unfolding used_by
    kept-named i name n h = go (eqb (step s b k).answer.number 0) refl n
      where
        go : (t : Bool) → eqb (step s b k).answer.number 0 ≡ t → is_record i (cond t (would_use s b k) None) ≡ false → holds_name s b.store.records name i ≡ true
        go true e n = (leaves-step k).keeps i name n h
        go false e n = rw ((demand1.calls s b k).nothing_changed (eqb-false _ 0 e)) at h

    pub kept-held : (i : ℕ) → is_record i (used_by s b k) ≡ false → holds_at s (step s b k).after.store.records i ≡ true → holds_at s b.store.records i ≡ true
    unfolding holds_name
    kept-held i n h =
        let name = (line_at (step s b k).after.store.records i).name in
        and_right (eqb (line_at b.store.records i).name name) _ (kept-named i name n (rw (h, eq-eqb name name refl)))

    module _ (i : ℕ) (u : used_by s b k ≡ Some i) where
      -- a call that uses a record was not refused by 1
      pub used-fits : fits_board s b ≡ true
      unfolding used_by
      used-fits = go (fits_board s b) refl
        where
          go : (t : Bool) → fits_board s b ≡ t → fits_board s b ≡ true
          go true e = e
          go false e = absurd (none-some i (rw (unfit-call s b b.store.memory (record { no = e; same_length = refl }) k).0 at u))

      used-would : would_use s b k ≡ Some i
      unfolding used_by
      used-would = go (eqb (step s b k).answer.number 0) u
        where
          go : (t : Bool) → cond t (would_use s b k) None ≡ Some i → would_use s b k ≡ Some i
          go true e = e
          go false e = absurd (none-some i e)

      pub used-in : s.ways ≡ set_lines → set_at s i < length b.uses
      used-in four =
          rw ((board-shaped s b used-fits).uses_are, ← matrices-four s (sets_of s) four (rw four))
          ((leaves-step k).in_sets (omega (arith, four)) (sets_pos s (board-lined s b used-fits)) i used-would)
