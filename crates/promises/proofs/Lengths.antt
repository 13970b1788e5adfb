-- Every call keeps the lengths of the lists, so numbers that fit still fit, and others still don't.
-- Stands on the length laws of `line_bytes` and `lines`, Steps (a write-back) and Sweeps (the visits).
use Rattle.std.specs.Prelude.{Option, Some, None}
use Prim.Native.Nat.{ℕ}
use mathlib.Core.Path.{◌≡◌, ◌∙◌, refl, ap}
use mathlib.Core.Bool.{Bool}
use mathlib.Core.List.{List}
use lib.Dec.{eqb}
use lib.ListN.{length, set, length-set}
use Rattle.address.specs.declared.Global.{Global}
use Rattle.address.specs.declared.Physical.{Physical}
use Rattle.address.specs.declared.Region.{Region}
use Rattle.address.specs.declared.Region.TheVariants.{Uncached, Cached, PageTable, Ordinary}
use Rattle.board.specs.Shapes.{set_lines}
use Rattle.board.specs.declared.Shape.{Shape}
use Rattle.board.specs.declared.Pending.{Pending}
use Rattle.board.proofs.Bools.{cond_both}
use Rattle.stores.specs.Stores.{Store, written_back, filled, noted, inserted, performed_at, Performed}
use Rattle.lines.specs.Victims.{Uses, used_in}
use Rattle.visits.specs.Visits.{map_visit, unmap_visit, protect_visit, move_visit, flush_visit, visited_all}
use Rattle.stores.specs.declared.Access.{Access}
use Rattle.lines.specs.declared.Line.{Line}
use Rattle.visits.specs.declared.Visit.{Visit}
use Rattle.reach.specs.declared.Way.{Way}
use Rattle.reach.specs.declared.Way.TheVariants.{Held, InMemory}
use Rattle.line_bytes.proofs.Bytes.{length-stored, length-line}
use Rattle.lines.proofs.Records.{length-put}
use Rattle.machine.specs.Boards.{Board, Outcome, refused, with_slots, with_tag, with_use, with_pages, no_tag, tagged, fits_board}
use Rattle.machine.specs.Refusals.{Row, by_table}
use Rattle.machine.specs.Accesses.{Reached, accessed_by, uses_by, accessed, on_board, performed_on, user_access, memory_access, supervisor_done, supervisor_access}
use Rattle.machine.specs.Calls as board
use Rattle.machine.specs.Calls.{zeroed_store, mapped, unmapped, protected, moved, loaded, loaded_by, loaded_uses, on_loaded}
use Rattle.machine.proofs.Tables.{table-cases}
use Rattle.promises.specs.Runs.{Supervisor, access, attach, detach, map, unmap, protect, move, flush_all, tag, load_and_map, drop_tag, Call, user, supervisor, supervise, step}
use Rattle.store_laws.proofs.Zeroed.{length-zeroed}
use Rattle.store_laws.proofs.Steps.{written-records, written-cache, length-written}
use Rattle.store_laws.proofs.Sweeps.{swept-cache}

-- a store with lists as long as another's
pub record SameSizes (x y : Store) : Type 0 where
  pub records : length y.records ≡ length x.records
  pub cache : length y.cache ≡ length x.cache
  pub memory : length y.memory ≡ length x.memory

sizes-refl : (x : Store) → SameSizes x x
sizes-refl x = record { records = refl; cache = refl; memory = refl }

sizes-trans : (x y z : Store) → SameSizes x y → SameSizes y z → SameSizes x z
sizes-trans x y z p q = record { records = q.records ∙ p.records; cache = q.cache ∙ p.cache; memory = q.memory ∙ p.memory }

module _ (s : Shape) where
  sizes-written : (i : ℕ) (x : Store) → SameSizes x (written_back s i x)
  sizes-written i x = record {
    records = ap length (written-records s i x);
    cache = ap length (written-cache s i x);
    memory = length-written s i x;
  }

  sizes-filled : (i line : ℕ) (x : Store) → SameSizes x (filled i line x)
  unfolding filled
  sizes-filled i line x = record { records = refl; cache = length-line _ _ _; memory = refl }

  sizes-noted : (i : ℕ) (l : Line) (x : Store) → SameSizes x (noted i l x)
  unfolding noted
  sizes-noted i l x = record { records = length-put _ _ _; cache = refl; memory = refl }

  pub sizes-inserted : (i name line : ℕ) (write : Bool) (x : Store) → SameSizes x (inserted s i name line write x)
  unfolding inserted
  sizes-inserted i name line write x =
      sizes-trans x (written_back s i x) _ (sizes-written i x)
      (sizes-trans (written_back s i x) (filled i line (written_back s i x)) _ (sizes-filled i line _) (sizes-noted i _ _))

  sizes-visited : (v : Visit) (x : Store) → SameSizes x (visited_all s v x)
  sizes-visited v x =
      let a = swept-cache s v x in
      record { records = a.records_length; cache = ap length a.cache_same; memory = a.memory_length }

  sizes-loaded : (to name line : ℕ) (write : Bool) (x : Store) (found : Option ℕ) → SameSizes x (loaded_by s to name line write x found)
  unfolding loaded_by
  sizes-loaded to name line write x (Some i) = sizes-refl x
  sizes-loaded to name line write x None = sizes-inserted to name line write x

  sizes-zeroed : (frame : ℕ) (x y : Store) → SameSizes x y → SameSizes x (zeroed_store frame y)
  sizes-zeroed frame x y z = record { records = z.records; cache = z.cache; memory = length-zeroed y.memory frame ∙ z.memory }

  sizes-performed : (a : Access) (i offset mark : ℕ) (y : Store) → SameSizes y (performed_on i offset a mark y).after
  unfolding performed_on performed_at
  sizes-performed a i offset mark y =
      cond_both (λ (p : Performed). SameSizes y (record { records = p.records; cache = p.cache; memory = y.memory })) a.store _ _
      (record { records = length-put _ _ _; cache = length-stored _ _ _ _; memory = refl }) (sizes-refl y)

  module _ (a : Access) (x : Store) where
    sizes-accessed : (to name offset : ℕ) (way : Option Way) → SameSizes x (accessed_by s to name offset a x way).after
    unfolding accessed_by
    sizes-accessed to name offset (Some (Held i write)) = sizes-performed a i offset _ x
    sizes-accessed to name offset (Some (InMemory line write)) =
        sizes-trans x (inserted s to name line write x) _ (sizes-inserted to name line write x) (sizes-performed a to offset _ _)
    sizes-accessed to name offset None = sizes-refl x

    sizes-memory : (p : Physical) → SameSizes x (memory_access p a x).after
    unfolding memory_access
    sizes-memory p = cond_both (λ (r : Reached). SameSizes x r.after) a.store _ _ (record { records = refl; cache = refl; memory = length-stored _ _ _ _ }) (sizes-refl x)

  -- a use keeps the number of matrices
  length-used : (uses : Uses) (i : ℕ) → length (used_in s uses i) ≡ length uses
  unfolding used_in
  length-used uses i = cond_both (λ (u : Uses). length u ≡ length uses) (eqb s.ways set_lines) _ _ (length-set uses _ _) refl

  length-accessed : (to : ℕ) (uses : Uses) (way : Option Way) → length (uses_by s to uses way) ≡ length uses
  unfolding uses_by
  length-accessed to uses (Some (Held i write)) = length-used uses i
  length-accessed to uses (Some (InMemory line write)) = length-used uses to
  length-accessed to uses None = refl

  length-loaded : (to : ℕ) (uses : Uses) (found : Option ℕ) → length (loaded_uses s to uses found) ≡ length uses
  unfolding loaded_uses
  length-loaded to uses (Some i) = refl
  length-loaded to uses None = length-used uses to

-- a board with lists as long as another's
pub record SameLengths (b c : Board) : Type 0 where
  slots : length c.slots ≡ length b.slots
  words : length c.words ≡ length b.words
  store : SameSizes b.store c.store
  pub uses : length c.uses ≡ length b.uses

lengths-refl : (b : Board) → SameLengths b b
lengths-refl b = record { slots = refl; words = refl; store = sizes-refl b.store; uses = refl }

pub lengths-fit : (s : Shape) (b c : Board) → SameLengths b c → fits_board s c ≡ fits_board s b
lengths-fit s b c l = rw (l.slots, l.words, l.store.records, l.store.cache, l.store.memory, l.uses)

-- what an access and load-and-map leave has the lengths of the board
module _ (s : Shape) (b : Board) where
  lengths-use : (x : Store) (uses : Uses) → SameSizes b.store x → length uses ≡ length b.uses → SameLengths b (with_use b x uses)
  lengths-use x uses z u = record { slots = refl; words = refl; store = z; uses = u }

  pub lengths-accessed : (a : Access) (g : Global) → SameLengths b (on_board b (accessed s b.words g a b.store b.uses)).after
  unfolding accessed
  lengths-accessed a g = lengths-use _ _ (sizes-accessed s a b.store _ _ _ _) (length-accessed s _ _ _)

  pub lengths-supervisor : (a : Access) (g : Global) (r : Region) → SameLengths b (on_board b (supervisor_done s b.words a g b.store b.uses r)).after
  unfolding supervisor_done
  lengths-supervisor a g Uncached = lengths-use _ _ (sizes-memory s a b.store _) refl
  lengths-supervisor a g Cached = lengths-accessed a g
  lengths-supervisor a g PageTable = lengths-refl b
  lengths-supervisor a g Ordinary = lengths-accessed a g

  pub lengths-loaded : (name line : ℕ) (write : Bool) → SameLengths b (on_loaded b (loaded s name line write b.store b.uses))
  unfolding loaded
  lengths-loaded name line write = lengths-use _ _ (sizes-loaded s _ name line write b.store _) (length-loaded s _ _ _)

-- what a table gives has the lengths of the board if what is done has
module _ (s : Shape) (b : Board) where
  lengths-table : (rows : List Row) (d : Outcome) → SameLengths b d.after → SameLengths b (by_table (refused b) rows d).after
  lengths-table rows d l = table-cases (λ (o : Outcome). SameLengths b o.after) (refused b) (λ n. lengths-refl b) rows d (λ _. l)

  lengths-slots : (i v : ℕ) → SameLengths b (with_slots b (set b.slots i v))
  lengths-slots i v = record { slots = length-set b.slots i v; words = refl; store = sizes-refl b.store; uses = refl }

  lengths-words : (i v : ℕ) (x : Store) → SameSizes b.store x → SameLengths b (with_pages b (record { words = set b.words i v; store = x }))
  lengths-words i v x z = record { slots = refl; words = length-set b.words i v; store = z; uses = refl }

  lengths-tag : (c : Board) (t : Pending) → SameLengths b c → SameLengths b (with_tag c t)
  lengths-tag c t l = record { slots = l.slots; words = l.words; store = l.store; uses = l.uses }

  lengths-supervise : (c : Supervisor) → SameLengths b (supervise s b c).after
  unfolding supervise supervisor_access board.attach board.detach board.map_page board.unmap board.protect board.move_page board.flush_all board.tag board.load_and_map board.drop_tag mapped unmapped protected moved
  lengths-supervise (access a g) = lengths-table _ _ (lengths-supervisor s b a g _)
  lengths-supervise (attach process slot segment write) = lengths-table _ _ (lengths-slots _ _)
  lengths-supervise (detach process slot) = lengths-table _ _ (lengths-slots _ _)
  lengths-supervise (map page frame write) =
      lengths-table _ _ (lengths-words frame _ _ (sizes-zeroed s frame b.store _ (sizes-visited s (map_visit page frame) b.store)))
  lengths-supervise (unmap page) = lengths-table _ _ (lengths-words _ _ _ (sizes-visited s (unmap_visit page) b.store))
  lengths-supervise (protect page write) = lengths-table _ _ (lengths-words _ _ _ (sizes-visited s (protect_visit page write) b.store))
  lengths-supervise (move page new) = lengths-table _ _ (lengths-words _ _ _ (sizes-visited s (move_visit page new) b.store))
  lengths-supervise flush_all = lengths-table _ _ (lengths-use s b _ _ (sizes-visited s flush_visit b.store) refl)
  lengths-supervise (tag name) = lengths-table _ _ (lengths-tag b (tagged name) (lengths-refl b))
  lengths-supervise (load_and_map line) = lengths-table _ _ (lengths-tag _ no_tag (lengths-loaded s b _ line _))
  lengths-supervise drop_tag = lengths-table _ _ (lengths-tag b no_tag (lengths-refl b))

  lengths-step : (k : Call) → SameLengths b (step s b k).after
  unfolding step user_access
  lengths-step (user process a e) = lengths-table _ _ (lengths-accessed s b a _)
  lengths-step (supervisor c) = lengths-supervise c

-- whatever numbers t are asked for, and whatever numbers s the call brings
pub fits-same : (t s : Shape) (b : Board) (k : Call) → fits_board t (step s b k).after ≡ fits_board t b
fits-same t s b k = lengths-fit t b (step s b k).after (lengths-step s b k)
