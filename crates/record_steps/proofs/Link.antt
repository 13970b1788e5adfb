-- The record words, read as lines, become what the list of lines becomes: record by record, and then by the sweep.
use Prim.Native.Nat.{ℕ, zero, suc, ◌+◌, ◌*◌, ◌≤◌, ◌<◌}
use mathlib.Core.Path.{◌≡◌, refl, sym, ◌∙◌, ap}
use mathlib.Core.Bool.{Bool, true, false, not, ◌&&◌, cond}
use mathlib.Core.List.{List, [], ◌∷◌}
use native.Mathlib.Omega.{arith}
use lib.ListN.{length}
use borrow.Author.Tests.{not-false}
use Rattle.board.specs.Shapes.{fits_shape, record_words}
use Rattle.board.specs.declared.Shape.{Shape}
use Rattle.line_bytes.specs.Bytes.{line_of, with_line}
use Rattle.lines.specs.Records.{line_at, put_line, no_line, permitted_line}
use Rattle.stores.specs.Stores.{Store, store, written_back, noted, dropped}
use Rattle.lines.specs.Holds.{holds_line, holds_at}
use Rattle.ranges.specs.Ranges.{named}
use Rattle.visits.specs.Visits.{protect_visit, flush_visit, selects, treated, visited, sweep, visited_all}
use Rattle.lines.specs.declared.Line.{Line}
use Rattle.visits.specs.declared.Deed.{Deed}
use Rattle.visits.specs.declared.Deed.TheVariants.{Drop, Retire, Permit}
use Rattle.visits.specs.declared.Visit.{Visit}
use Rattle.lines.proofs.Records.{length-put, line-put-same, line-put-other}
use Rattle.board.proofs.Shapes.{shaped}
use Rattle.machine.specs.Boards.{Board, fits_board, Outcome, refused}
use Rattle.machine.specs.Refusals.{Row, row, row1, by_table}
use Rattle.machine.specs.Calls.{page_rows, protected, protect, flush_all}
use Rattle.machine.proofs.Tables.{table-map, table-both}
use Rattle.record_steps.specs.Lent.{treated_line, line_visited, lines_visited, line_flushed, flushed_memory, LentOutcome, lent_refused, lent_row1, protect_lent, flush_lent}
use Rattle.record_steps.specs.Link.{lines_from, lines_at, lent_of, read_lent, Link}

module _ (s : Shape) where
  -- ---- one record

  written-records : (i : ℕ) (x : Store) → (written_back s i x).records ≡ x.records
  unfolding written_back
  written-records i x = go (holds_at s x.records i && (line_at x.records i).changed) _
    where
      go : (t : Bool) (m : List ℕ) → (cond t (store x.records x.cache m) x).records ≡ x.records
      go true m = refl
      go false m = refl

  written-cache : (i : ℕ) (x : Store) → (written_back s i x).cache ≡ x.cache
  unfolding written_back
  written-cache i x = go (holds_at s x.records i && (line_at x.records i).changed) _
    where
      go : (t : Bool) (m : List ℕ) → (cond t (store x.records x.cache m) x).cache ≡ x.cache
      go true m = refl
      go false m = refl

  treated-records : (d : Deed) (i : ℕ) (x : Store) → (treated s d i x).records ≡ put_line x.records i (treated_line d (line_at x.records i))
  unfolding treated dropped noted treated_line
  treated-records Drop i x = refl
  treated-records Retire i x = ap (λ (r : List ℕ). put_line r i no_line) (written-records i x)
  treated-records (Permit write) i x = refl

  treated-cache : (d : Deed) (i : ℕ) (x : Store) → (treated s d i x).cache ≡ x.cache
  unfolding treated dropped noted
  treated-cache Drop i x = refl
  treated-cache Retire i x = written-cache i x
  treated-cache (Permit write) i x = refl

  module _ (v : Visit) (i : ℕ) (x : Store) where
    abbrev test : Bool
    test = holds_line s i (line_at x.records i) && selects v (line_at x.records i)

    visited-here : 2 * i + 2 ≤ length x.records → line_at (visited s v i x).records i ≡ line_visited s v i (line_at x.records i)
    unfolding visited line_visited holds_at
    visited-here b = go test
      where
        go : (t : Bool) → line_at (cond t (treated s v.deed i x) x).records i ≡ cond t (treated_line v.deed (line_at x.records i)) (line_at x.records i)
        go true = ap (λ (r : List ℕ). line_at r i) (treated-records v.deed i x) ∙ line-put-same x.records i (treated_line v.deed (line_at x.records i)) b
        go false = refl

    visited-other : (j : ℕ) → (i ≡ j → ⊥) → line_at (visited s v i x).records j ≡ line_at x.records j
    unfolding visited holds_at
    visited-other j n = go test
      where
        go : (t : Bool) → line_at (cond t (treated s v.deed i x) x).records j ≡ line_at x.records j
        go true = ap (λ (r : List ℕ). line_at r j) (treated-records v.deed i x) ∙ line-put-other x.records i (treated_line v.deed (line_at x.records i)) j n
        go false = refl

    visited-length : length (visited s v i x).records ≡ length x.records
    unfolding visited holds_at
    visited-length = go test
      where
        go : (t : Bool) → length (cond t (treated s v.deed i x) x).records ≡ length x.records
        go true = ap length (treated-records v.deed i x) ∙ length-put x.records i (treated_line v.deed (line_at x.records i))
        go false = refl

    visited-cache : (visited s v i x).cache ≡ x.cache
    unfolding visited holds_at
    visited-cache = go test
      where
        go : (t : Bool) → (cond t (treated s v.deed i x) x).cache ≡ x.cache
        go true = treated-cache v.deed i x
        go false = refl

    -- the lines past a record are as they were
    visited-past : (j n : ℕ) → i < j → lines_from (visited s v i x).records j n ≡ lines_from x.records j n
    unfolding lines_from
    visited-past j zero h = refl
    visited-past j (suc n) h =
        ap (λ (l : Line). l ∷ lines_from (visited s v i x).records (suc j) n) (visited-other j (λ e. omega (arith, e)))
        ∙ ap (λ (ls : List Line). line_at x.records j ∷ ls) (visited-past (suc j) n (omega arith))

  flush-step : (i : ℕ) (x : Store) → (visited s flush_visit i x).memory ≡ line_flushed s i (line_at x.records i) x.cache x.memory
  unfolding visited treated dropped noted written_back line_flushed named holds_at
  flush-step i x = go (holds_line s i (line_at x.records i)) (line_at x.records i).changed (with_line x.memory (line_at x.records i).physical (line_of x.cache i))
    where
      go : (t c : Bool) (m : List ℕ) → (cond (t && true) (noted i no_line (cond (t && c) (store x.records x.cache m) x)) x).memory ≡ cond (t && c) m x.memory
      go true true m = refl
      go true false m = refl
      go false c m = refl

  protect-step : (page : ℕ) (write : Bool) (i : ℕ) (x : Store) → (visited s (protect_visit page write) i x).memory ≡ x.memory
  unfolding visited treated noted holds_at
  protect-step page write i x = go (holds_line s i (line_at x.records i) && selects (protect_visit page write) (line_at x.records i))
    where
      go : (t : Bool) → (cond t (noted i (permitted_line (line_at x.records i) write) x) x).memory ≡ x.memory
      go true = refl
      go false = refl

  -- ---- all records

  module _ (v : Visit) where
    sweep-below : (n i j : ℕ) (x : Store) → j < i → line_at (sweep (visited s v) n i x).records j ≡ line_at x.records j
    unfolding sweep
    sweep-below zero i j x h = refl
    sweep-below (suc n) i j x h = sweep-below n (suc i) j (visited s v i x) (omega arith) ∙ visited-other v i x j (λ e. omega (arith, e))

    sweep-lines : (n i : ℕ) (x : Store) → 2 * (i + n) ≤ length x.records
        → lines_from (sweep (visited s v) n i x).records i n ≡ lines_visited s v i (lines_from x.records i n)
    unfolding sweep lines_from lines_visited
    sweep-lines zero i x h = refl
    sweep-lines (suc n) i x h =
        ap (λ (l : Line). l ∷ lines_from (sweep (visited s v) n (suc i) (visited s v i x)).records (suc i) n)
        (sweep-below n (suc i) i (visited s v i x) (omega arith) ∙ visited-here v i x (omega (arith, h)))
        ∙ ap (λ (ls : List Line). line_visited s v i (line_at x.records i) ∷ ls)
        (sweep-lines n (suc i) (visited s v i x) (omega (arith, h, visited-length v i x))
        ∙ ap (lines_visited s v (suc i)) (visited-past v i x (suc i) n (omega arith)))

  sweep-flush : (n i : ℕ) (x : Store) → (sweep (visited s flush_visit) n i x).memory ≡ flushed_memory s i (lines_from x.records i n) x.cache x.memory
  unfolding sweep lines_from flushed_memory
  sweep-flush zero i x = refl
  sweep-flush (suc n) i x =
      sweep-flush n (suc i) (visited s flush_visit i x)
      ∙ ap (λ (ls : List Line). flushed_memory s (suc i) ls (visited s flush_visit i x).cache (visited s flush_visit i x).memory) (visited-past flush_visit i x (suc i) n (omega arith))
      ∙ ap (λ (c : List ℕ). flushed_memory s (suc i) (lines_from x.records (suc i) n) c (visited s flush_visit i x).memory) (visited-cache flush_visit i x)
      ∙ ap (flushed_memory s (suc i) (lines_from x.records (suc i) n) x.cache) (flush-step i x)

  sweep-protect : (page : ℕ) (write : Bool) (n i : ℕ) (x : Store) → (sweep (visited s (protect_visit page write)) n i x).memory ≡ x.memory
  unfolding sweep
  sweep-protect page write zero i x = refl
  sweep-protect page write (suc n) i x = sweep-protect page write n (suc i) (visited s (protect_visit page write) i x) ∙ protect-step page write i x

  sweep-cache : (v : Visit) (n i : ℕ) (x : Store) → (sweep (visited s v) n i x).cache ≡ x.cache
  unfolding sweep
  sweep-cache v zero i x = refl
  sweep-cache v (suc n) i x = sweep-cache v n (suc i) (visited s v i x) ∙ visited-cache v i x

pub length-lines : (records : List ℕ) (i n : ℕ) → length (lines_from records i n) ≡ n
unfolding lines_from
length-lines records i zero = refl
length-lines records i (suc n) = ap suc (length-lines records (suc i) n)

-- ---- the calls: two tables of the same rows, of which the first asks that the board fits

module _ (s : Shape) (b : Board) (n : ℕ) (u : b.uses ≡ []) (h : length b.store.records ≡ record_words * n) where
  records_are : record_words * length (lines_at b.store.records n) ≡ length b.store.records
  records_are = omega (arith, h, length-lines b.store.records 0 n)

  -- an accepted board has L records
  lines_are : fits_board s b ≡ true → n ≡ s.lines
  lines_are f = omega (arith, h, (shaped s (length b.slots) (length b.words) (length b.store.records) (length b.store.cache) (length b.store.memory) (length b.uses) true (sym f) refl).records_are)

  -- number 1 asks the same of both
  fits-same : fits_shape s (length b.slots) (length b.words) (record_words * length (lines_at b.store.records n)) (length b.store.cache) (length b.store.memory) 0 ≡ fits_board s b
  fits-same =
      rw records_are (ap (fits_shape s (length b.slots) (length b.words) (length b.store.records) (length b.store.cache) (length b.store.memory)) (sym (ap length u)))

  -- what stands where no row applies must be the same on an accepted board only
  by_rows : (rows : List Row) (x : LentOutcome) (y : Outcome) → (fits_board s b ≡ true → x ≡ read_lent n y)
      → by_table (lent_refused (lent_of n b)) (lent_row1 s (length b.slots) (length b.words) (length (lines_at b.store.records n)) (length b.store.cache) (length b.store.memory) ∷ rows) x
      ≡ read_lent n (by_table (refused b) (row1 s b ∷ rows) y)
  by_rows rows x y same =
      rw fits-same (go (fits_board s b) same) ∙ sym (table-map (read_lent n) (refused b) (row1 s b ∷ rows) y)
    where
      go : (t : Bool) → (t ≡ true → x ≡ read_lent n y) → by_table (lent_refused (lent_of n b)) (row 1 (not t) ∷ rows) x ≡ by_table (lent_refused (lent_of n b)) (row 1 (not t) ∷ rows) (read_lent n y)
      go t e = table-both ◌≡◌ (lent_refused (lent_of n b)) (lent_refused (lent_of n b)) (λ k. refl) (row 1 (not t) ∷ rows) x (read_lent n y) (λ q. e (not-false t (q 0)))

  module _ (f : fits_board s b ≡ true) where
    -- the lines that all records say, after a visit
    visited-lines : (v : Visit) → lines_visited s v 0 (lines_at b.store.records n) ≡ lines_at (visited_all s v b.store).records n
    unfolding visited_all
    visited-lines v = rw (lines_are f) (sym (sweep-lines s v s.lines 0 b.store (omega (arith, h, lines_are f))))

    flushed-memory : flushed_memory s 0 (lines_at b.store.records n) b.store.cache b.store.memory ≡ (visited_all s flush_visit b.store).memory
    unfolding visited_all
    flushed-memory = rw (lines_are f) (sym (sweep-flush s s.lines 0 b.store))

    kept-cache : (v : Visit) → (visited_all s v b.store).cache ≡ b.store.cache
    unfolding visited_all
    kept-cache v = sweep-cache s v s.lines 0 b.store

    kept_memory : (page : ℕ) (write : Bool) → (visited_all s (protect_visit page write) b.store).memory ≡ b.store.memory
    unfolding visited_all
    kept_memory page write = sweep-protect s page write s.lines 0 b.store

  protect-link : (page : ℕ) (write : Bool) → protect_lent s (lent_of n b) page write ≡ read_lent n (protect s b page write)
  unfolding protect_lent protect protected
  protect-link page write = by_rows (page_rows s b.words page) _ _ (λ f. rw (visited-lines f (protect_visit page write), kept-cache f (protect_visit page write), kept_memory f page write))

  flush-link : flush_lent s (lent_of n b) ≡ read_lent n (flush_all s b)
  unfolding flush_lent flush_all
  flush-link = by_rows [] _ _ (λ f. rw (visited-lines f flush_visit, flushed-memory f, kept-cache f flush_visit))

pub link : Link
link = record {
  protect = λ s b n page write u h. protect-link s b n u h page write;
  flush_all = λ s b n u h. flush-link s b n u h;
}
