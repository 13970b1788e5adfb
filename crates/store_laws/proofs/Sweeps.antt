-- Visits of every record: what each record becomes, what stays, and that the store still stands for the flat memory.
-- Stands on the record laws of `lines` and, for lines written back and dropped, on Steps.
use Rattle.std.specs.Prelude.{Option, Some}
use Prim.Native.Nat.{ℕ, zero, suc, ◌+◌, ◌*◌, ◌≤◌, ◌<◌}
use mathlib.Core.Logic.{◌≢◌}
use mathlib.Core.Path.{◌≡◌, refl, sym, ap, ◌∙◌}
use mathlib.Core.Bool.{Bool, true, false, ◌&&◌, cond}
use mathlib.Core.List.{List}
use native.Mathlib.Omega.{arith}
use lib.Dec.{eqb}
use lib.ListN.{length}
use borrow.Author.Tests.{eqb-true, eqb-false}
use Rattle.address.specs.Layout.{page_lines}
use Rattle.board.specs.Homes.{at_line}
use Rattle.board.specs.declared.Shape.{Shape}
use Rattle.board.specs.declared.Home.{Home}
use Rattle.line_bytes.specs.Bytes.{line_of}
use Rattle.lines.specs.Records.{line_at, put_line, no_line, permitted_line}
use Rattle.stores.specs.Stores.{Store, written_back, noted, dropped}
use Rattle.lines.specs.Holds.{holds_line, holds_at}
use Rattle.ranges.specs.Ranges.{named}
use Rattle.ranges.specs.declared.Names.{Names}
use Rattle.visits.specs.Visits.{visit, selects, treated, visited, sweep, visited_all}
use Rattle.lines.specs.declared.Line.{Line}
use Rattle.visits.specs.declared.Deed.{Deed}
use Rattle.visits.specs.declared.Deed.TheVariants.{Drop, Retire, Permit}
use Rattle.visits.specs.declared.Visit.{Visit}
use Rattle.lines.proofs.Records.{length-put, line-put-same, line-put-other}
use Rattle.store_laws.proofs.Sim.{byte, Sim}
use Rattle.store_laws.proofs.Bytes.{line-with-other}
use Rattle.store_laws.proofs.Steps.{written-cache, length-written, evict-records, sim-evict}

-- ---- what a visit makes of a record

-- a line that a visit is for
unfoldable pub fate_of : Deed → Line → Line
fate_of Drop l = no_line
fate_of Retire l = no_line
fate_of (Permit write) l = permitted_line l write

-- record j, which was l
unfoldable pub fate : Shape → Visit → ℕ → Line → Line
fate s v j l = cond (holds_line s j l && selects v l) (fate_of v.deed l) l

-- y is x with l as record i, the same cache bytes and as much memory
record Step (i : ℕ) (l : Line) (x y : Store) : Type 0 where
  records_are : y.records ≡ put_line x.records i l
  cache_same : y.cache ≡ x.cache
  memory_length : length y.memory ≡ length x.memory

-- y has x's cache bytes, and as many records and as much memory
pub record SameCache (x y : Store) : Type 0 where
  pub records_length : length y.records ≡ length x.records
  pub cache_same : y.cache ≡ x.cache
  pub memory_length : length y.memory ≡ length x.memory

module _ (s : Shape) where
  written-retired : (i : ℕ) (x : Store) → Step i no_line x (dropped i (written_back s i x))
  unfolding dropped noted
  written-retired i x = record { records_are = evict-records s i x; cache_same = written-cache s i x; memory_length = length-written s i x }

  treated-step : (d : Deed) (i : ℕ) (x : Store) → Step i (fate_of d (line_at x.records i)) x (treated s d i x)
  unfolding treated dropped noted fate_of
  treated-step Drop i x = record { records_are = refl; cache_same = refl; memory_length = refl }
  treated-step Retire i x = written-retired i x
  treated-step (Permit write) i x = record { records_are = refl; cache_same = refl; memory_length = refl }

  module _ (v : Visit) where
    visited-here : (i : ℕ) (x : Store) → 2 * i + 2 ≤ length x.records → line_at (visited s v i x).records i ≡ fate s v i (line_at x.records i)
    unfolding visited fate holds_at
    visited-here i x b = go (holds_line s i (line_at x.records i) && selects v (line_at x.records i))
      where
        go : (t : Bool) → line_at (cond t (treated s v.deed i x) x).records i ≡ cond t (fate_of v.deed (line_at x.records i)) (line_at x.records i)
        go true = rw (treated-step v.deed i x).records_are (line-put-same x.records i (fate_of v.deed (line_at x.records i)) b)
        go false = refl

    visited-other : (i j : ℕ) (x : Store) → i ≢ j → line_at (visited s v i x).records j ≡ line_at x.records j
    unfolding visited
    visited-other i j x n = go (holds_at s x.records i && selects v (line_at x.records i))
      where
        go : (t : Bool) → line_at (cond t (treated s v.deed i x) x).records j ≡ line_at x.records j
        go true = rw (treated-step v.deed i x).records_are (line-put-other x.records i (fate_of v.deed (line_at x.records i)) j n)
        go false = refl

    visited-cache : (i : ℕ) (x : Store) → SameCache x (visited s v i x)
    unfolding visited
    visited-cache i x = go (holds_at s x.records i && selects v (line_at x.records i))
      where
        go : (t : Bool) → SameCache x (cond t (treated s v.deed i x) x)
        go true =
            let r = treated-step v.deed i x in
            record {
              records_length = rw r.records_are (length-put x.records i (fate_of v.deed (line_at x.records i)));
              cache_same = r.cache_same;
              memory_length = r.memory_length;
            }
        go false = record { records_length = refl; cache_same = refl; memory_length = refl }

-- ---- what all the visits make of the records

-- what every visit keeps, a sweep keeps
pub sweep-keeps : (f : ℕ → Store → Store) (P : Store → Type 0) → ((i : ℕ) (x : Store) → P x → P (f i x)) → (n i : ℕ) (x : Store) → P x → P (sweep f n i x)
unfolding sweep
sweep-keeps f P h zero i x p = p
sweep-keeps f P h (suc n) i x p = sweep-keeps f P h n (suc i) (f i x) (h i x p)

module _ (s : Shape) (v : Visit) where
  sweep-below : (n i j : ℕ) (x : Store) → j < i → line_at (sweep (visited s v) n i x).records j ≡ line_at x.records j
  unfolding sweep
  sweep-below zero i j x h = refl
  sweep-below (suc n) i j x h = sweep-below n (suc i) j (visited s v i x) (omega arith) ∙ visited-other s v i j x (omega arith)

  sweep-line : (n i j : ℕ) (x : Store) → i ≤ j → j < i + n → 2 * (i + n) ≤ length x.records
      → line_at (sweep (visited s v) n i x).records j ≡ fate s v j (line_at x.records j)
  unfolding sweep
  sweep-line zero i j x a b l = absurd (omega arith)
  sweep-line (suc n) i j x a b l = go (eqb i j) refl (sweep-line n (suc i) j (visited s v i x))
    where
      go : (t : Bool) → eqb i j ≡ t
          → (suc i ≤ j → j < suc i + n → 2 * (suc i + n) ≤ length (visited s v i x).records
          → line_at (sweep (visited s v) n (suc i) (visited s v i x)).records j ≡ fate s v j (line_at (visited s v i x).records j))
          → line_at (sweep (visited s v) n (suc i) (visited s v i x)).records j ≡ fate s v j (line_at x.records j)
      go true t later =
          let q : i ≡ j = eqb-true i j t in
          sweep-below n (suc i) j (visited s v i x) (omega arith) ∙ rw (← q) (visited-here s v i x (omega arith))
      go false t later =
          let q = eqb-false i j t in
          later (omega arith) (omega arith) (omega (arith, (visited-cache s v i x).records_length))
          ∙ rw (visited-other s v i j x q)

  module _ (x : Store) where
    pub swept-cache : SameCache x (visited_all s v x)
    unfolding visited_all
    swept-cache =
        sweep-keeps (visited s v) (λ (y : Store). SameCache x y)
        (λ i y a. let b = visited-cache s v i y in
        record {
          records_length = b.records_length ∙ a.records_length;
          cache_same = b.cache_same ∙ a.cache_same;
          memory_length = b.memory_length ∙ a.memory_length;
        })
        s.lines 0 x (record { records_length = refl; cache_same = refl; memory_length = refl })

    pub swept-line : (j : ℕ) → length x.records ≡ 2 * s.lines → j < s.lines
        → line_at (visited_all s v x).records j ≡ fate s v j (line_at x.records j)
    unfolding visited_all
    swept-line j z h = sweep-line s.lines 0 j x (omega arith) (omega arith) (omega arith)

    -- a visit that never writes back
    swept-memory : ((i : ℕ) (y : Store) → (treated s v.deed i y).memory ≡ y.memory) → (visited_all s v x).memory ≡ x.memory
    unfolding visited_all visited
    swept-memory keeps =
        sweep-keeps (visited s v) (λ (y : Store). y.memory ≡ x.memory)
        (λ i y a. one i y (holds_at s y.records i && selects v (line_at y.records i)) ∙ a)
        s.lines 0 x refl
      where
        one : (i : ℕ) (y : Store) (t : Bool) → (cond t (treated s v.deed i y) y).memory ≡ y.memory
        one i y true = keeps i y
        one i y false = refl

module _ (s : Shape) (x : Store) (names : Names) where
  pub swept-memory-drop : (visited_all s (visit Drop names) x).memory ≡ x.memory
  unfolding treated dropped noted
  swept-memory-drop = swept-memory s (visit Drop names) x (λ i y. refl)

  pub swept-memory-permit : (write : Bool) → (visited_all s (visit (Permit write) names) x).memory ≡ x.memory
  unfolding treated noted
  swept-memory-permit write = swept-memory s (visit (Permit write) names) x (λ i y. refl)

-- a visit that writes back leaves the bytes of a physical line that no changed line it is for has
module _ (s : Shape) (names : Names) (p : ℕ) where
  -- record i has no line to be written there
  abbrev pub Elsewhere : Store → ℕ → Type 0
  Elsewhere x i =
      holds_at s x.records i ≡ true → named names (line_at x.records i).name ≡ true → (line_at x.records i).changed ≡ true
      → (line_at x.records i).physical ≢ p

  retired-elsewhere : (i : ℕ) (x : Store) → Elsewhere x i → line_of (visited s (visit Retire names) i x).memory p ≡ line_of x.memory p
  unfolding visited treated dropped noted written_back
  retired-elsewhere i x h = go (holds_at s x.records i) (named names (line_at x.records i).name) (line_at x.records i).changed refl refl refl
    where
      go : (t u c : Bool) → holds_at s x.records i ≡ t → named names (line_at x.records i).name ≡ u → (line_at x.records i).changed ≡ c
          → line_of (visited s (visit Retire names) i x).memory p ≡ line_of x.memory p
      go true true true t u c = rw (t, u, c) (line-with-other x.memory x.cache (line_at x.records i).physical i p (λ q. h t u c (sym q)))
      go true true false t u c = rw (t, u, c)
      go true false c t u _ = rw (t, u)
      go false u c t _ _ = rw t

  sweep-elsewhere : (n i : ℕ) (x : Store) → ((j : ℕ) → i ≤ j → j < i + n → Elsewhere x j)
      → line_of (sweep (visited s (visit Retire names)) n i x).memory p ≡ line_of x.memory p
  unfolding sweep holds_at
  sweep-elsewhere zero i x h = refl
  sweep-elsewhere (suc n) i x h =
      sweep-elsewhere n (suc i) (visited s (visit Retire names) i x)
      (λ j a b. rw (visited-other s (visit Retire names) i j x (omega arith)) (h j (omega arith) (omega arith)))
      ∙ retired-elsewhere i x (h i (omega arith) (omega arith))

  pub swept-elsewhere : (x : Store) → ((j : ℕ) → j < s.lines → Elsewhere x j) → line_of (visited_all s (visit Retire names) x).memory p ≡ line_of x.memory p
  unfolding visited_all
  swept-elsewhere x h = sweep-elsewhere s.lines 0 x (λ j a b. h j (omega arith))

-- ---- lines kept, dropped or relabelled, with the map and the bytes of memory changed around them

-- record j of y holds a line that x held there, with the same physical line and mark, at its home in the new map
pub record Kept (s : Shape) (home' : ℕ → Option Home) (x y : Store) (j : ℕ) : Type 0 where
  pub was : holds_at s x.records j ≡ true
  pub physical_is : (line_at y.records j).physical ≡ (line_at x.records j).physical
  pub changed_is : (line_at y.records j).changed ≡ (line_at x.records j).changed
  pub maps : home' (line_at y.records j).name ≡ Some (at_line (line_at y.records j).physical (line_at y.records j).write)

module _ (s : Shape) (home home' : ℕ → Option Home) (x y : Store) (m m' : List ℕ) (sim : Sim s home x m)
    (alike : SameCache x y) (flat-length : length m' ≡ length m)
    (kept : (j : ℕ) → holds_at s y.records j ≡ true → Kept s home' x y j)
    (in_memory : (j k : ℕ) → holds_at s y.records j ≡ true → k < 16
    → byte y.memory (line_at y.records j).physical k ≡ byte x.memory (line_at y.records j).physical k)
    (in_flat : (j k : ℕ) → holds_at s y.records j ≡ true → k < 16
    → byte m' (line_at y.records j).physical k ≡ byte m (line_at y.records j).physical k)
    (bare : (p k : ℕ) → ((j : ℕ) → holds_at s y.records j ≡ true → (line_at y.records j).physical ≡ p → ⊥) → p < page_lines * s.frames → k < 16
    → byte m' p k ≡ byte y.memory p k) where
  clean : (j k : ℕ) → holds_at s y.records j ≡ true → (line_at y.records j).changed ≡ false → k < 16
      → byte y.cache j k ≡ byte y.memory (line_at y.records j).physical k
  clean j k a d b =
      let f = kept j a in
      let z = sim.clean j k f.was (sym f.changed_is ∙ d) b in
      rw alike.cache_same (z ∙ rw (← f.physical_is) (sym (in_memory j k a b)))

  cached : (j k : ℕ) → holds_at s y.records j ≡ true → k < 16 → byte m' (line_at y.records j).physical k ≡ byte y.cache j k
  cached j k a b =
      let f = kept j a in
      rw alike.cache_same (in_flat j k a b ∙ rw f.physical_is (sim.cached j k f.was b))

  pub kept-sim : Sim s home' y m'
  kept-sim = record {
    ways_pos = sim.ways_pos;
    sets_pos = sim.sets_pos;
    record_count = alike.records_length ∙ sim.record_count;
    cache_count = ap length alike.cache_same ∙ sim.cache_count;
    memory_count = alike.memory_length ∙ sim.memory_count;
    flat_count = flat-length ∙ sim.flat_count;
    once = λ i j a b q. let f = kept i a in let g = kept j b in sim.once i j f.was g.was (sym f.physical_is ∙ q ∙ g.physical_is);
    maps = λ j a. (kept j a).maps;
    clean = clean;
    cached = cached;
    bare = bare;
  }

-- ---- lines written back and dropped

-- a visit that writes back and drops, to every record it is for
module _ (s : Shape) (home : ℕ → Option Home) (m : List ℕ) where
  pub sim-retired : (names : Names) (x : Store) → Sim s home x m → Sim s home (visited_all s (visit Retire names) x) m
  unfolding visited_all visited treated
  sim-retired names x sim =
      sweep-keeps (visited s (visit Retire names)) (λ (y : Store). Sim s home y m)
      (λ i y a. one i y a (holds_at s y.records i) (named names (line_at y.records i).name) refl)
      s.lines 0 x sim
    where
      one : (i : ℕ) (y : Store) → Sim s home y m → (t u : Bool) → holds_at s y.records i ≡ t
          → Sim s home (cond (t && u) (dropped i (written_back s i y)) y) m
      one i y a true true h = sim-evict a i h
      one i y a true false h = a
      one i y a false u h = a
