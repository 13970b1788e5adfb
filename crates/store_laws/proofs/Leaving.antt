-- Lines leave, bytes of memory change, and the map changes: one law over any two maps of homes. Map, unmap, move and accesses past the cache are instances
-- of it. And lines get a permission, as the new map has it, which protect is an instance of.
-- Stands on Held and Sweeps.
use Rattle.std.specs.Prelude.{Option, Some, None}
use Prim.Native.Nat.{ℕ, ◌*◌, ◌<◌}
use mathlib.Core.Path.{◌≡◌, refl, sym, ap, ◌∙◌}
use mathlib.Core.Bool.{Bool, true, false, ◌&&◌, cond}
use mathlib.Core.List.{List}
use lib.ListN.{length}
use Rattle.address.specs.Layout.{page_lines}
use Rattle.board.specs.Homes.{at_line}
use Rattle.board.specs.declared.Shape.{Shape}
use Rattle.board.specs.declared.Home.{Home}
use Rattle.board.proofs.Bools.{clash, and-false}
use Rattle.lines.specs.Records.{line_at, no_line, permitted_line}
use Rattle.lines.specs.Holds.{holds_at, keeper_of}
use Rattle.lines.specs.declared.Line.{Line}
use Rattle.stores.specs.Stores.{Store, store}
use Rattle.ranges.specs.Ranges.{named}
use Rattle.ranges.specs.declared.Names.{Names}
use Rattle.visits.specs.Visits.{visit, visited_all}
use Rattle.visits.specs.declared.Deed.TheVariants.{Drop, Retire, Permit}
use Rattle.store_laws.proofs.Sim.{byte, Sim}
use Rattle.store_laws.proofs.Held.{holds-none, holds-permitted, held-line, held_same, held-listed, held_below_lem, keeper-some, keeper-nothing}
use Rattle.store_laws.proofs.Sweeps.{fate_of, fate, swept-cache, swept-line, swept-memory-permit, SameCache, Kept, kept-sim, sim-retired}

-- ---- what a visit that drops leaves

-- record j of y is x's, or it held a line that left
abbrev Left : Shape → (Line → Bool) → Store → Store → ℕ → Type 0
Left s sel x y j = line_at y.records j ≡ cond (holds_at s x.records j && sel (line_at x.records j)) no_line (line_at x.records j)

-- a record held after: it was held, did not leave and is as it was
pub record Stayed (s : Shape) (sel : Line → Bool) (x y : Store) (j : ℕ) : Type 0 where
  pub was : holds_at s x.records j ≡ true
  pub stays : sel (line_at x.records j) ≡ false
  pub same : line_at y.records j ≡ line_at x.records j

stayed : (s : Shape) (sel : Line → Bool) (x y : Store) (j : ℕ) → Left s sel x y j → holds_at s y.records j ≡ true → Stayed s sel x y j
stayed s sel x y j l h = go (holds_at s x.records j) (sel (line_at x.records j)) refl refl l
  where
    go : (t u : Bool) → holds_at s x.records j ≡ t → sel (line_at x.records j) ≡ u → line_at y.records j ≡ cond (t && u) no_line (line_at x.records j)
        → Stayed s sel x y j
    go true true t u r = clash _ h (held-line s y.records j no_line r ∙ holds-none s j)
    go true false t u r = record { was = t; stays = u; same = r }
    go false u t v r = clash _ h (held_same s y.records j x.records r ∙ t)

module _ (s : Shape) (names : Names) (x : Store) (count : length x.records ≡ 2 * s.lines) where
  abbrev sel : Line → Bool
  sel l = named names l.name

  dropped-left : (j : ℕ) → j < s.lines → Left s sel x (visited_all s (visit Drop names) x) j
  unfolding fate fate_of holds_at
  dropped-left j h = swept-line s (visit Drop names) x j count h

  -- a line that is still held was held and is of none of the names
  pub retired-stayed : (j : ℕ) → holds_at s (visited_all s (visit Retire names) x).records j ≡ true → Stayed s sel x (visited_all s (visit Retire names) x) j
  unfolding fate fate_of holds_at
  retired-stayed j h =
      stayed s sel x (visited_all s (visit Retire names) x) j
      (swept-line s (visit Retire names) x j count
      (held-listed s (visited_all s (visit Retire names) x).records j s.lines ((swept-cache s (visit Retire names) x).records_length ∙ count) h))
      h

-- ---- the law

-- Those that `sel` selects leave, with nothing written back; the bytes of the physical lines of Z come to be the same in memory and in the flat memory, and
-- all others stay; the map is another. A line that leaves is clean or of Z, and one that stays is not of Z and has the same home in the new map.
module _ (s : Shape) (home home' : ℕ → Option Home) (x y : Store) (m m' : List ℕ) (sim : Sim s home x m) (sel : Line → Bool) (Z : ℕ → Bool)
    (alike : SameCache x y) (flat-length : length m' ≡ length m) (left : (j : ℕ) → j < s.lines → Left s sel x y j)
    (alike-in : (p k : ℕ) → Z p ≡ true → p < page_lines * s.frames → k < 16 → byte m' p k ≡ byte y.memory p k)
    (memory-out : (p k : ℕ) → Z p ≡ false → k < 16 → byte y.memory p k ≡ byte x.memory p k)
    (flat_out : (p k : ℕ) → Z p ≡ false → k < 16 → byte m' p k ≡ byte m p k)
    (gone : (j : ℕ) → holds_at s x.records j ≡ true → sel (line_at x.records j) ≡ true → Z (line_at x.records j).physical ≡ false
    → (line_at x.records j).changed ≡ false)
    (stays : (j : ℕ) → holds_at s x.records j ≡ true → sel (line_at x.records j) ≡ false
    → (Z (line_at x.records j).physical ≡ false)
    × (home' (line_at x.records j).name ≡ Some (at_line (line_at x.records j).physical (line_at x.records j).write))) where
  abbrev line : ℕ → Line
  line j = line_at x.records j

  abbrev held : ℕ → Bool
  held j = holds_at s x.records j

  still : (j : ℕ) → holds_at s y.records j ≡ true → Stayed s sel x y j
  still j h = stayed s sel x y j (left j (held-listed s y.records j s.lines (alike.records_length ∙ sim.record_count) h)) h

  bare : (p k : ℕ) → ((j : ℕ) → holds_at s y.records j ≡ true → (line_at y.records j).physical ≡ p → ⊥) → p < page_lines * s.frames → k < 16
      → byte m' p k ≡ byte y.memory p k
  bare p k free b g = go (Z p) refl (keeper_of s x.records p) refl
    where
      -- one that held it is gone, so it was clean
      clean : (j : ℕ) → held j ≡ true → (line j).physical ≡ p → (u : Bool) → sel (line j) ≡ u → Z p ≡ false → byte m p k ≡ byte x.memory p k
      clean j h q true u z =
          let c = gone j h u (rw q z) in
          rw (← q) (sim.cached j k h g ∙ sim.clean j k h c g)
      clean j h q false u z =
          let r : line_at y.records j ≡ line j = left j (held_below_lem sim j h) ∙ rw (h, u) in
          absurd (free j (held_same s y.records j x.records r ∙ h) (rw r q))

      go : (t : Bool) → Z p ≡ t → (f : Option ℕ) → keeper_of s x.records p ≡ f → byte m' p k ≡ byte y.memory p k
      go true t f e = alike-in p k t b g
      go false t (Some j) e =
          let a = keeper-some s x.records p j e in
          flat_out p k t g ∙ clean j a.0 a.1 (sel (line j)) refl t ∙ sym (memory-out p k t g)
      go false t None e =
          flat_out p k t g
          ∙ sim.bare p k (λ j o. keeper-nothing s x.records p j e (held_below_lem sim j o) o) b g
          ∙ sym (memory-out p k t g)

  left-sim : Sim s home' y m'
  left-sim =
      kept-sim s home home' x y m m' sim alike flat-length
      (λ j h. let a = still j h in
      record {
        was = a.was;
        physical_is = ap (λ (l : Line). l.physical) a.same;
        changed_is = ap (λ (l : Line). l.changed) a.same;
        maps = rw a.same (stays j a.was a.stays).1;
      })
      (λ j k h g. let a = still j h in rw a.same (memory-out (line j).physical k (stays j a.was a.stays).0 g))
      (λ j k h g. let a = still j h in rw a.same (flat_out (line j).physical k (stays j a.was a.stays).0 g))
      bare

-- ---- its instances

module _ (s : Shape) (home home' : ℕ → Option Home) (x : Store) (m : List ℕ) (sim : Sim s home x m) where
  -- no line leaves, and none is held of Z, whose bytes become those of `memory'` and `m'`
  pub written-sim : (memory' m' : List ℕ) (Z : ℕ → Bool) → length memory' ≡ length x.memory → length m' ≡ length m
      → ((p k : ℕ) → Z p ≡ true → p < page_lines * s.frames → k < 16 → byte m' p k ≡ byte memory' p k)
      → ((p k : ℕ) → Z p ≡ false → k < 16 → byte memory' p k ≡ byte x.memory p k)
      → ((p k : ℕ) → Z p ≡ false → k < 16 → byte m' p k ≡ byte m p k)
      → ((j : ℕ) → holds_at s x.records j ≡ true
      → (Z (line_at x.records j).physical ≡ false)
      × (home' (line_at x.records j).name ≡ Some (at_line (line_at x.records j).physical (line_at x.records j).write)))
      → Sim s home' (store x.records x.cache memory') m'
  written-sim memory' m' Z a b in-zone memory-out flat_out stays =
      left-sim s home home' x (store x.records x.cache memory') m m' sim (λ (l : Line). false) Z
      (record { records_length = refl; cache_same = refl; memory_length = a }) b
      (λ j h. sym (ap (λ (t : Bool). cond t no_line (line_at x.records j)) (and-false (holds_at s x.records j))))
      in-zone memory-out flat_out (λ j h n z. clash false n refl) (λ j h n. stays j h)

module _ (s : Shape) (home home' : ℕ → Option Home) (names : Names) (x : Store) (m : List ℕ) (sim : Sim s home x m) where
  abbrev was : ℕ → Line
  was j = line_at x.records j

  -- the lines of the names are dropped, which lie in Z, and the bytes of Z become those of `memory'` and `m'`
  pub dropped-sim : (memory' m' : List ℕ) (Z : ℕ → Bool) → length memory' ≡ length x.memory → length m' ≡ length m
      → ((p k : ℕ) → Z p ≡ true → p < page_lines * s.frames → k < 16 → byte m' p k ≡ byte memory' p k)
      → ((p k : ℕ) → Z p ≡ false → k < 16 → byte memory' p k ≡ byte x.memory p k)
      → ((p k : ℕ) → Z p ≡ false → k < 16 → byte m' p k ≡ byte m p k)
      → ((j : ℕ) → holds_at s x.records j ≡ true → named names (was j).name ≡ true → Z (was j).physical ≡ true)
      → ((j : ℕ) → holds_at s x.records j ≡ true → named names (was j).name ≡ false
      → (Z (was j).physical ≡ false) × (home' (was j).name ≡ Some (at_line (was j).physical (was j).write)))
      → Sim s home' (store (visited_all s (visit Drop names) x).records (visited_all s (visit Drop names) x).cache memory') m'
  dropped-sim memory' m' Z a b in-zone memory-out flat_out gone stays =
      let c = swept-cache s (visit Drop names) x in
      left-sim s home home' x (store (visited_all s (visit Drop names) x).records (visited_all s (visit Drop names) x).cache memory') m m' sim
      (λ (l : Line). named names l.name) Z
      (record { records_length = c.records_length; cache_same = c.cache_same; memory_length = a }) b (dropped-left s names x sim.record_count)
      in-zone memory-out flat_out (λ j h n z. clash _ (gone j h n) z) stays

  -- the lines of the names are written back and dropped; a line of none of them has the same home in the new map
  pub retired-sim : ((j : ℕ) → holds_at s x.records j ≡ true → named names (was j).name ≡ false → home' (was j).name ≡ Some (at_line (was j).physical (was j).write))
      → Sim s home' (visited_all s (visit Retire names) x) m
  retired-sim stays =
      let y = visited_all s (visit Retire names) x in
      written-sim s home home' y m (sim-retired s home m names x sim) y.memory m (λ p. false) refl refl
      (λ p k z a b. clash false z refl) (λ p k z a. refl) (λ p k z a. refl)
      (λ j h. let a = retired-stayed s names x sim.record_count j h in (refl, rw a.same (stays j a.was a.stays)))

  -- the lines of the names get the permission, which is the one of their home in the new map; a line of none of them has the same home there
  module _ (write : Bool) (named-home : (j : ℕ) → holds_at s x.records j ≡ true → named names (was j).name ≡ true → home' (was j).name ≡ Some (at_line (was j).physical write))
      (other-home : (j : ℕ) → holds_at s x.records j ≡ true → named names (was j).name ≡ false → home' (was j).name ≡ Some (at_line (was j).physical (was j).write)) where
    abbrev given : Store
    given = visited_all s (visit (Permit write) names) x

    given-line : (j : ℕ) → j < s.lines
        → line_at given.records j ≡ cond (holds_at s x.records j && named names (was j).name) (permitted_line (was j) write) (was j)
    unfolding fate fate_of holds_at
    given-line j h = swept-line s (visit (Permit write) names) x j sim.record_count h

    kept_line : (j : ℕ) → holds_at s given.records j ≡ true → (t u : Bool) → holds_at s x.records j ≡ t → named names (was j).name ≡ u
        → line_at given.records j ≡ cond (t && u) (permitted_line (was j) write) (was j) → Kept s home' x given j
    kept_line j h true true t u r = record {
      was = t;
      physical_is = ap (λ (l : Line). l.physical) r;
      changed_is = ap (λ (l : Line). l.changed) r;
      maps = rw r (named-home j t u);
    }
    kept_line j h true false t u r = record {
      was = t;
      physical_is = ap (λ (l : Line). l.physical) r;
      changed_is = ap (λ (l : Line). l.changed) r;
      maps = rw r (other-home j t u);
    }
    kept_line j h false u t v r = clash _ h (held_same s given.records j x.records r ∙ t)

    -- a line that was held is still held
    still-held : (j p : ℕ) → holds_at s x.records j ≡ true → (t : Bool) → line_at given.records j ≡ cond t (permitted_line (was j) write) (was j)
        → ((i : ℕ) → holds_at s given.records i ≡ true → (line_at given.records i).physical ≡ p → ⊥) → (was j).physical ≡ p → ⊥
    unfolding holds_at
    still-held j p h true r free q = free j (held-line s given.records j (permitted_line (was j) write) r ∙ (holds-permitted s j (was j) write ∙ h)) (rw r q)
    still-held j p h false r free q = free j (held-line s given.records j (was j) r ∙ h) (rw r q)

    pub permitted-sim : Sim s home' (visited_all s (visit (Permit write) names) x) m
    permitted-sim =
        let e = swept-memory-permit s x names write in
        let c = swept-cache s (visit (Permit write) names) x in
        kept-sim s home home' x given m m sim c refl
        (λ j h. kept_line j h (holds_at s x.records j) (named names (was j).name) refl refl
        (given-line j (held-listed s given.records j s.lines (c.records_length ∙ sim.record_count) h)))
        (λ j k h g. rw e) (λ j k h g. refl)
        (λ p k free b g. rw e (sim.bare p k
        (λ j h. still-held j p h (holds_at s x.records j && named names (was j).name) (given-line j (held_below_lem sim j h)) free) b g))
