-- Only the records at the places of a visit's names can change: the visit of all records is the visit of those.
-- Each place has as many records as there are lines in a set.
use Prim.Native.Nat.{ℕ, zero, suc, ◌+◌, ◌*◌, ◌-◌, ◌/◌, ◌≤◌, ◌<◌}
use mathlib.Core.Path.{◌≡◌, ◌∙◌, refl, sym, ap}
use mathlib.Core.Bool.{Bool, true, false, ◌&&◌, cond}
use mathlib.Core.List.{List, [], ◌∷◌}
use native.Mathlib.Nat.{div-lt_iff_lt-mul, le-div_iff_mul-le, div-mul-le_self, mul-le-mul_right, sub-zero, zero-mul, mod-lt, mul-sub, mul_comm}
use native.Mathlib.Omega.{arith}
use borrow.Author.Tests.{eqb-true}
use Rattle.board.specs.declared.Shape.{Shape}
use Rattle.board.proofs.Bools.{and_left, and_right}
use Rattle.lines.specs.Records.{line_at}
use Rattle.lines.specs.Holds.{sets_of, set_at, first_at, holds_line, holds_at}
use Rattle.lines.specs.Premises.{Lined}
use Rattle.lines.proofs.Sets.{ways_pos, sets-all}
use Rattle.stores.specs.Stores.{Store}
use Rattle.ranges.specs.Places.{HasPlace, Inside, NextRun}
use Rattle.ranges.specs.Bounds.{Runs}
use Rattle.ranges.specs.declared.Run.{Run}
use Rattle.visits.specs.Visits.{selects, treated, visited, sweep, visited_all}
use Rattle.visits.specs.Walks.{visited_runs, Walks}
use Rattle.visits.specs.declared.Visit.{Visit}
use Rattle.visits.proofs.Visits.{sweep-end}

-- a difference, times a number
parts-less : (n m k : ℕ) → n * k - m * k ≡ (n - m) * k
parts-less n m k = rw (mul_comm n k, mul_comm m k, mul_comm (n - m) k) (sym (mul-sub k n m))

-- ---- sweeps

module _ (f : ℕ → Store → Store) where
  -- a sweep is the sweep of its first records, then of the others
  sweep-parts : (n m i : ℕ) (b : Store) → sweep f (n + m) i b ≡ sweep f m (i + n) (sweep f n i b)
  unfolding sweep
  sweep-parts zero m i b = let z : i + 0 ≡ i = omega arith in let y : 0 + m ≡ m = omega arith in rw (z, y)
  sweep-parts (suc n) m i b =
      let z : i + suc n ≡ suc i + n = omega arith in
      let y : suc n + m ≡ suc (n + m) = omega arith in
      rw (z, y) (sweep-parts n m (suc i) (f i b))

  -- records that are left as they are
  sweep-left : (n i : ℕ) (b : Store) → ((j : ℕ) (x : Store) → i ≤ j → j < i + n → f j x ≡ x) → sweep f n i b ≡ b
  unfolding sweep
  sweep-left zero i b h = refl
  sweep-left (suc n) i b h = sweep-left n (suc i) (f i b) (λ j x a c. h j x (omega arith) (omega arith)) ∙ h i b (omega arith) (omega arith)

  -- from i on up to n: those up to j are left, those from j up to k swept
  sweep-skip : (n i j k : ℕ) (b : Store) → i ≤ j → j ≤ k → k ≤ n → ((h : ℕ) (x : Store) → i ≤ h → h < j → f h x ≡ x)
      → sweep f (n - i) i b ≡ sweep f (n - k) k (sweep f (k - j) j b)
  sweep-skip n i j k b p q r h =
      let z : n - i ≡ (j - i) + ((k - j) + (n - k)) = omega arith in
      let y : i + (j - i) ≡ j = omega arith in
      let w : j + (k - j) ≡ k = omega arith in
      let e = sweep-parts (j - i) ((k - j) + (n - k)) i b in
      let g = sweep-parts (k - j) (n - k) j b in
      rw z (rw (y, sweep-left (j - i) i b (λ l x a c. h l x a (omega arith))) at e ∙ rw w at g)

-- ---- visits

module _ (s : Shape) (v : Visit) where
  abbrev sets : ℕ
  sets = s.lines / s.ways

  -- a record whose place is that of none of the names is left as it is
  pub visited-left : (i : ℕ) (b : Store) → (HasPlace sets v.names (i / s.ways) → ⊥) → visited s v i b ≡ b
  unfolding visited holds_at holds_line
  visited-left i b none = go (holds_line s i (line_at b.records i)) (selects v (line_at b.records i)) refl refl
    where
      go : (t u : Bool) → holds_line s i (line_at b.records i) ≡ t → selects v (line_at b.records i) ≡ u
          → cond (t && u) (treated s v.deed i b) b ≡ b
      go true true t u = absurd (none (record {
        name = (line_at b.records i).name;
        is_named = u;
        is_there = sym (eqb-true _ _ (and_left _ _ (and_right (line_at b.records i).valid _ t)));
      }))
      go true false t u = refl
      go false u t e = refl

  -- past the last place there is none of a name
  visited-past : 0 < sets → (i : ℕ) (b : Store) → sets ≤ i / s.ways → visited s v i b ≡ b
  visited-past pos i b h = visited-left i b (λ f. let a = mod-lt f.name pos in let e = f.is_there in omega arith)

  -- the next run of places, each with its records
  pub run-swept : 0 < s.ways → (place : ℕ) (r : Run) (b : Store) → NextRun sets v.names place r
      → sweep (visited s v) (s.lines - place * s.ways) (place * s.ways) b
      ≡ sweep (visited s v) (s.lines - r.end * s.ways) (r.end * s.ways) (sweep (visited s v) (r.end * s.ways - r.start * s.ways) (r.start * s.ways) b)
  run-swept w place r b next =
      sweep-skip (visited s v) s.lines (place * s.ways) (r.start * s.ways) (r.end * s.ways) b
      (mul-le-mul_right s.ways next.from) (mul-le-mul_right s.ways next.upward)
      (let a = mul-le-mul_right s.ways next.within in let c = div-mul-le_self s.lines s.ways in omega arith)
      (λ i x low high. visited-left i x (next.passed (i / s.ways) ((le-div_iff_mul-le w).1 low) ((div-lt_iff_lt-mul w).1 high)))

  -- all runs from a place on
  runs-swept : 0 < s.ways → 0 < sets → (rs : List Run) (place : ℕ) (b : Store) → Runs sets v.names place rs
      → visited_runs s v rs b ≡ sweep (visited s v) (s.lines - place * s.ways) (place * s.ways) b
  unfolding visited_runs Runs
  runs-swept w pos [] place b past =
      sym (sweep-left (visited s v) (s.lines - place * s.ways) (place * s.ways) b
      (λ i x low high. visited-past pos i x (let a = (le-div_iff_mul-le w).1 low in omega arith)))
  runs-swept w pos (r ∷ rs) place b walk =
      let z : r.end * s.ways - r.start * s.ways ≡ (r.end - r.start) * s.ways = parts-less r.end r.start s.ways in
      let e = run-swept w place r b walk.0 in
      runs-swept w pos rs r.end _ walk.1 ∙ sym (rw z at e)

  runs-all : 0 < s.ways → 0 < sets → (rs : List Run) (b : Store) → Runs sets v.names 0 rs → visited_runs s v rs b ≡ visited_all s v b
  unfolding visited_all
  runs-all w pos rs b walk = let e = runs-swept w pos rs 0 b walk in rw (zero-mul s.ways, sub-zero s.lines) at e

pub walks : Walks
walks = record { elsewhere = visited-left; enough = λ s v rs b w pos walk. runs-all s v w pos rs b walk }

-- ---- the walk as the code takes it

module _ (s : Shape) (l : Lined s) where
  -- the records of a run of places
  module _ (start stop at end : ℕ) (f : at ≡ first_at s start) (g : end ≡ first_at s stop) where
    pub run-swept-by : (v : Visit) (b b₁ : Store) → b₁ ≡ sweep (visited s v) (end - at) at b
        → b₁ ≡ sweep (visited s v) (first_at s (stop - start)) (first_at s start) b
    run-swept-by v b b₁ e =
        e ∙ (ap (λ (n : ℕ). sweep (visited s v) (end - n) n b) f
        ∙ (ap (λ (n : ℕ). sweep (visited s v) (n - first_at s start) (first_at s start) b) g
        ∙ ap (λ (n : ℕ). sweep (visited s v) n (first_at s start) b) (parts-less stop start s.ways)))

    pub run-low : (i : ℕ) → at ≤ i → start ≤ set_at s i
    run-low i h = (le-div_iff_mul-le (ways_pos s l)).1 (rw f at h)

    pub run-high : (i : ℕ) → i < end → set_at s i < stop
    run-high i h = (div-lt_iff_lt-mul (ways_pos s l)).1 (rw g at h)

  module _ (v : Visit) (sets : ℕ) (q : sets ≡ sets_of s) where
    -- the next run is one of places
    pub run-within : (place : ℕ) (r : Run) → NextRun sets v.names place r → (r.start ≤ r.end) × (r.end ≤ sets_of s) × Inside (sets_of s) v.names r
    run-within place r next = rw (← q) (next.upward, next.within, next.inside)

    -- a run swept, and the rest
    pub run-done : (place : ℕ) (r : Run) (b b₁ : Store) → NextRun sets v.names place r
        → b₁ ≡ sweep (visited s v) (first_at s (r.end - r.start)) (first_at s r.start) b
        → sweep (visited s v) (s.lines - first_at s place) (first_at s place) b ≡ sweep (visited s v) (s.lines - first_at s r.end) (first_at s r.end) b₁
    run-done place r b b₁ next e =
        run-swept s v (ways_pos s l) place r b (rw q at next)
        ∙ ap (sweep (visited s v) (s.lines - first_at s r.end) (first_at s r.end))
        (ap (λ (n : ℕ). sweep (visited s v) n (first_at s r.start) b) (parts-less r.end r.start s.ways) ∙ sym e)

    -- past the last place there is no record
    pub runs_done : (place : ℕ) (b : Store) → sets ≤ place → sweep (visited s v) (s.lines - first_at s place) (first_at s place) b ≡ b
    runs_done place b h =
        let z : first_at s (sets_of s) ≤ first_at s place = mul-le-mul_right s.ways (rw q at h) in
        sweep-end (visited s v) s.lines (first_at s place) b (omega (arith, sets-all s l))
