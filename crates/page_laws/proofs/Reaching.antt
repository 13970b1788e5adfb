-- An access by the cache gives what the flat memory gives; so do load-and-map and look. Over any map from names to homes, and any record of the name's set.
-- Stands on Held and Steps.
use Rattle.std.specs.Prelude.{Option, Some, None}
use Prim.Native.Nat.{ℕ, ◌+◌, ◌*◌, ◌≤◌, ◌<◌}
use mathlib.Core.Path.{◌≡◌, ◌∙◌, refl, sym}
use mathlib.Core.Bool.{Bool, true, false, cond}
use mathlib.Core.List.{List}
use native.Mathlib.Nat.{add_assoc}
use native.Mathlib.Omega.{arith}
use Rattle.address.specs.Layout.{page_lines}
use Rattle.board.specs.Homes.{at_line}
use Rattle.board.specs.declared.Shape.{Shape}
use Rattle.board.specs.declared.Home.{Home}
use Rattle.line_bytes.specs.Bytes.{number as number_in, digits, stored, line_of}
use Rattle.lines.specs.Records.{line_at}
use Rattle.stores.specs.Stores.{Store, performed_at, current_by, current}
use Rattle.lines.specs.Holds.{place_of, set_at, holds_at, holder_of, keeper_of}
use Rattle.reach.specs.Reach.{way_by_home, way_by, unreached, may_write}
use Rattle.stores.specs.declared.Access.{Access}
use Rattle.reach.specs.declared.Way.{Way}
use Rattle.machine.specs.Accesses.{Reached, performed_on, accessed_by}
use Rattle.machine.specs.Calls.{loaded_by}
use Rattle.board.proofs.Homes.{home-parts}
use Rattle.store_laws.proofs.Sim.{Homes, Sim}
use Rattle.store_laws.proofs.Bytes.{number_same, length_digits, line-ext}
use Rattle.store_laws.proofs.Held.{held_below_lem, holder-some, keeper-some, keeper-nothing}
use Rattle.store_laws.proofs.Steps.{sim-stored, sim-inserted, inserted-line, inserted-held}

-- ---- look

-- the current bytes of a physical line are the flat memory's
module _ {s : Shape} {home : ℕ → Option Home} {x : Store} {m : List ℕ} (sim : Sim s home x m) (p : ℕ) (b : p < page_lines * s.frames) where
  look-by : (f : Option ℕ) → keeper_of s x.records p ≡ f → current_by x.cache x.memory p f ≡ line_of m p
  unfolding current_by
  look-by (Some i) h =
      let a = keeper-some s x.records p i h in
      let d = held_below_lem sim i a.0 in
      line-ext x.cache m i p (omega (arith, sim.cache_count)) (omega (arith, sim.flat_count)) (λ k g. sym (rw a.1 at (sim.cached i k a.0 g)))
  look-by None h =
      line-ext x.memory m p p (omega (arith, sim.memory_count)) (omega (arith, sim.flat_count))
      (λ k g. sym (sim.bare p k
      (λ j o. keeper-nothing s x.records p j h (held_below_lem sim j o) o) b g))

  pub look-same : current s x p ≡ line_of m p
  unfolding current
  look-same = look-by (keeper_of s x.records p) refl

-- ---- a load or a store on a held line

-- what is reached is what the flat memory has at `at`
pub record Same (s : Shape) (home : ℕ → Option Home) (a : Access) (m : List ℕ) (at : ℕ) (r : Reached) : Type 0 where
  pub number : r.answer.number ≡ 0
  pub value : r.answer.value ≡ cond a.store 0 (number_in m at a.width)
  pub sim : Sim s home r.after (cond a.store (stored m at a.width a.value) m)

module _ {s : Shape} {home : ℕ → Option Home} {x : Store} {m : List ℕ} (sim : Sim s home x m) (mark i off : ℕ) (a : Access)
    (h : holds_at s x.records i ≡ true) (fit : off + a.width ≤ 16) where
  performed-value : (t : Bool) → a.store ≡ t
      → (performed_on i off a mark x).answer.value ≡ cond a.store 0 (number_in m (16 * (line_at x.records i).physical + off) a.width)
  unfolding performed_on performed_at
  performed-value true e = rw e refl
  performed-value false e =
      rw e (number_same x.cache m (16 * i + off) (16 * (line_at x.records i).physical + off) a.width
      (λ k d. let z = sim.cached i (off + k) h (omega arith) in simp add_assoc (sym z)))

  performed-sim : (t : Bool) → a.store ≡ t
      → Sim s home (performed_on i off a mark x).after (cond a.store (stored m (16 * (line_at x.records i).physical + off) a.width a.value) m)
  unfolding performed_on performed_at stored
  performed-sim true e = let d = length_digits a.width a.value in rw e (sim-stored sim i off (digits a.width a.value) h (omega arith))
  performed-sim false e = rw e sim

  -- whatever its mark
  performed-same : (p : ℕ) → (line_at x.records i).physical ≡ p → Same s home a m (16 * p + off) (performed_on i off a mark x)
  unfolding performed_on
  performed-same p e = rw (← e) (record { number = refl; value = performed-value a.store refl; sim = performed-sim a.store refl })

-- ---- the way to a line, an access to it, and load-and-map

-- a way does what the home of its name says
record WayHome (way : Option Way) (home : Option Home) : Type 0 where
  reaches : unreached way ≡ unreached (way_by_home home)
  writes : may_write way ≡ may_write (way_by_home home)

-- the way to a name's line over any map
abbrev pub way_in : Shape → (ℕ → Option Home) → List ℕ → ℕ → Option Way
way_in s home records name = way_by records (home name) (holder_of s records name)

module _ (s : Shape) (home : ℕ → Option Home) {x : Store} {m : List ℕ} (sim : Sim s home x m) where
  -- the home of a held name is its record's physical line, with its permission
  held-home : (name i : ℕ) → holder_of s x.records name ≡ Some i → home name ≡ Some (at_line (line_at x.records i).physical (line_at x.records i).write)
  held-home name i h = let a = holder-some s x.records name i h in rw a.1 at (sim.maps i a.0)

  way-home-by : (name : ℕ) (f : Option ℕ) → holder_of s x.records name ≡ f → WayHome (way_by x.records (home name) f) (home name)
  unfolding way_by way_by_home unreached may_write
  way-home-by name (Some i) h = let e = held-home name i h in record { reaches = rw e refl; writes = rw e refl }
  way-home-by name None h = record { reaches = refl; writes = refl }

  way_home : (name : ℕ) → WayHome (way_in s home x.records name) (home name)
  way_home name = way-home-by name (holder_of s x.records name) refl

  pub way-nowhere : (name : ℕ) → home name ≡ None → unreached (way_in s home x.records name) ≡ true
  unfolding way_by_home unreached
  way-nowhere name e = (way_home name).reaches ∙ rw e refl

  module _ (name p : ℕ) (w : Bool) (e : home name ≡ Some (at_line p w)) where
    pub way-reached : unreached (way_in s home x.records name) ≡ false
    unfolding way_by_home unreached
    way-reached = (way_home name).reaches ∙ rw e refl

    pub way-writes : may_write (way_in s home x.records name) ≡ w
    unfolding way_by_home may_write
    way-writes = (way_home name).writes ∙ rw e refl

-- an access to a name whose home is physical line p is an access to the flat memory; a load-and-map of it keeps that memory.
-- The line that is not held goes to any record of its set.
module _ (s : Shape) (home : ℕ → Option Home) {x : Store} {m : List ℕ} (homes : Homes s home) (sim : Sim s home x m)
    (to name p : ℕ) (w : Bool) (low : to < s.lines) (own : set_at s to ≡ place_of s name) (e : home name ≡ Some (at_line p w)) where
  accessed-by : (off : ℕ) (a : Access) → off + a.width ≤ 16 → (f : Option ℕ) → holder_of s x.records name ≡ f
      → Same s home a m (16 * p + off) (accessed_by s to name off a x (way_by x.records (home name) f))
  unfolding accessed_by way_by way_by_home
  accessed-by off a fit (Some i) h =
      let q : (line_at x.records i).physical ≡ p = (home-parts (sym (held-home s home sim name i h) ∙ e)).0 in
      performed-same sim _ i off a (holder-some s x.records name i h).0 fit p q
  accessed-by off a fit None h =
      let y = sim-inserted homes sim to name p w low own h e in
      let l = inserted-line homes sim to name p w low own h e in
      let o = inserted-held homes sim to name p w low own h e in
      rw e (performed-same y _ to off a o fit p (rw l))

  pub accessed-same : (off : ℕ) (a : Access) → off + a.width ≤ 16
      → Same s home a m (16 * p + off) (accessed_by s to name off a x (way_in s home x.records name))
  accessed-same off a fit = accessed-by off a fit (holder_of s x.records name) refl

  loaded-by : (f : Option ℕ) → holder_of s x.records name ≡ f → Sim s home (loaded_by s to name p w x f) m
  unfolding loaded_by
  loaded-by (Some i) h = sim
  loaded-by None h = sim-inserted homes sim to name p w low own h e

  pub loaded-same : Sim s home (loaded_by s to name p w x (holder_of s x.records name)) m
  loaded-same = loaded-by (holder_of s x.records name) refl
