-- Where a supervisor access goes, return by return, and what a plan that goes on says.
use Rattle.std.specs.Prelude.{Result, Ok, Err}
use Prim.Native.Nat.{ℕ, ◌+◌, ◌*◌, ◌/◌, ◌%◌, ◌^◌, ◌<◌, ◌≤◌}
use mathlib.Core.Path.{◌≡◌, ◌∙◌, refl, sym, ap}
use mathlib.Core.Bool.{Bool, true, false, not, ◌&&◌, ◌||◌}
use mathlib.Core.List.{List, []}
use native.Mathlib.Omega.{arith}
use lib.ListN.{length, get_or, get_or-eq_default}
use borrow.Author.Tests.{leb-false, not-false, lt-ltb, le-ltb, le-leb, lt-leb, eq-eqb, ne_eqb}
use Rattle.address.specs.Layout.{global_end}
use Rattle.address.specs.Addresses.{region_of, physical_of, frame_of_physical}
use Rattle.address.specs.declared.Global.{Global}
use Rattle.address.specs.declared.Physical.{Physical}
use Rattle.address.specs.declared.Region.{Region}
use Rattle.address.specs.declared.Region.TheVariants.{Uncached, Cached, PageTable, Ordinary}
use Rattle.board.specs.Shapes.{fits_shape}
use Rattle.lines.specs.Victims.{Uses}
use Rattle.board.specs.Refusals.{refusal_of, fit}
use Rattle.board.specs.declared.Refusal.{Refusal}
use Rattle.board.specs.declared.Refusal.TheVariants.{OutOfRange, TagState, Misaligned, FrameInUse, Outside}
use Rattle.board.specs.declared.Shape.{Shape}
use Rattle.board.specs.declared.Pending.{Pending}
use Rattle.line_bytes.specs.Premises.{Width, InWord}
use Rattle.stores.specs.declared.Access.{Access}
use Rattle.machine.specs.Refusals.{by_table, is_global, too_large, aligned_to, word_in_use, is_ordinary, is_cached, outside}
use Rattle.machine.specs.Accesses.{frame_under}
use Rattle.machine.proofs.Tables.{table-passed, table-end}
use Rattle.supervisor_access.specs.Plans.{target, region_plan, waits, supervisor_plan}
use Rattle.supervisor_access.specs.declared.Place.{Place}
use Rattle.supervisor_access.specs.declared.Place.TheVariants.{Line, Memory}
use Rattle.machine.proofs.Fits.{fitted-uncached, fitted-memory}
use Rattle.machine.proofs.Alignments.{Aligned, aligned-inside}

-- the word of a frame beyond memory counts as 0
module _ (s : Shape) (words : List ℕ) (g : Global) (frame : ℕ) (p : Physical) (q : p ≡ physical_of g) (e : frame ≡ frame_of_physical p) where
  pub cached-beyond : length words ≡ s.frames → s.frames ≤ frame → Err Outside ≡ region_plan s words g Cached
  unfolding region_plan by_table is_cached outside
  cached-beyond n h =
      let f : frame_under g ≡ frame = rw q at (sym e) in
      let z : length words ≤ frame = omega arith in
      rw (f, get_or-eq_default words 0 z, le-leb _ _ h)

  module _ (h : frame < s.frames) where
    pub cached-used : (get_or words frame 0 ≡ 0 → ⊥) → Err FrameInUse ≡ region_plan s words g Cached
    unfolding region_plan by_table is_cached
    cached-used n =
        let f : frame_under g ≡ frame = rw q at (sym e) in
        rw (f, ne_eqb _ _ n)

    pub cached-below : get_or words frame 0 ≡ 0 → frame < s.uncached → Err Outside ≡ region_plan s words g Cached
    unfolding region_plan by_table is_cached outside
    cached-below n l =
        let f : frame_under g ≡ frame = rw q at (sym e) in
        rw (f, eq-eqb _ _ n, lt-leb _ _ h, lt-ltb _ _ l)

    pub cached-free : get_or words frame 0 ≡ 0 → s.uncached ≤ frame → Ok (Line g) ≡ region_plan s words g Cached
    unfolding region_plan by_table is_cached outside target
    cached-free n l =
        let f : frame_under g ≡ frame = rw q at (sym e) in
        rw (f, eq-eqb _ _ n, lt-leb _ _ h, le-ltb _ _ l)

-- by the region
module _ (s : Shape) (words : List ℕ) (g : Global) (region : Region) where
  pub plan-ordinary : region ≡ Ordinary → Ok (Line g) ≡ region_plan s words g region
  unfolding region_plan by_table is_cached outside target
  plan-ordinary e = rw e

  pub plan-table : region ≡ PageTable → Err Outside ≡ region_plan s words g region
  unfolding region_plan by_table is_cached outside target
  plan-table e = rw e

  pub plan-cached : (k : Result Place Refusal) → region ≡ Cached → k ≡ region_plan s words g Cached → k ≡ region_plan s words g region
  plan-cached k e f = rw e f

  module _ (p : Physical) (frame : ℕ) (e : region ≡ Uncached) (q : p ≡ physical_of g) (f : frame ≡ frame_of_physical p) where
    pub plan-above : s.uncached ≤ frame → Err Outside ≡ region_plan s words g region
    unfolding region_plan by_table is_cached outside target
    plan-above h =
        let z : frame_under g ≡ frame = rw q at (sym f) in
        rw (e, z, le-leb _ _ h)

    pub plan-memory : frame < s.uncached → Ok (Memory p) ≡ region_plan s words g region
    unfolding region_plan by_table is_cached outside target
    plan-memory h =
        let z : frame_under g ≡ frame = rw q at (sym f) in
        rw (e, z, lt-leb _ _ h, q)

-- number 3 is asked of an ordinary address, and of no other
module _ (tag : Pending) (region : Region) (ordinary : Bool) where
  pub waits-ordinary : region ≡ Ordinary → ordinary ≡ true → (ordinary && tag.set) ≡ waits tag region
  unfolding waits is_ordinary
  waits-ordinary e h = rw (e, h)

  pub waits-not : (region ≡ Ordinary → ⊥) → ordinary ≡ false → (ordinary && tag.set) ≡ waits tag region
  unfolding waits is_ordinary
  waits-not n h = rw h (go region n)
    where
      go : (x : Region) → (x ≡ Ordinary → ⊥) → false ≡ (is_ordinary x && tag.set)
      go Uncached n = refl
      go Cached n = refl
      go PageTable n = refl
      go Ordinary n = absurd (n refl)

-- numbers 2, 3 and 4
module _ (s : Shape) (words : List ℕ) (tag : Pending) (a : Access) (g : Global) where
  pub plan-beyond : global_end ≤ g.0 → Err OutOfRange ≡ supervisor_plan s words tag a g
  unfolding supervisor_plan by_table
  plan-beyond h = rw (le-ltb _ _ h)

  module _ (h : g.0 < global_end) (large : Bool) (v : large ≡ too_large a) where
    pub plan-value : large ≡ true → Err OutOfRange ≡ supervisor_plan s words tag a g
    unfolding supervisor_plan by_table
    plan-value n = rw (lt-ltb _ _ h, ← v, n)

    module _ (n : large ≡ false) (region : Region) (e : region ≡ region_of g) (w : Bool) (f : w ≡ waits tag region) where
      pub plan-waits : w ≡ true → Err TagState ≡ supervisor_plan s words tag a g
      unfolding supervisor_plan by_table
      plan-waits t = rw (lt-ltb _ _ h, ← v, n, ← e, ← f, t)

      module _ (al : Bool) (i : al ≡ aligned_to a.width g.0) (t : w ≡ false) where
        pub plan-unaligned : al ≡ false → Err Misaligned ≡ supervisor_plan s words tag a g
        unfolding supervisor_plan by_table
        plan-unaligned j = rw (lt-ltb _ _ h, ← v, n, ← e, ← f, t, ← i, j)

        pub plan-region : (k : Result Place Refusal) → al ≡ true → k ≡ region_plan s words g region → k ≡ supervisor_plan s words tag a g
        unfolding supervisor_plan by_table
        plan-region k j l = l ∙ rw (lt-ltb _ _ h, ← v, n, ← e, ← f, t, ← i, j)

-- what a plan that goes on says
refuse : ℕ → Result Place Refusal
refuse n = Err (refusal_of n)

line-unstopped : (h : Global) (n : ℕ) → refuse n ≡ Ok (Line h) → ⊥
unfolding refuse
line-unstopped h n k = let z : ◌≡◌ {A = ℕ} 0 1 = cc in omega arith

memory-unstopped : (p : Physical) (n : ℕ) → refuse n ≡ Ok (Memory p) → ⊥
unfolding refuse
memory-unstopped p n k = let z : ◌≡◌ {A = ℕ} 0 1 = cc in omega arith

module _ (s : Shape) (words : List ℕ) (g : Global) where
  region-passed : (region : Region) (x : Result Place Refusal) → ((n : ℕ) → refuse n ≡ x → ⊥) → region_plan s words g region ≡ x
      → (outside s (frame_under g) region ≡ false) × (target g region ≡ x)
  unfolding region_plan refuse
  region-passed region x other k =
      let k₁ = table-passed refuse 10 (is_cached region && word_in_use words (frame_under g)) _ _ x (other 10) k in
      let k₂ = table-passed refuse 12 (outside s (frame_under g) region) [] _ x (other 12) k₁.1 in
      (k₂.0, table-end refuse _ _ k₂.1)

  target-line : (region : Region) (h : Global) → target g region ≡ Ok (Line h) → g ≡ h
  unfolding target
  target-line Uncached h e = absurd (let z : ◌≡◌ {A = ℕ} 0 1 = cc in omega arith)
  target-line Cached h e = cc
  target-line PageTable h e = absurd (let z : ◌≡◌ {A = ℕ} 0 1 = cc in omega arith)
  target-line Ordinary h e = cc

  target-memory : (region : Region) (p : Physical) → outside s (frame_under g) region ≡ false → target g region ≡ Ok (Memory p)
      → (physical_of g ≡ p) × (frame_under g < s.uncached)
  unfolding target outside
  target-memory Uncached p o e = (cc, leb-false _ _ o)
  target-memory Cached p o e = absurd (let z : ◌≡◌ {A = ℕ} 0 1 = cc in omega arith)
  target-memory PageTable p o e = absurd (let z : ◌≡◌ {A = ℕ} 0 1 = cc in omega arith)
  target-memory Ordinary p o e = absurd (let z : ◌≡◌ {A = ℕ} 0 1 = cc in omega arith)

module _ (s : Shape) (words : List ℕ) (tag : Pending) (a : Access) (g : Global) where
  plan-passed : (x : Result Place Refusal) → ((n : ℕ) → refuse n ≡ x → ⊥) → supervisor_plan s words tag a g ≡ x
      → (aligned_to a.width g.0 ≡ true) × (region_plan s words g (region_of g) ≡ x)
  unfolding supervisor_plan refuse
  plan-passed x other k =
      let k₂ = table-passed refuse 2 (not (is_global g) || too_large a) _ _ x (other 2) k in
      let k₃ = table-passed refuse 3 (waits tag (region_of g)) _ _ x (other 3) k₂.1 in
      let k₄ = table-passed refuse 4 (not (aligned_to a.width g.0)) [] _ x (other 4) k₃.1 in
      (not-false (aligned_to a.width g.0) k₄.0, table-end refuse _ _ k₄.1)

  module _ (k : Result Place Refusal) (f : k ≡ supervisor_plan s words tag a g) where
    module _ (h : Global) (e : k ≡ Ok (Line h)) where
      line-passed : Aligned a.width h.0
      line-passed =
          let z = plan-passed (Ok (Line h)) (line-unstopped h) (sym f ∙ e) in
          let y = region-passed s words g (region_of g) (Ok (Line h)) (line-unstopped h) z.1 in
          rw (target-line s words g (region_of g) h y.1) at (aligned-inside a.width g.0 z.0)

      pub line-wide : Width a.width
      line-wide = line-passed.wide

      pub line-inside : InWord h.0 a.width
      line-inside = line-passed.in_word

    module _ (p : Physical) (e : k ≡ Ok (Memory p)) where
      memory-passed : Aligned a.width g.0
      memory-passed = aligned-inside a.width g.0 (plan-passed (Ok (Memory p)) (memory-unstopped p) (sym f ∙ e)).0

      pub memory-wide : Width a.width
      memory-wide = memory-passed.wide

      pub memory-in-word : InWord p.0 a.width
      memory-in-word =
          let z = region-passed s words g (region_of g) (Ok (Memory p)) (memory-unstopped p) (plan-passed (Ok (Memory p)) (memory-unstopped p) (sym f ∙ e)).1 in
          let x : g.0 % 2 ^ 32 ≡ p.0 = ap (λ (w : Physical). w.0) (target-memory s words g (region_of g) p z.0 z.1).0 in
          omega (arith, memory-passed.in_word)

      pub memory-inside : (slots r c m : List ℕ) (u : Uses) (t : Result Unit Refusal)
          → t ≡ fit (fits_shape s (length slots) (length words) (length r) (length c) (length m) (length u)) → t ≡ Ok tt → p.0 / 4 * 4 + 4 ≤ length m
      memory-inside slots r c m u t i h =
          let z = region-passed s words g (region_of g) (Ok (Memory p)) (memory-unstopped p) (plan-passed (Ok (Memory p)) (memory-unstopped p) (sym f ∙ e)).1 in
          let y = target-memory s words g (region_of g) p z.0 z.1 in
          let x : g.0 % 2 ^ 32 ≡ p.0 = ap (λ (w : Physical). w.0) y.0 in
          omega (arith, y.1, fitted-uncached s slots words r c m u t i h, fitted-memory s slots words r c m u t i h)
