-- What an address's region says of the address, and that a name under prefix 1 is reached where rows 10 and 12 do not apply.
use Rattle.std.specs.Prelude.{Option, Some, None}
use Prim.Native.Nat.{ℕ, ◌/◌, ◌%◌, ◌<◌}
use mathlib.Core.Path.{◌≡◌, refl, sym, ap}
use mathlib.Core.Bool.{Bool, true, false, cond}
use mathlib.Core.List.{List}
use native.Mathlib.Omega.{arith}
use lib.ListN.{get_or}
use lib.Dec.{eqb, leb, ltb}
use borrow.Author.Tests.{leb-false, ltb-false, eqb-true, eqb-false, not-false, lt-ltb, le-leb, lt-leb}
use Rattle.address.specs.Layout.{table_bytes, table_index, prefix_lines, global_end, first_page, last_page}
use Rattle.address.specs.Addresses.{region_of, prefix_of, name_of, page_of, page_of_name, ordinary_page}
use Rattle.address.specs.declared.Global.{Global}
use Rattle.address.specs.declared.Region.TheVariants.{Uncached, Cached, PageTable, Ordinary}
use Rattle.pages.specs.Pages.{mapped_to, direct_frame, free_frame, home_of}
use Rattle.board.specs.Homes.{at_line}
use Rattle.board.specs.declared.Shape.{Shape}
use Rattle.board.specs.declared.Home.{Home}
use Rattle.board.proofs.Bools.{or-false}
use Rattle.pages.proofs.Frames.{mapped-none, direct-some, home-direct}
use Rattle.reach.specs.Reach.{way_by_home, way_by, way_of, unreached}
use Rattle.lines.specs.Holds.{holder_of}
use Rattle.machine.specs.Refusals.{word_in_use, outside}
use Rattle.machine.specs.Accesses.{way_to, frame_under}

-- ---- regions

pick-cached : (x y z : Bool) → cond x Uncached (cond y Cached (cond z PageTable Ordinary)) ≡ Cached → y ≡ true
pick-cached true y z e = absurd (let w : ◌≡◌ {A = ℕ} 0 1 = cc in omega arith)
pick-cached false true z e = refl
pick-cached false false true e = absurd (let w : ◌≡◌ {A = ℕ} 0 1 = cc in omega arith)
pick-cached false false false e = absurd (let w : ◌≡◌ {A = ℕ} 0 1 = cc in omega arith)

pick-ordinary : (x y z : Bool) → cond x Uncached (cond y Cached (cond z PageTable Ordinary)) ≡ Ordinary → (x ≡ false) × (y ≡ false) × (z ≡ false)
pick-ordinary true y z e = absurd (let w : ◌≡◌ {A = ℕ} 0 1 = cc in omega arith)
pick-ordinary false true z e = absurd (let w : ◌≡◌ {A = ℕ} 0 1 = cc in omega arith)
pick-ordinary false false true e = absurd (let w : ◌≡◌ {A = ℕ} 0 1 = cc in omega arith)
pick-ordinary false false false e = (refl, refl, refl)

module _ (g : Global) where
  pub region-cached : region_of g ≡ Cached → prefix_of g ≡ 1
  unfolding region_of
  region-cached e = eqb-true _ _ (pick-cached (eqb (prefix_of g) 0) (eqb (prefix_of g) 1) (eqb (g.0 / table_bytes) table_index) e)

  pub region-ordinary : region_of g ≡ Ordinary → g.0 < global_end → ordinary_page (page_of g) ≡ true
  unfolding region_of
  region-ordinary e b =
      let k = pick-ordinary (eqb (prefix_of g) 0) (eqb (prefix_of g) 1) (eqb (g.0 / table_bytes) table_index) e in
      let x : prefix_of g ≡ 0 → ⊥ = eqb-false _ _ k.0 in
      let y : prefix_of g ≡ 1 → ⊥ = eqb-false _ _ k.1 in
      let z : g.0 / table_bytes ≡ table_index → ⊥ = eqb-false _ _ k.2 in
      rw (le-leb first_page (page_of g) (omega arith), le-leb (page_of g) last_page (omega arith))

-- ---- a name under prefix 1

module _ (s : Shape) (words : List ℕ) (g : Global) (p : prefix_of g ≡ 1) where
  -- its page is not ordinary, so the page map is not asked
  prefix-unmapped : None ≡ mapped_to s words (page_of_name (name_of g))
  prefix-unmapped = mapped-none s words (page_of_name (name_of g)) false (rw (lt-leb first_page (page_of_name (name_of g)) (omega arith))) refl

  prefix-free : word_in_use words (frame_under g) ≡ false → outside s (frame_under g) Cached ≡ false → free_frame s words (direct_frame (name_of g)) ≡ true
  unfolding outside free_frame
  prefix-free u o =
      let z : direct_frame (name_of g) ≡ frame_under g = omega arith in
      let y = or-false (leb s.frames (frame_under g)) (ltb (frame_under g) s.uncached) o in
      rw (z, le-leb s.uncached (frame_under g) (ltb-false _ _ y.1), lt-ltb (frame_under g) s.frames (leb-false _ _ y.0), not-false (eqb (get_or words (frame_under g) 0) 0) u)

  pub prefix-home : word_in_use words (frame_under g) ≡ false → outside s (frame_under g) Cached ≡ false
      → Some (at_line (name_of g % prefix_lines) true) ≡ home_of s words (name_of g)
  prefix-home u o =
      home-direct s words (name_of g) None prefix-unmapped _ refl
      (direct-some s words (name_of g) true (sym (prefix-free u o)) (omega arith) refl)

  module _ (records : List ℕ) (u : word_in_use words (frame_under g) ≡ false) (o : outside s (frame_under g) Cached ≡ false) where
    found-reached : (found : Option ℕ) → unreached (way_by records (home_of s words (name_of g)) found) ≡ false
    unfolding way_by unreached way_by_home
    found-reached (Some i) = refl
    found-reached None = ap (λ (h : Option Home). unreached (way_by_home h)) (sym (prefix-home u o))

    pub prefix-reached : unreached (way_to s words records g) ≡ false
    unfolding way_of
    prefix-reached = found-reached (holder_of s records (name_of g))
