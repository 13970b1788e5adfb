-- The ways to a line, and where they lead.
use Rattle.std.specs.Prelude.{Option, Some, None}
use Prim.Native.Nat.{ℕ, ◌*◌, ◌<◌}
use mathlib.Core.Path.{◌≡◌, ◌∙◌, refl, sym, ap}
use mathlib.Core.Bool.{Bool}
use mathlib.Core.List.{List}
use native.Mathlib.Omega.{arith}
use lib.ListN.{length}
use Rattle.address.specs.Addresses.{name_of}
use Rattle.address.specs.declared.Global.{Global}
use Rattle.pages.specs.Pages.{home_of}
use Rattle.board.specs.Homes.{at_line}
use Rattle.board.proofs.Homes.{home-made}
use Rattle.board.specs.declared.Shape.{Shape}
use Rattle.board.specs.declared.Home.{Home}
use Rattle.pages.proofs.Frames.{home-inside}
use Rattle.lines.specs.Records.{line_at}
use Rattle.lines.specs.Holds.{holder_of}
use Rattle.reach.specs.Reach.{way_by_home, way_by, way_of}
use Rattle.lines.specs.declared.Line.{Line}
use Rattle.reach.specs.declared.Way.{Way}
use Rattle.reach.specs.declared.Way.TheVariants.{Held, InMemory}
use Rattle.lines.specs.Premises.{Lined}
use Rattle.lines.proofs.Sets.{holder-inside}

-- one law a return of way_to: `name` is the address's line name
module _ (s : Shape) (words records : List ℕ) (g : Global) (name : ℕ) (found : Option ℕ) (q : name ≡ name_of g) (e : found ≡ holder_of s records name) where
  way_by_lem : way_by records (home_of s words (name_of g)) found ≡ way_of s words records (name_of g)
  unfolding way_of
  way_by_lem = ap (way_by records (home_of s words (name_of g))) (e ∙ ap (holder_of s records) q)

  pub way_at : (i : ℕ) (l : Line) → found ≡ Some i → l ≡ line_at records i → Some (Held i l.write) ≡ way_of s words records (name_of g)
  unfolding way_by
  way_at i l k h = rw h (ap (way_by records (home_of s words (name_of g))) (sym k) ∙ way_by_lem)

  module _ (home : Option Home) (n : found ≡ None) (h : home ≡ home_of s words (name_of g)) where
    way_home : way_by_home home ≡ way_of s words records (name_of g)
    unfolding way_by
    way_home = rw h (ap (way_by records (home_of s words (name_of g))) (sym n) ∙ way_by_lem)

    pub way-line : (h : Home) → home ≡ Some h → Some (InMemory h.line h.write) ≡ way_of s words records (name_of g)
    unfolding way_by_home
    way-line h k = ap way_by_home (sym k) ∙ way_home

    pub way-nowhere : home ≡ None → None ≡ way_of s words records (name_of g)
    unfolding way_by_home
    way-nowhere k = ap way_by_home (sym k) ∙ way_home

-- where a way leads
home-way : (home : Option Home) (line : ℕ) (write : Bool) → way_by_home home ≡ Some (InMemory line write) → home ≡ Some (at_line line write)
unfolding way_by_home
home-way (Some hm) line write e =
    let l : hm.line ≡ line = cc in
    let w : hm.write ≡ write = cc in home-made hm line write l w
home-way None line write e = absurd (let z : ◌≡◌ {A = ℕ} 0 1 = cc in omega arith)

home-unheld : (home : Option Home) (i : ℕ) (write : Bool) → way_by_home home ≡ Some (Held i write) → ⊥
unfolding way_by_home
home-unheld (Some hm) i write e = let z : ◌≡◌ {A = ℕ} 0 1 = cc in omega arith
home-unheld None i write e = let z : ◌≡◌ {A = ℕ} 0 1 = cc in omega arith

module _ (records : List ℕ) (home : Option Home) where
  way-mapped : (found : Option ℕ) (line : ℕ) (write : Bool) → way_by records home found ≡ Some (InMemory line write) → home ≡ Some (at_line line write)
  unfolding way_by
  way-mapped (Some i) line write e = absurd (let z : ◌≡◌ {A = ℕ} 0 1 = cc in omega arith)
  way-mapped None line write e = home-way home line write e

  pub way-holder : (found : Option ℕ) (i : ℕ) (write : Bool) → way_by records home found ≡ Some (Held i write) → found ≡ Some i
  unfolding way_by
  way-holder (Some j) i write e = cc
  way-holder None i write e = absurd (home-unheld home i write e)

pub way-inside : (s : Shape) (words records : List ℕ) (name line : ℕ) (write : Bool) (w : Option Way) → w ≡ way_of s words records name → w ≡ Some (InMemory line write)
    → length words ≡ s.frames → line < 256 * s.frames
unfolding way_of
way-inside s words records name line write w e k n =
    home-inside s words name line write (home_of s words name) refl
    (way-mapped records (home_of s words name) (holder_of s records name) line write (sym e ∙ k)) n

module _ (s : Shape) (words records : List ℕ) (name i : ℕ) (write : Bool) (w : Option Way) (e : w ≡ way_of s words records name) (k : w ≡ Some (Held i write)) where
  pub way-held-by : holder_of s records name ≡ Some i
  unfolding way_of
  way-held-by = way-holder records (home_of s words name) (holder_of s records name) i write (sym e ∙ k)

  pub way-held : Lined s → i < s.lines
  way-held l = holder-inside s records name i (holder_of s records name) refl way-held-by l
