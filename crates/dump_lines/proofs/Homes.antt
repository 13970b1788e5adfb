-- Rule 4: where no page has two frames, a line's own frame tells whether the line is at home.
use Rattle.std.specs.Prelude.{Option, Some, None}
use Prim.Native.Nat.{ℕ, ◌+◌, ◌*◌, ◌/◌, ◌%◌, ◌≤◌, ◌<◌}
use mathlib.Core.Path.{◌≡◌, ◌∙◌, sym, refl}
use mathlib.Core.Bool.{Bool, true, false, ◌&&◌, cond}
use mathlib.Core.List.{List}
use native.Mathlib.Omega.{arith}
use borrow.Author.Tests.{eq-eqb, eqb-true, le-leb, lt-leb, leb-true, lt-ltb}
use lib.Dec.{eqb, leb}
use lib.ListN.{length, get_or}
use Rattle.address.specs.Layout.{page_lines, prefix_lines}
use Rattle.address.specs.Addresses.{ordinary_page}
use Rattle.pages.specs.Pages.{names_page, word_writes, mapped_to, free_frame, direct_home, home_by, home_of}
use Rattle.board.specs.Homes.{at_line}
use Rattle.board.specs.Shapes.{max_frames}
use Rattle.board.specs.declared.Shape.{Shape}
use Rattle.board.specs.declared.Home.{Home}
use Rattle.board.proofs.Bools.{clash, and_left, and_right}
use Rattle.lines.specs.declared.Line.{Line}
use Rattle.page_laws.proofs.Maps.{word-names, ordinary-low, mapped-frame, mapped-nothing, mapped-home, Homed, direct, mapped, homed}
use Rattle.dump_pages.specs.Pages.{doubled_page}
use Rattle.dump_pages.proofs.Pages.{Once, pages_once}
use Rattle.dump_lines.specs.Lines.{same_bit, home_is, at_home}
use Rattle.dump_lines.specs.Tests.{own_frame, own_word, in_frame}

by-truth : (a b : Bool) → (a ≡ true → b ≡ true) → (b ≡ true → a ≡ true) → a ≡ b
by-truth true b f g = sym (f refl)
by-truth false true f g = g refl
by-truth false false f g = refl

both : (a b : Bool) → a ≡ true → b ≡ true → (a && b) ≡ true
both true b e f = f
both false b e f = e

same_bit_lem : (a b : Bool) → same_bit a b ≡ true → a ≡ b
same_bit_lem true b e = sym e
same_bit_lem false true e = clash false e refl
same_bit_lem false false e = refl

bit-same : (a : Bool) → same_bit a a ≡ true
bit-same true = refl
bit-same false = refl

pub home-is : (h : Option Home) (p : ℕ) (w : Bool) → home_is h p w ≡ true → h ≡ Some (at_line p w)
unfolding home_is
home-is (Some hm) p w e =
    let a : hm.line ≡ p = eqb-true hm.line p (and_left (eqb hm.line p) (same_bit hm.write w) e) in
    let b : hm.write ≡ w = same_bit_lem hm.write w (and_right (eqb hm.line p) (same_bit hm.write w) e) in rw (a, b)
home-is None p w e = clash false e refl

pub is_home : (h : Option Home) (p : ℕ) (w : Bool) → h ≡ Some (at_line p w) → home_is h p w ≡ true
unfolding home_is
is_home h p w e = rw (e, eq-eqb p p refl) (bit-same w)

-- the two tests by a line's own frame
abbrev ordinary_test : List ℕ → Line → Bool
ordinary_test words l =
    eqb (own_word words l % 2) 1 && (eqb (own_word words l / 4) (l.name / page_lines) && (eqb (l.name % page_lines) (l.physical % page_lines)
    && same_bit (word_writes (own_word words l)) l.write))

abbrev direct_test : List ℕ → Line → Bool
direct_test words l = eqb (own_word words l) 0 && (eqb l.name (prefix_lines + l.physical) && l.write)

-- ---- a line of an ordinary page

module _ (s : Shape) (words : List ℕ) (l : Line) (size : length words ≡ s.frames) (inside : l.physical < page_lines * s.frames)
    (once : Once s words) (o : ordinary_page (l.name / page_lines) ≡ true) where
  abbrev word : ℕ
  word = own_word words l

  page-home : s.uncached ≤ own_frame l → ordinary_test words l ≡ true → home_of s words l.name ≡ Some (at_line l.physical l.write)
  page-home u e₁ =
      let odd = eqb-true (word % 2) 1 (and_left (eqb (word % 2) 1) _ e₁) in
      let e₂ = and_right (eqb (word % 2) 1) _ e₁ in
      let page = eqb-true (word / 4) (l.name / page_lines) (and_left (eqb (word / 4) (l.name / page_lines)) _ e₂) in
      let e₃ = and_right (eqb (word / 4) (l.name / page_lines)) _ e₂ in
      let low = eqb-true (l.name % page_lines) (l.physical % page_lines) (and_left (eqb (l.name % page_lines) (l.physical % page_lines)) _ e₃) in
      let w = same_bit_lem (word_writes word) l.write (and_right (eqb (l.name % page_lines) (l.physical % page_lines)) _ e₃) in
      go (mapped_to s words (l.name / page_lines)) refl (word-names word (l.name / page_lines) page odd) low w
    where
      go : (found : Option ℕ) → mapped_to s words (l.name / page_lines) ≡ found → names_page word (l.name / page_lines) ≡ true
          → l.name % page_lines ≡ l.physical % page_lines → word_writes word ≡ l.write → home_of s words l.name ≡ Some (at_line l.physical l.write)
      go (Some g) e n low w =
          let m = mapped-frame s words (l.name / page_lines) g e in
          let q : g ≡ own_frame l = once (l.name / page_lines) g (own_frame l) o m.from (omega (arith, m.inside)) u (omega arith) m.names n in
          let p : g * page_lines + l.name % page_lines ≡ l.physical = omega arith in
          let v : word_writes (get_or words g 0) ≡ l.write = rw q w in
          mapped-home s words l.name g e ∙ rw (p, v)
      go None e n low w = clash _ n (mapped-nothing s words (l.name / page_lines) o e (own_frame l) u (omega arith))

  home-page : Homed s words l.name l.physical l.write → (s.uncached ≤ own_frame l) × (ordinary_test words l ≡ true)
  home-page (direct a b c d e f) = absurd (omega (arith, ordinary-low (l.name / page_lines) o))
  home-page (mapped a b c d e f h) = (
    c,
    both _ _ (eq-eqb (word % 2) 1 f) (both _ _ (eq-eqb (word / 4) (l.name / page_lines) e)
        (both _ _ (eq-eqb (l.name % page_lines) (l.physical % page_lines) (sym b)) (rw h (bit-same (word_writes word))))),
  )

-- ---- any other line: at home under prefix 1 only

module _ (s : Shape) (words : List ℕ) (l : Line) (few : s.frames ≤ max_frames) (inside : l.physical < page_lines * s.frames)
    (o : ordinary_page (l.name / page_lines) ≡ false) where
  direct-line : s.uncached ≤ own_frame l → get_or words (own_frame l) 0 ≡ 0 → l.name ≡ prefix_lines + l.physical → direct_home s words l.name ≡ Some (at_line l.physical true)
  unfolding direct_home free_frame
  direct-line u z n =
      let one : l.name / prefix_lines ≡ 1 = omega arith in
      let low : l.name % prefix_lines ≡ l.physical = omega arith in
      rw (one, low, le-leb s.uncached (own_frame l) u, lt-ltb (own_frame l) s.frames (omega arith), z)

  direct-home : s.uncached ≤ own_frame l → direct_test words l ≡ true → home_of s words l.name ≡ Some (at_line l.physical l.write)
  unfolding home_of home_by mapped_to
  direct-home u e =
      let z = eqb-true (own_word words l) 0 (and_left (eqb (own_word words l) 0) _ e) in
      let e₁ = and_right (eqb (own_word words l) 0) _ e in
      let n = eqb-true l.name (prefix_lines + l.physical) (and_left (eqb l.name (prefix_lines + l.physical)) _ e₁) in
      let w = and_right (eqb l.name (prefix_lines + l.physical)) _ e₁ in
      rw (o, w) (direct-line u z n)

  home-direct : Homed s words l.name l.physical l.write → (s.uncached ≤ own_frame l) × (direct_test words l ≡ true)
  home-direct (direct a b c d e f) = (c, both _ _ (eq-eqb (own_word words l) 0 e) (both _ _ (eq-eqb l.name (prefix_lines + l.physical) a) f))
  home-direct (mapped a b c d e f h) = clash _ a o

-- ---- the two as one test

module _ (s : Shape) (words : List ℕ) (l : Line) where
  pub frame-low : own_frame l < s.uncached → false ≡ in_frame s words l
  unfolding in_frame
  frame-low h = rw (lt-leb s.uncached (own_frame l) h)

  module _ (u : s.uncached ≤ own_frame l) (t : Bool) (o : t ≡ ordinary_page (l.name / page_lines)) where
    pub frame-page : (w r : Bool) → t ≡ true → w ≡ word_writes (own_word words l) → r ≡ same_bit w l.write
        → (eqb (own_word words l % 2) 1 && (eqb (own_word words l / 4) (l.name / page_lines) && (eqb (l.name % page_lines) (l.physical % page_lines) && r))) ≡ in_frame s words l
    unfolding in_frame
    frame-page w r h e q = rw (le-leb s.uncached (own_frame l) u, ← o, h, q, e)

    pub frame-direct : t ≡ false → (eqb (own_word words l) 0 && (eqb l.name (prefix_lines + l.physical) && l.write)) ≡ in_frame s words l
    unfolding in_frame
    frame-direct h = rw (le-leb s.uncached (own_frame l) u, ← o, h)

  module _ (size : length words ≡ s.frames) (few : s.frames ≤ max_frames) (inside : l.physical < page_lines * s.frames) (d : doubled_page s words ≡ None) where
    once : Once s words
    once = pages_once s words d

    frame-home : in_frame s words l ≡ true → home_of s words l.name ≡ Some (at_line l.physical l.write)
    unfolding in_frame
    frame-home e = go (ordinary_page (l.name / page_lines)) refl (leb-true s.uncached (own_frame l) (and_left (leb s.uncached (own_frame l)) _ e)) (and_right (leb s.uncached (own_frame l)) _ e)
      where
        go : (t : Bool) → ordinary_page (l.name / page_lines) ≡ t → s.uncached ≤ own_frame l
            → cond t (ordinary_test words l) (direct_test words l) ≡ true
            → home_of s words l.name ≡ Some (at_line l.physical l.write)
        go true o u h = page-home s words l size inside once o u h
        go false o u h = direct-home s words l few inside o u h

    home-frame : home_of s words l.name ≡ Some (at_line l.physical l.write) → in_frame s words l ≡ true
    unfolding in_frame
    home-frame e = go (ordinary_page (l.name / page_lines)) refl (homed s words l.name l.physical l.write e)
      where
        go : (t : Bool) → ordinary_page (l.name / page_lines) ≡ t → Homed s words l.name l.physical l.write
            → (leb s.uncached (own_frame l) && cond t (ordinary_test words l) (direct_test words l)) ≡ true
        go true o h = let r = home-page s words l size inside once o h in both _ _ (le-leb s.uncached (own_frame l) r.0) r.1
        go false o h = let r = home-direct s words l few inside o h in both _ _ (le-leb s.uncached (own_frame l) r.0) r.1

    pub frame-tells : in_frame s words l ≡ at_home (home_of s words) l
    unfolding at_home
    frame-tells = by-truth _ _ (λ y. is_home _ _ _ (frame-home y)) (λ y. home-frame (home-is (home_of s words l.name) l.physical l.write y))
