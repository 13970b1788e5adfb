-- The search over the frame words, and where a page and a line name lead.
use Rattle.std.specs.Prelude.{Option, Some, None}
use Prim.Native.Nat.{ℕ, zero, suc, ◌+◌, ◌*◌, ◌-◌, ◌/◌, ◌%◌, ◌^◌, ◌<◌, ◌≤◌}
use mathlib.Core.Bool.{Bool, true, false, not, ◌&&◌, cond}
use mathlib.Core.Path.{◌≡◌, ◌∙◌, sym, refl, ap}
use mathlib.Core.List.{List, [], ◌∷◌}
use native.Mathlib.Omega.{arith}
use native.Mathlib.Nat.{add-zero}
use native.Mathlib.Numerals.{add-one}
use lib.Dec.{eqb, leb, ltb}
use lib.ListN.{length, get_or, drop, drop_of_length-le, length-drop}
use lib.Seq.{drop-cons}
use borrow.Author.Tests.{eq-eqb, ne_eqb, ltb-true, ltb-false, leb-true}
use Rattle.address.specs.Layout.{page_lines, prefix_lines, page_end, first_page, last_page}
use Rattle.address.specs.Addresses.{page_of, name_of, physical_line_of, frame_of_physical, prefix_of, physical_of, in_frame, ordinary_page, page_of_name}
use Rattle.address.specs.declared.Global.{Global}
use Rattle.address.specs.declared.Physical.{Physical}
use Rattle.pages.specs.Pages.{names_page, word_writes, lowest_from, lowest_frame, mapped_to, free_frame, direct_frame, direct_home, line_in, home_by, home_of}
use Rattle.pages.specs.Scans.{NoneOf}
use Rattle.board.specs.Homes.{at_line}
use Rattle.board.proofs.Homes.{home-parts}
use Rattle.board.specs.declared.Shape.{Shape}
use Rattle.board.specs.declared.Home.{Home}
use Rattle.board.proofs.Bools.{and_left, and_right}

module _ (ws : List ℕ) (f page : ℕ) where
  pub low-1 : f < length ws → get_or ws f 0 ≡ page * 4 + 1 → lowest_from (drop f ws) f page ≡ Some f
  unfolding lowest_from
  low-1 h e = rw (drop-cons ws f 0) (simp (eq-eqb _ _ e))

  pub low-3 : f < length ws → (get_or ws f 0 ≡ page * 4 + 1 → ⊥) → get_or ws f 0 ≡ page * 4 + 3 → lowest_from (drop f ws) f page ≡ Some f
  unfolding lowest_from
  low-3 h n e = rw (drop-cons ws f 0) (simp (ne_eqb _ _ n, eq-eqb _ _ e))

  pub low-next : f < length ws → (get_or ws f 0 ≡ page * 4 + 1 → ⊥) → (get_or ws f 0 ≡ page * 4 + 3 → ⊥)
      → lowest_from (drop f ws) f page ≡ lowest_from (drop (f + 1) ws) (f + 1) page
  unfolding lowest_from
  low-next h n m = rw (add-one, drop-cons ws f 0) (simp (ne_eqb _ _ n, ne_eqb _ _ m))

  pub low_end : length ws ≤ f → lowest_from (drop f ws) f page ≡ None
  unfolding lowest_from
  low_end h = rw drop_of_length-le

  pub low-beyond : length ws < f → None ≡ lowest_frame ws f page
  unfolding lowest_frame
  low-beyond h = sym (low_end (omega arith))

-- where so many words stand from f up, each of them is one of the words
module _ (f n : ℕ) (h : f ≤ n) (eight : 8 ≤ n - f) where
  pub eight-all : f + 8 ≤ n
  eight-all = omega arith

-- words that name other pages are passed
module _ (ws : List ℕ) (page : ℕ) where
  pub low-others : (n f : ℕ) → f + n ≤ length ws → NoneOf ws page f n → lowest_from (drop f ws) f page ≡ lowest_from (drop (f + n) ws) (f + n) page
  low-others zero f h o = rw add-zero refl
  low-others (suc n) f h o =
      let first = o f (omega arith) (omega arith) in
      let z : f + suc n ≡ f + 1 + n = omega arith in
      low-next ws f page (omega arith) (λ e. first (omega (arith, e))) (λ e. first (omega (arith, e)))
      ∙ rw z (low-others n (f + 1) (omega arith) (λ k low high. o k (omega arith) (omega arith)))

not-eq : (a b : ℕ) → not (eqb a b) ≡ true → a ≡ b → ⊥
not-eq a b e q = let z : ◌≡◌ {A = Bool} (eqb a b) true = eq-eqb a b q in let y : ◌≡◌ {A = ℕ} 0 1 = cc in omega arith

-- words that differ in some bits are not equal
pub other-bits : (word page : ℕ) → not (eqb (word / 4 % page_end) (page % page_end)) ≡ true → word / 4 ≡ page → ⊥
other-bits word page e q = not-eq (word / 4 % page_end) (page % page_end) e (ap (λ (x : ℕ). x % page_end) q)

-- the four tests at once, and two fours
module _ (ws : List ℕ) (page f : ℕ) where
  pub four-other : (a b c d : Bool) → (a ≡ true → get_or ws f 0 / 4 ≡ page → ⊥) → (b ≡ true → get_or ws (f + 1) 0 / 4 ≡ page → ⊥)
      → (c ≡ true → get_or ws (f + 2) 0 / 4 ≡ page → ⊥) → (d ≡ true → get_or ws (f + 3) 0 / 4 ≡ page → ⊥)
      → (a && (b && (c && d))) ≡ true → NoneOf ws page f 4
  four-other a b c d oa ob oc od e k low high = go (k - f) (omega arith) (omega arith)
    where
      eb : (b && (c && d)) ≡ true
      eb = and_right a _ e

      ec : (c && d) ≡ true
      ec = and_right b _ eb

      go : (j : ℕ) → k ≡ f + j → j < 4 → get_or ws k 0 / 4 ≡ page → ⊥
      go zero q h = let z : k ≡ f = omega arith in rw z (oa (and_left a _ e))
      go (suc zero) q h = let z : k ≡ f + 1 = omega arith in rw z (ob (and_left b _ eb))
      go (suc (suc zero)) q h = let z : k ≡ f + 2 = omega arith in rw z (oc (and_left c _ ec))
      go (suc (suc (suc zero))) q h = let z : k ≡ f + 3 = omega arith in rw z (od (and_right c _ ec))
      go (suc (suc (suc (suc j)))) q h = absurd (omega arith)

  pub eight-other : (low high : Bool) → (low ≡ true → NoneOf ws page f 4) → (high ≡ true → NoneOf ws page (f + 4) 4)
      → (low && high) ≡ true → NoneOf ws page f 8
  eight-other low high ol oh e k from to = go (ltb k (f + 4)) refl
    where
      go : (t : Bool) → ltb k (f + 4) ≡ t → get_or ws k 0 / 4 ≡ page → ⊥
      go true h = ol (and_left low _ e) k from (ltb-true k (f + 4) h)
      go false h = oh (and_right low _ e) k (ltb-false k (f + 4) h) (omega arith)

either : (b : Bool) (f g n : ℕ) (rest : Option ℕ) → cond b (Some f) rest ≡ Some g → (rest ≡ Some g → (suc f ≤ g) × (g < suc f + n)) → (f ≤ g) × (g < f + suc n)
either true f g n rest e r = let z : f ≡ g = cc in omega arith
either false f g n rest e r = let z = r e in omega arith

low-inside : (ws : List ℕ) (f page g : ℕ) → lowest_from ws f page ≡ Some g → (f ≤ g) × (g < f + length ws)
unfolding lowest_from
low-inside [] f page g e = let z : ◌≡◌ {A = ℕ} 0 1 = cc in omega arith
low-inside (w ∷ ws) f page g e = either (names_page w page) f g (length ws) (lowest_from ws (suc f) page) e (low-inside ws (suc f) page g)

-- what is mapped is ordinary, and found by the search
if-at : (t : Bool) (found : Option ℕ) (f : ℕ) → cond t found None ≡ Some f → (t ≡ true) × (found ≡ Some f)
if-at true found f e = (refl, e)
if-at false found f e = absurd (let z : ◌≡◌ {A = ℕ} 0 1 = cc in omega arith)

pub ordinary-below : (page : ℕ) (t : Bool) → t ≡ ordinary_page page → t ≡ true → page < 2 ^ 32
ordinary-below page t e h = omega (arith, leb-true page last_page (and_right (leb first_page page) _ (sym e ∙ h)))

module _ (s : Shape) (words : List ℕ) (page : ℕ) (t : Bool) (e : t ≡ ordinary_page page) where
  pub mapped-some : (found : Option ℕ) → t ≡ true → found ≡ lowest_frame words s.uncached page → found ≡ mapped_to s words page
  unfolding mapped_to
  mapped-some found h k = rw (← e, h, k)

  pub mapped-none : t ≡ false → None ≡ mapped_to s words page
  unfolding mapped_to
  mapped-none h = rw (← e, h)

module _ (s : Shape) (words : List ℕ) (page f : ℕ) (found : Option ℕ) (e : found ≡ mapped_to s words page) (k : found ≡ Some f) where
  mapped : (ordinary_page page ≡ true) × (lowest_frame words s.uncached page ≡ Some f)
  unfolding mapped_to
  mapped = if-at (ordinary_page page) (lowest_frame words s.uncached page) f (sym e ∙ k)

  pub mapped-ordinary : ordinary_page page ≡ true
  mapped-ordinary = mapped.0

  mapped-bounds : (s.uncached ≤ f) × (f < s.uncached + length (drop s.uncached words))
  unfolding lowest_frame
  mapped-bounds = low-inside (drop s.uncached words) s.uncached page f mapped.1

  pub mapped-from : s.uncached ≤ f
  mapped-from = mapped-bounds.0

  pub mapped-inside : f < length words
  mapped-inside = let z = mapped-bounds in omega (arith, length-drop s.uncached words)

module _ (s : Shape) (words : List ℕ) (name : ℕ) where
  pub direct-some : (t : Bool) → t ≡ free_frame s words (direct_frame name) → name / prefix_lines ≡ 1 → t ≡ true
      → Some (at_line (name % prefix_lines) true) ≡ direct_home s words name
  unfolding direct_home
  direct-some t e p h = rw (eq-eqb _ _ p, ← e, h)

  pub direct-used : (t : Bool) → t ≡ free_frame s words (direct_frame name) → name / prefix_lines ≡ 1 → t ≡ false → None ≡ direct_home s words name
  unfolding direct_home
  direct-used t e p h = rw (eq-eqb _ _ p, ← e, h)

  pub direct-other : (name / prefix_lines ≡ 1 → ⊥) → None ≡ direct_home s words name
  unfolding direct_home
  direct-other p = rw (ne_eqb _ _ p)

  module _ (found : Option ℕ) (e : found ≡ mapped_to s words (page_of_name name)) where
    home_by_lem : home_by s words name found ≡ home_of s words name
    unfolding home_of
    home_by_lem = rw e

    pub home_at : (f : ℕ) (write : Bool) → found ≡ Some f → write ≡ word_writes (get_or words f 0)
        → Some (at_line (f * page_lines + name % page_lines) write) ≡ home_of s words name
    unfolding home_by
    home_at f write k w = ap (λ (x : Bool). Some (at_line (f * page_lines + name % page_lines) x)) w ∙ ap (home_by s words name) (sym k) ∙ home_by_lem

    pub home-direct : (home : Option Home) → found ≡ None → home ≡ direct_home s words name → home ≡ home_of s words name
    unfolding home_by
    home-direct home k d = d ∙ ap (home_by s words name) (sym k) ∙ home_by_lem

-- the parts of an address are those of its line's name: its page, its prefix, and below prefix 1 its line and frame
module _ (g : Global) where
  name-page : page_of_name (name_of g) ≡ page_of g
  name-page = omega arith

  name-prefix : name_of g / prefix_lines ≡ prefix_of g
  name-prefix = omega arith

  name-line : name_of g % prefix_lines ≡ physical_line_of (physical_of g)
  name-line = omega arith

  name-frame : direct_frame (name_of g) ≡ frame_of_physical (physical_of g)
  name-frame = omega arith

  -- the physical line of an address in a frame is its name's line there
  line_in_frame : (frame : ℕ) → physical_line_of (in_frame frame g) ≡ line_in frame (name_of g)
  line_in_frame frame = omega arith

-- the same of an address, one law a return of direct_home and of home_of: q is its prefix, p its physical address
module _ (s : Shape) (words : List ℕ) (g : Global) where
  module _ (q : ℕ) (e : q ≡ prefix_of g) where
    module _ (p : Physical) (t : Bool) (frame : ℕ) (h : p ≡ physical_of g) (i : frame ≡ frame_of_physical p) (k : t ≡ free_frame s words frame) (one : q ≡ 1) where
      free : t ≡ free_frame s words (direct_frame (name_of g))
      free = k ∙ ap (free_frame s words) (i ∙ ap frame_of_physical h ∙ sym (name-frame g))

      pub address-direct-free : (line : ℕ) → line ≡ physical_line_of p → t ≡ true → Some (at_line line true) ≡ direct_home s words (name_of g)
      address-direct-free line l m =
          ap (λ (x : ℕ). Some (at_line x true)) (l ∙ ap physical_line_of h ∙ sym (name-line g)) ∙ direct-some s words (name_of g) t free (name-prefix g ∙ sym e ∙ one) m

      pub address-direct-used : t ≡ false → None ≡ direct_home s words (name_of g)
      address-direct-used = direct-used s words (name_of g) t free (name-prefix g ∙ sym e ∙ one)

    pub address-direct-other : (q ≡ 1 → ⊥) → None ≡ direct_home s words (name_of g)
    address-direct-other n = direct-other s words (name_of g) (λ z. n (e ∙ sym (name-prefix g) ∙ z))

  module _ (page : ℕ) (found : Option ℕ) (o : page ≡ page_of g) (e : found ≡ mapped_to s words page) where
    mapped-name : found ≡ mapped_to s words (page_of_name (name_of g))
    mapped-name = e ∙ ap (mapped_to s words) (o ∙ sym (name-page g))

    pub address-home-at : (f : ℕ) (p : Physical) (line : ℕ) (write : Bool) → found ≡ Some f → p ≡ in_frame f g → line ≡ physical_line_of p
        → write ≡ word_writes (get_or words f 0) → Some (at_line line write) ≡ home_of s words (name_of g)
    address-home-at f p line write k h l w =
        ap (λ (x : ℕ). Some (at_line x write)) (l ∙ ap physical_line_of h ∙ line_in_frame g f) ∙ home_at s words (name_of g) found mapped-name f write k w

    pub address-home-direct : (home : Option Home) → found ≡ None → home ≡ direct_home s words (name_of g) → home ≡ home_of s words (name_of g)
    address-home-direct = home-direct s words (name_of g) found mapped-name

-- a line under a test is that line, and the test passed
pub if-line : (t : Bool) (m line : ℕ) (write : Bool) → cond t (Some (at_line m true)) None ≡ Some (at_line line write) → (t ≡ true) × ((m ≡ line) × (write ≡ true))
if-line true m line write e = let z = home-parts e in (refl, (z.0, sym z.1))
if-line false m line write e = absurd (let z : ◌≡◌ {A = ℕ} 0 1 = cc in omega arith)

module _ (s : Shape) (words : List ℕ) (name line : ℕ) (write : Bool) where
  direct-inside : direct_home s words name ≡ Some (at_line line write) → line < 256 * s.frames
  unfolding direct_home free_frame
  direct-inside e =
      let z = if-line (eqb (name / prefix_lines) 1 && free_frame s words (direct_frame name)) (name % prefix_lines) line write e in
      let a = and_right (eqb (name / prefix_lines) 1) (free_frame s words (direct_frame name)) z.0 in
      let b = and_right (leb s.uncached (direct_frame name)) _ a in
      let d = ltb-true (direct_frame name) s.frames (and_left (ltb (direct_frame name) s.frames) _ b) in
      omega (arith, d, z.1.0)

  by-inside : (found : Option ℕ) → ((f : ℕ) → found ≡ Some f → f < s.frames) → home_by s words name found ≡ Some (at_line line write) → line < 256 * s.frames
  unfolding home_by
  by-inside (Some f) at e = let z = home-parts e in omega (arith, z.0, at f refl)
  by-inside None at e = direct-inside e

pub home-inside : (s : Shape) (words : List ℕ) (name line : ℕ) (write : Bool) (home : Option Home) → home ≡ home_of s words name → home ≡ Some (at_line line write)
    → length words ≡ s.frames → line < 256 * s.frames
unfolding home_of
home-inside s words name line write home e k n =
    by-inside s words name line write (mapped_to s words (page_of_name name))
    (λ f at. rw n at (mapped-inside s words (page_of_name name) f _ refl at)) (sym e ∙ k)
