-- The page of a frame, read off its word; and what the search for a doubled page tells.
use Rattle.std.specs.Prelude.{Option, None}
use Prim.Native.Nat.{ℕ, ◌/◌, ◌%◌, ◌≤◌, ◌<◌}
use mathlib.Core.Path.{◌≡◌, ◌∙◌, sym, refl}
use mathlib.Core.Logic.{◌≢◌}
use mathlib.Core.Bool.{Bool, true, false, ◌&&◌, cond}
use mathlib.Core.List.{List}
use native.Mathlib.Omega.{arith}
use borrow.Author.Tests.{eq-eqb, ne_eqb, eqb-true, le-leb, lt-leb, leb-true}
use lib.Dec.{eqb, leb}
use lib.ListN.{length, get_or}
use Rattle.address.specs.Addresses.{ordinary_page}
use Rattle.pages.specs.Pages.{names_page}
use Rattle.board.specs.Searches.{first}
use Rattle.board.specs.declared.Shape.{Shape}
use Rattle.board.proofs.Bools.{and_left, and_right}
use Rattle.page_laws.proofs.Maps.{names-word, word-names, ordinary-low}
use Rattle.doubles.specs.Doubles.{repeats, keys_of}
use Rattle.doubles.proofs.Keys.{searched, none-twice, twice-none}
use Rattle.dump_pages.specs.Pages.{page_in, page_at, doubled_page}

module _ (s : Shape) (words : List ℕ) (f : ℕ) where
  pub page-low : f < s.uncached → 0 ≡ page_at s words f
  unfolding page_at
  page-low h = rw (lt-leb s.uncached f h)

  module _ (h : s.uncached ≤ f) where
    pub page-even : (get_or words f 0 % 2 ≡ 1 → ⊥) → 0 ≡ page_at s words f
    unfolding page_at page_in
    page-even n = rw (le-leb s.uncached f h, ne_eqb (get_or words f 0 % 2) 1 n)

    module _ (e : get_or words f 0 % 2 ≡ 1) (t : Bool) (o : t ≡ ordinary_page (get_or words f 0 / 4)) where
      pub page-some : t ≡ true → get_or words f 0 / 4 ≡ page_at s words f
      unfolding page_at page_in
      page-some q = rw (le-leb s.uncached f h, eq-eqb (get_or words f 0 % 2) 1 e, ← o, q)

      pub page-other : t ≡ false → 0 ≡ page_at s words f
      unfolding page_at page_in
      page-other q = rw (le-leb s.uncached f h, eq-eqb (get_or words f 0 % 2) 1 e, ← o, q)

pub doubled-page-by : (s : Shape) (words keys : List ℕ) (n : ℕ) (r : Option ℕ) → keys ≡ keys_of (page_at s words) n → n ≡ s.frames
    → r ≡ first (repeats keys) 0 (length keys) → r ≡ doubled_page s words
unfolding doubled_page
doubled-page-by s words keys n r e q h = searched (page_at s words) keys n s.frames r e q h

-- ---- what the page of a frame says of its word

pub if-key : (t : Bool) (a : ℕ) → cond t a 0 ≢ 0 → (t ≡ true) × (cond t a 0 ≡ a)
if-key true a n = (refl, refl)
if-key false a n = absurd (n refl)

module _ (s : Shape) (words : List ℕ) (f : ℕ) where
  pub page-names : page_at s words f ≢ 0
      → (s.uncached ≤ f) × (ordinary_page (page_at s words f) ≡ true) × (names_page (get_or words f 0) (page_at s words f) ≡ true)
  unfolding page_at page_in
  page-names n =
      let a = if-key (leb s.uncached f) _ n in
      let b = if-key (eqb (get_or words f 0 % 2) 1 && ordinary_page (get_or words f 0 / 4)) (get_or words f 0 / 4) (λ z. n (a.1 ∙ z)) in
      let p : page_at s words f ≡ get_or words f 0 / 4 = a.1 ∙ b.1 in (
        leb-true s.uncached f a.0,
        rw p (and_right (eqb (get_or words f 0 % 2) 1) _ b.0),
        rw p (word-names (get_or words f 0) (get_or words f 0 / 4) refl (eqb-true (get_or words f 0 % 2) 1 (and_left (eqb (get_or words f 0 % 2) 1) _ b.0))),
      )

  pub names-page : (page : ℕ) → s.uncached ≤ f → ordinary_page page ≡ true → names_page (get_or words f 0) page ≡ true → page_at s words f ≡ page
  unfolding page_at page_in
  names-page page h o n =
      let w = names-word (get_or words f 0) page n in
      rw (le-leb s.uncached f h, w.0, eq-eqb (get_or words f 0 % 2) 1 w.1, o)

-- no page has two frames from U up exactly if the search finds none
abbrev pub Once : Shape → List ℕ → Type 0
Once s words =
    (page f g : ℕ) → ordinary_page page ≡ true → s.uncached ≤ f → f < s.frames → s.uncached ≤ g → g < s.frames
    → names_page (get_or words f 0) page ≡ true → names_page (get_or words g 0) page ≡ true → f ≡ g

module _ (s : Shape) (words : List ℕ) where
  pub pages_once : doubled_page s words ≡ None → Once s words
  unfolding doubled_page
  pages_once e page f g o uf hf ug hg nf ng =
      let kf = names-page s words f page uf o nf in
      let kg = names-page s words g page ug o ng in
      none-twice (page_at s words) s.frames e f g hf hg (λ z. omega (arith, ordinary-low page o, kf, z)) (kf ∙ sym kg)

  pub once-pages : Once s words → doubled_page s words ≡ None
  unfolding doubled_page
  once-pages once = twice-none (page_at s words) s.frames (λ f g hf hg z q.
      let a = page-names s words f z in
      let b = page-names s words g (λ y. z (q ∙ y)) in
      once (page_at s words f) f g a.1 a.0 hf b.0 hg a.2 (rw q b.2))
