-- The page map: what words name, the frame of a page, where a name leads, that no two names share a home, and what a changed
-- frame word leaves alone. Stands on `board`'s Searches and on the map laws of `pages`.
use Rattle.std.specs.Prelude.{Option, Some, None}
use Prim.Native.Nat.{ℕ, zero, suc, ◌+◌, ◌*◌, ◌-◌, ◌/◌, ◌%◌, ◌≤◌, ◌<◌}
use mathlib.Core.Logic.{◌≢◌}
use mathlib.Core.Path.{◌≡◌, refl, sym, ap, ◌∙◌}
use mathlib.Core.Bool.{Bool, true, false, not, ◌&&◌, ◌||◌, cond}
use mathlib.Core.List.{List}
use native.Mathlib.Omega.{arith}
use lib.Dec.{eqb, leb, ltb}
use lib.ListN.{length, get_or, set, drop, drop_of_length-le, length-set}
use lib.Seq.{drop-cons, get_or-set_same, get_or-set_other}
use borrow.Author.Tests.{eqb-true, eqb-false, ltb-true, leb-true, eq-eqb, ne_eqb}
use Rattle.address.specs.Layout.{first_page, page_lines, prefix_lines}
use Rattle.address.specs.Addresses.{ordinary_page}
use Rattle.pages.specs.Pages.{frame_word, names_page, word_writes, lowest_from, lowest_frame, mapped_to, free_frame, direct_home, home_by, home_of}
use Rattle.board.specs.Homes.{at_line}
use Rattle.board.specs.declared.Shape.{Shape}
use Rattle.board.proofs.Bools.{clash, and_left, and_right}
use Rattle.board.proofs.Homes.{home-parts}
use Rattle.pages.proofs.Frames.{mapped-ordinary, home_at, home-direct, direct-other, home-inside, if-line}
use Rattle.machine.specs.Refusals.{is_mapped}
use Rattle.machine.specs.Calls.{found_frame}
use Rattle.store_laws.proofs.Sim.{Homes}
use Rattle.board.specs.Searches.{first}
use Rattle.board.proofs.Searches.{first-at, first-nothing, first-same, first-hit}

-- ---- words

-- a word names a page if its page is that one and it is odd
module _ (w page : ℕ) where
  pub names-word : names_page w page ≡ true → (w / 4 ≡ page) × (w % 2 ≡ 1)
  names-word h = go (eqb w (page * 4 + 1)) refl h
    where
      go : (t : Bool) → eqb w (page * 4 + 1) ≡ t → (t || eqb w (page * 4 + 3)) ≡ true → (w / 4 ≡ page) × (w % 2 ≡ 1)
      go true t h = let a = eqb-true w (page * 4 + 1) t in (omega arith, omega arith)
      go false t h = let a = eqb-true w (page * 4 + 3) h in (omega arith, omega arith)

  pub word-names : w / 4 ≡ page → w % 2 ≡ 1 → names_page w page ≡ true
  word-names a b = go (eqb w (page * 4 + 1)) refl
    where
      go : (t : Bool) → eqb w (page * 4 + 1) ≡ t → (t || eqb w (page * 4 + 3)) ≡ true
      go true t = refl
      go false t = let n = eqb-false w (page * 4 + 1) t in eq-eqb w (page * 4 + 3) (omega arith)

  pub word-names-not : (w / 4 ≡ page → w % 2 ≡ 1 → ⊥) → names_page w page ≡ false
  word-names-not h = go (names_page w page) refl
    where
      go : (t : Bool) → names_page w page ≡ t → t ≡ false
      go true t = let b = names-word t in absurd (h b.0 b.1)
      go false t = refl

module _ (page : ℕ) where
  pub frame-word-page : (write : Bool) → frame_word page write / 4 ≡ page
  frame-word-page true = omega arith
  frame-word-page false = omega arith

  frame-word-odd : (write : Bool) → frame_word page write % 2 ≡ 1
  frame-word-odd true = omega arith
  frame-word-odd false = omega arith

  pub frame-word-writes : (write : Bool) → word_writes (frame_word page write) ≡ write
  frame-word-writes true = eq-eqb ((page * 4 + 2 * 1 + 1) / 2 % 2) 1 (omega arith)
  frame-word-writes false = ne_eqb ((page * 4 + 2 * 0 + 1) / 2 % 2) 1 (omega arith)

  pub frame-word-names : (write : Bool) → names_page (frame_word page write) page ≡ true
  frame-word-names write = word-names (frame_word page write) page (frame-word-page write) (frame-word-odd write)

  pub ordinary-low : ordinary_page page ≡ true → 0x200000 ≤ page
  ordinary-low h = leb-true _ _ (and_left (leb first_page page) _ h)

-- ---- the frame of a page

abbrev names : List ℕ → ℕ → ℕ → Bool
names words page f = names_page (get_or words f 0) page

-- the search, by the frames' numbers
lowest-first : (words : List ℕ) (page f n : ℕ) → n ≡ length words - f → lowest_from (drop f words) f page ≡ first (names words page) f n
unfolding lowest_from first
lowest-first words page f zero h = let a : length words ≤ f = omega arith in rw drop_of_length-le
lowest-first words page f (suc n) h =
    let a : f < length words = omega arith in
    rw (drop-cons words f 0) (rw (lowest-first words page (suc f) n (omega arith)))

-- what is mapped: an ordinary page, to a frame from U up whose word names it
pub record Mapped (s : Shape) (words : List ℕ) (page f : ℕ) : Type 0 where
  pub ordinary : ordinary_page page ≡ true
  pub from : s.uncached ≤ f
  pub inside : f < length words
  pub names : names_page (get_or words f 0) page ≡ true
  pub page_is : get_or words f 0 / 4 ≡ page
  pub odd : get_or words f 0 % 2 ≡ 1

module _ (s : Shape) (words : List ℕ) (page : ℕ) where
  abbrev search : Option ℕ
  search = first (names words page) s.uncached (length words - s.uncached)

  mapped-search : mapped_to s words page ≡ cond (ordinary_page page) search None
  unfolding mapped_to lowest_frame
  mapped-search = rw (lowest-first words page s.uncached (length words - s.uncached) refl)

  ordinary-search : ordinary_page page ≡ true → mapped_to s words page ≡ search
  ordinary-search o = mapped-search ∙ rw o

  pub mapped-frame : (f : ℕ) → mapped_to s words page ≡ Some f → Mapped s words page f
  mapped-frame f h =
      let o = mapped-ordinary s words page f (mapped_to s words page) refl h in
      let g = first-at (names words page) s.uncached (length words - s.uncached) f (sym (ordinary-search o) ∙ h) in
      let n = names-word (get_or words f 0) page g.passes in
      record { ordinary = o; from = g.from; inside = omega arith; names = g.passes; page_is = n.0; odd = n.1 }

  -- no frame from U up names an ordinary page that is not mapped
  pub mapped-nothing : ordinary_page page ≡ true → mapped_to s words page ≡ None
      → (g : ℕ) → s.uncached ≤ g → g < length words → names_page (get_or words g 0) page ≡ false
  mapped-nothing o h g a b = first-nothing (names words page) s.uncached (length words - s.uncached) g (sym (ordinary-search o) ∙ h) a (omega arith)

-- what is found, by the test of rows 8 and 11
pub found_at : (found : Option ℕ) → not (is_mapped found) ≡ false → found ≡ Some (found_frame found)
unfolding is_mapped found_frame
found_at (Some f) h = refl
found_at None h = clash true refl h

pub found_nothing : (found : Option ℕ) → is_mapped found ≡ false → found ≡ None
unfolding is_mapped
found_nothing (Some f) h = clash true refl h
found_nothing None h = refl

-- the frame of a page after the word of a frame is changed
module _ (s : Shape) (words : List ℕ) (page f w : ℕ) (b : f < length words) where
  names-set : names_page (get_or words f 0) page ≡ false → names_page w page ≡ false → (a : ℕ) → names (set words f w) page a ≡ names words page a
  names-set x y a = go (eqb a f) refl
    where
      go : (t : Bool) → eqb a f ≡ t → names (set words f w) page a ≡ names words page a
      go true t = let q : a ≡ f = eqb-true a f t in rw (q, get_or-set_same words f w 0 b) (y ∙ sym x)
      go false t = rw (get_or-set_other words f a w 0 (eqb-false a f t))

  -- a word that did not name the page and does not name it now
  pub mapped-set : names_page (get_or words f 0) page ≡ false → names_page w page ≡ false → mapped_to s (set words f w) page ≡ mapped_to s words page
  mapped-set x y =
      mapped-search s (set words f w) page
      ∙ rw (length-set words f w, first-same (names words page) (names (set words f w) page) (names-set x y) s.uncached (length words - s.uncached))
      (sym (mapped-search s words page))

  -- the word of the page's frame, which still names it
  pub mapped-hit : names_page w page ≡ true → mapped_to s words page ≡ Some f → mapped_to s (set words f w) page ≡ Some f
  mapped-hit y h =
      let o = mapped-ordinary s words page f (mapped_to s words page) refl h in
      ordinary-search s (set words f w) page o
      ∙ rw (length-set words f w) (first-hit (names words page) (names (set words f w) page) f (rw (get_or-set_same words f w 0 b) y)
      (λ k n. rw (get_or-set_other words f k w 0 n)) s.uncached (length words - s.uncached) (sym (ordinary-search s words page o) ∙ h))

  -- a word that comes to name a page that had no frame
  pub mapped-new : ordinary_page page ≡ true → s.uncached ≤ f → names_page w page ≡ true → mapped_to s words page ≡ None → mapped_to s (set words f w) page ≡ Some f
  mapped-new o u n h = go (mapped_to s (set words f w) page) refl
    where
      go : (found : Option ℕ) → mapped_to s (set words f w) page ≡ found → found ≡ Some f
      go None e =
          clash _ n (rw (get_or-set_same words f w 0 b) at (mapped-nothing s (set words f w) page o e f u (rw (length-set words f w) b)))
      go (Some g) e = here (eqb g f) refl (mapped-frame s (set words f w) page g e)
        where
          here : (t : Bool) → eqb g f ≡ t → Mapped s (set words f w) page g → Some g ≡ Some f
          here true t m = ap Some (eqb-true g f t)
          here false t m =
              clash _ (rw (get_or-set_other words f g w 0 (eqb-false g f t)) at m.names)
              (mapped-nothing s words page o h g m.from (rw (length-set words f w) at m.inside))

  -- a word that names a page no more, where no other frame does
  pub mapped-lost : names_page w page ≡ false → ((g : ℕ) → Mapped s words page g → g ≡ f) → mapped_to s (set words f w) page ≡ None
  mapped-lost n only = go (mapped_to s (set words f w) page) refl
    where
      go : (found : Option ℕ) → mapped_to s (set words f w) page ≡ found → found ≡ None
      go None e = refl
      go (Some g) e = absurd (here (eqb g f) refl (mapped-frame s (set words f w) page g e))
        where
          here : (t : Bool) → eqb g f ≡ t → Mapped s (set words f w) page g → ⊥
          here true t m = let q : g ≡ f = eqb-true g f t in clash _ (rw (q, get_or-set_same words f w 0 b) at m.names) n
          here false t m =
              let e = get_or-set_other words f g w 0 (eqb-false g f t) in
              eqb-false g f t (only g (record {
                ordinary = m.ordinary;
                from = m.from;
                inside = rw (length-set words f w) at m.inside;
                names = rw e at m.names;
                page_is = rw e at m.page_is;
                odd = rw e at m.odd;
              }))

-- ---- the home of a name

module _ (s : Shape) (words : List ℕ) (name : ℕ) where
  pub mapped-home : (f : ℕ) → mapped_to s words (name / page_lines) ≡ Some f → home_of s words name ≡ Some (at_line (f * page_lines + name % page_lines) (word_writes (get_or words f 0)))
  mapped-home f h = sym (home_at s words name (Some f) (sym h) f _ refl refl)

  -- an ordinary page that is not mapped
  pub unmapped-home : ordinary_page (name / page_lines) ≡ true → mapped_to s words (name / page_lines) ≡ None → home_of s words name ≡ None
  unmapped-home o h =
      let l = ordinary-low (name / page_lines) o in
      sym (home-direct s words name None (sym h) None refl (direct-other s words name (omega arith)))

-- what a home says: the name is its physical line under prefix 1, of a free frame, or the word of a frame names the page
pub data Homed (s : Shape) (words : List ℕ) (n p : ℕ) (w : Bool) : Type 0 where
  direct : n ≡ prefix_lines + p → p < prefix_lines → s.uncached ≤ p / page_lines → p / page_lines < s.frames → get_or words (p / page_lines) 0 ≡ 0 → w ≡ true → Homed s words n p w
  mapped : ordinary_page (n / page_lines) ≡ true → p % page_lines ≡ n % page_lines → s.uncached ≤ p / page_lines → p / page_lines < length words
      → get_or words (p / page_lines) 0 / 4 ≡ n / page_lines → get_or words (p / page_lines) 0 % 2 ≡ 1 → w ≡ word_writes (get_or words (p / page_lines) 0) → Homed s words n p w

module _ (s : Shape) (words : List ℕ) (n p : ℕ) (w : Bool) where
  homed-direct : direct_home s words n ≡ Some (at_line p w) → Homed s words n p w
  unfolding direct_home free_frame
  homed-direct h =
      let z = if-line _ (n % prefix_lines) p w h in
      let one = eqb-true (n / prefix_lines) 1 (and_left (eqb (n / prefix_lines) 1) _ z.0) in
      let a = and_right (eqb (n / prefix_lines) 1) _ z.0 in
      let q = and_right (leb s.uncached (n % prefix_lines / page_lines)) _ a in
      let low = leb-true s.uncached (n % prefix_lines / page_lines) (and_left (leb s.uncached (n % prefix_lines / page_lines)) _ a) in
      let high = ltb-true (n % prefix_lines / page_lines) s.frames (and_left (ltb (n % prefix_lines / page_lines) s.frames) _ q) in
      let free = eqb-true (get_or words (n % prefix_lines / page_lines) 0) 0 (and_right (ltb (n % prefix_lines / page_lines) s.frames) _ q) in
      let e : n % prefix_lines ≡ p = z.1.0 in
      direct (omega arith) (omega arith) (rw e at low) (rw e at high) (rw e at free) z.1.1

  homed-by : (found : Option ℕ) → mapped_to s words (n / page_lines) ≡ found → home_by s words n found ≡ Some (at_line p w) → Homed s words n p w
  unfolding home_by
  homed-by (Some f) e h =
      let a = mapped-frame s words (n / page_lines) f e in
      let z = home-parts h in
      let q : f * page_lines + n % page_lines ≡ p = z.0 in
      let r : word_writes (get_or words f 0) ≡ w = z.1 in
      let k : p / page_lines ≡ f = omega arith in
      mapped a.ordinary (omega arith) (rw k a.from) (rw k a.inside) (rw k a.page_is) (rw k a.odd) (rw k (sym r))
  homed-by None e h = homed-direct h

  pub homed : home_of s words n ≡ Some (at_line p w) → Homed s words n p w
  unfolding home_of
  homed h = homed-by (mapped_to s words (n / page_lines)) refl h

-- no two names share a home
homed-apart : (s : Shape) (words : List ℕ) (n m p : ℕ) (w v : Bool) → Homed s words n p w → Homed s words m p v → n ≡ m
homed-apart s words n m p w v (direct a b c d e f) (direct a' b' c' d' e' f') = omega arith
homed-apart s words n m p w v (direct a b c d e f) (mapped a' b' c' d' e' f' h') = absurd (omega arith)
homed-apart s words n m p w v (mapped a b c d e f h) (direct a' b' c' d' e' f') = absurd (omega arith)
homed-apart s words n m p w v (mapped a b c d e f h) (mapped a' b' c' d' e' f' h') = omega arith

homed-above : (s : Shape) (words : List ℕ) (n p : ℕ) (w : Bool) → Homed s words n p w → s.uncached ≤ p / page_lines
homed-above s words n p w (direct a b c d e f) = c
homed-above s words n p w (mapped a b c d e f h) = c

-- a home lies in the frames from U up
pub home-above : (s : Shape) (words : List ℕ) (n p : ℕ) (w : Bool) → home_of s words n ≡ Some (at_line p w) → s.uncached ≤ p / page_lines
home-above s words n p w h = homed-above s words n p w (homed s words n p w h)

pub homes-map : (s : Shape) (words : List ℕ) → length words ≡ s.frames → Homes s (home_of s words)
homes-map s words z = record {
  apart = λ n m p w v a b. homed-apart s words n m p w v (homed s words n p w a) (homed s words m p v b);
  inside = λ n p w a. home-inside s words n p w (home_of s words n) refl a z;
}

-- ---- the home of a name after the word of a frame is changed

module _ (s : Shape) (words : List ℕ) (f w name p : ℕ) (x : Bool) (b : f < length words) (h : home_of s words name ≡ Some (at_line p x)) where
  home-by-set : (found : Option ℕ) → home_by s words name found ≡ Some (at_line p x) → p / page_lines ≢ f → home_by s (set words f w) name found ≡ Some (at_line p x)
  unfolding home_by direct_home free_frame
  home-by-set (Some g) e n =
      let a : g * page_lines + name % page_lines ≡ p = (home-parts e).0 in
      let k : g ≢ f = omega arith in
      rw (get_or-set_other words f g w 0 k) e
  home-by-set None e n =
      let a = (if-line (eqb (name / prefix_lines) 1 && free_frame s words (name % prefix_lines / page_lines)) (name % prefix_lines) p x e).1.0 in
      let k : name % prefix_lines / page_lines ≢ f = rw a n in
      rw (get_or-set_other words f (name % prefix_lines / page_lines) w 0 k) e

  -- a home in another frame, of a page that the word did not name and does not name now
  pub home-set : p / page_lines ≢ f → names_page (get_or words f 0) (name / page_lines) ≡ false → names_page w (name / page_lines) ≡ false → home_of s (set words f w) name ≡ Some (at_line p x)
  unfolding home_of
  home-set n y z = rw (mapped-set s words (name / page_lines) f w b y z) (home-by-set (mapped_to s words (name / page_lines)) h n)

  -- a home of another page than the frame's is in another frame, and stays when the word comes to name no other page
  pub home-elsewhere : (page : ℕ) → get_or words f 0 / 4 ≡ page → get_or words f 0 % 2 ≡ 1 → name / page_lines ≢ page → (w / 4 ≡ name / page_lines → w % 2 ≡ 1 → ⊥)
      → home_of s (set words f w) name ≡ Some (at_line p x)
  home-elsewhere page here odd n y =
      home-set (λ q. go (homed s words name p x h) q) (word-names-not _ _ (λ a _. n (sym a ∙ here))) (word-names-not _ _ y)
    where
      go : Homed s words name p x → p / page_lines ≢ f
      go (direct a c d e o _) q = let z = rw q at o in absurd (omega arith)
      go (mapped a c d e o i _) q = let z = rw q at o in n (sym z ∙ here)
