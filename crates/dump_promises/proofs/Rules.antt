-- The rules as the checker tests them and as they are stated: what a search finds breaks its rule, nothing lower does, and where it finds nothing the
-- rule holds.
use Rattle.std.specs.Prelude.{Some, None}
use Prim.Native.Nat.{ℕ, ◌+◌, ◌*◌, ◌<◌}
use mathlib.Core.Path.{◌≡◌, ◌∙◌, sym, refl, ap}
use mathlib.Core.Logic.{◌≢◌}
use mathlib.Core.Bool.{Bool, true, false, not, ◌&&◌}
use mathlib.Core.List.{List}
use native.Mathlib.Omega.{arith}
use borrow.Author.Tests.{not-true, not-false}
use lib.ListN.{length}
use Rattle.board.specs.Homes.{at_line}
use Rattle.board.specs.Searches.{first}
use Rattle.board.specs.declared.Shape.{Shape}
use Rattle.board.proofs.Bools.{clash, and_left, and_right}
use Rattle.board.proofs.Searches.{first-nothing}
use Rattle.pages.specs.Pages.{home_of}
use Rattle.line_bytes.specs.Bytes.{line_of}
use Rattle.lines.specs.Records.{line_at}
use Rattle.lines.specs.Holds.{holds_at}
use Rattle.stores.specs.Stores.{Store}
use Rattle.store_laws.proofs.Held.{held-listed}
use Rattle.page_laws.proofs.Maps.{ordinary-low}
use Rattle.promises.specs.Sound.{LinesOnce, LinesMapped, CleanLinesEqual}
use Rattle.doubles.proofs.Keys.{none-twice, double-at}
use Rattle.dump_pages.specs.Pages.{page_at, doubled_page}
use Rattle.dump_pages.proofs.Pages.{if-key, page-names, names-page}
use Rattle.dump_lines.specs.Lines.{same_list, held_line, doubled_line, home_is, at_home, astray, stale}
use Rattle.dump_lines.proofs.Homes.{home-is, is_home}
use Rattle.dump_lines.proofs.Lines.{same_list_lem, list_same}
use Rattle.dump_promises.specs.Checker.{Names, PageTwice, LineTwice, Astray, Stale}

-- a test that is passed, and one that is not
both : (t u : Bool) → t ≡ true → u ≡ true → (t && u) ≡ true
both true u e f = f
both false u e f = e

decided : (t : Bool) → (t ≡ true → ⊥) → t ≡ false
decided true f = absurd (f refl)
decided false f = refl

-- ---- rule 2

module _ (s : Shape) (words : List ℕ) where
  names_key : (frame page : ℕ) → Names s words frame page → (page_at s words frame ≡ page) × (page ≢ 0)
  names_key frame page n = (names-page s words frame page n.from n.ordinary n.names, λ z. omega (arith, ordinary-low page n.ordinary, z))

  key-names : (frame : ℕ) → frame < s.frames → page_at s words frame ≢ 0 → Names s words frame (page_at s words frame)
  key-names frame h z = let a = page-names s words frame z in record { ordinary = a.1; from = a.0; inside = h; names = a.2 }

  pub doubled-page-twice : (frame : ℕ) → doubled_page s words ≡ Some frame → PageTwice s words frame
  unfolding doubled_page
  doubled-page-twice frame e =
      let d = double-at (page_at s words) s.frames frame e in
      record {
        page = page_at s words frame;
        other = d.again;
        another = λ q. omega (arith, d.higher, q);
        here = key-names frame d.inside d.some_key;
        there = rw d.same_key (key-names d.again d.again_inside (λ z. d.some_key (d.same_key ∙ z)));
      }

  pub doubled-page-lowest : (frame k : ℕ) → doubled_page s words ≡ Some frame → k < frame → PageTwice s words k → ⊥
  unfolding doubled_page
  doubled-page-lowest frame k e l t =
      let a = names_key k t.page t.here in
      let b = names_key t.other t.page t.there in
      (double-at (page_at s words) s.frames frame e).lowest k t.other l t.there.inside t.another (λ z. a.1 (sym a.0 ∙ z)) (a.0 ∙ sym b.0)

-- ---- rule 3

module _ (s : Shape) (x : Store) where
  held-key : (i : ℕ) → holds_at s x.records i ≡ true → held_line s x.records i ≡ (line_at x.records i).physical + 1
  unfolding held_line
  held-key i h = rw h

  key-held : (i : ℕ) → held_line s x.records i ≢ 0 → (holds_at s x.records i ≡ true) × (held_line s x.records i ≡ (line_at x.records i).physical + 1)
  unfolding held_line
  key-held i n = if-key (holds_at s x.records i) ((line_at x.records i).physical + 1) n

  some-line : (i : ℕ) → holds_at s x.records i ≡ true → held_line s x.records i ≢ 0
  some-line i h z = omega (arith, held-key i h, z)

  pub doubled-line-twice : (place : ℕ) → doubled_line s x.records ≡ Some place → LineTwice s x place
  unfolding doubled_line
  doubled-line-twice place e =
      let d = double-at (held_line s x.records) s.lines place e in
      let a = key-held place d.some_key in
      let b = key-held d.again (λ z. d.some_key (d.same_key ∙ z)) in
      record {
        other = d.again;
        another = λ q. omega (arith, d.higher, q);
        here = a.0;
        there = b.0;
        same_line = omega (arith, a.1, b.1, d.same_key);
      }

  module _ (size : length x.records ≡ 2 * s.lines) where
    pub doubled-line-lowest : (place k : ℕ) → doubled_line s x.records ≡ Some place → k < place → LineTwice s x k → ⊥
    unfolding doubled_line
    doubled-line-lowest place k e l t =
        (double-at (held_line s x.records) s.lines place e).lowest k t.other l (held-listed s x.records t.other s.lines size t.there) t.another
        (some-line k t.here) (held-key k t.here ∙ ap (λ (n : ℕ). n + 1) t.same_line ∙ sym (held-key t.other t.there))

    pub lines_once : doubled_line s x.records ≡ None → LinesOnce s x
    unfolding doubled_line
    lines_once e i j hi hj q =
        none-twice (held_line s x.records) s.lines e i j (held-listed s x.records i s.lines size hi) (held-listed s x.records j s.lines size hj)
        (some-line i hi) (held-key i hi ∙ ap (λ (n : ℕ). n + 1) q ∙ sym (held-key j hj))

-- ---- rules 4 and 5, place by place

module _ (s : Shape) (words : List ℕ) (x : Store) (i : ℕ) where
  pub astray-is : astray s (home_of s words) x i ≡ true → Astray s words x i
  unfolding astray at_home
  astray-is e =
      let n : home_is (home_of s words (line_at x.records i).name) (line_at x.records i).physical (line_at x.records i).write ≡ false =
      not-true _ (and_right (holds_at s x.records i) _ e) in
      record { here = and_left (holds_at s x.records i) _ e; elsewhere = λ h. clash _ (is_home _ _ _ h) n }

  pub is-astray : Astray s words x i → astray s (home_of s words) x i ≡ true
  unfolding astray at_home
  is-astray a = both _ _ a.here (rw (decided _ (λ h. a.elsewhere (home-is _ _ _ h))))

  pub stale-is : stale s x i ≡ true → Stale s x i
  unfolding stale
  stale-is e =
      let e₁ = and_right (holds_at s x.records i) _ e in
      let n : same_list (line_of x.cache i) (line_of x.memory (line_at x.records i).physical) ≡ false = not-true _ (and_right (not (line_at x.records i).changed) _ e₁) in
      record {
        here = and_left (holds_at s x.records i) _ e;
        unchanged = not-true _ (and_left (not (line_at x.records i).changed) _ e₁);
        differs = λ q. clash _ (rw q (list_same (line_of x.memory (line_at x.records i).physical))) n;
      }

  pub is-stale : Stale s x i → stale s x i ≡ true
  unfolding stale
  is-stale a =
      let n : same_list (line_of x.cache i) (line_of x.memory (line_at x.records i).physical) ≡ false = decided _ (λ h. a.differs (same_list_lem _ _ h)) in
      both (holds_at s x.records i) _ a.here (rw (a.unchanged, n))

  -- a held line that breaks neither
  pub home-of : astray s (home_of s words) x i ≡ false → holds_at s x.records i ≡ true
      → home_of s words (line_at x.records i).name ≡ Some (at_line (line_at x.records i).physical (line_at x.records i).write)
  unfolding astray at_home
  home-of e h = home-is _ _ _ (not-false _ (rw h at e))

  pub equal_of : stale s x i ≡ false → holds_at s x.records i ≡ true → (line_at x.records i).changed ≡ false
      → line_of x.cache i ≡ line_of x.memory (line_at x.records i).physical
  unfolding stale
  equal_of e h c = same_list_lem _ _ (not-false _ (rw (h, c) at e))

module _ (s : Shape) (words : List ℕ) (x : Store) (size : length x.records ≡ 2 * s.lines) where
  pub lines_mapped : first (astray s (home_of s words) x) 0 s.lines ≡ None → LinesMapped s words x
  lines_mapped e i h =
      home-of s words x i (first-nothing (astray s (home_of s words) x) 0 s.lines i e (omega arith) (omega (arith, held-listed s x.records i s.lines size h))) h

  pub clean-lines : first (stale s x) 0 s.lines ≡ None → CleanLinesEqual s x
  clean-lines e i h c =
      equal_of s words x i (first-nothing (stale s x) 0 s.lines i e (omega arith) (omega (arith, held-listed s x.records i s.lines size h))) h c
