-- The checker is right: it finds the first broken rule and the lowest place in it, or the board is sound. Stands on Rules.
use Rattle.std.specs.Prelude.{Option, Some, None}
use Prim.Native.Nat.{ℕ, ◌*◌, ◌≤◌, ◌<◌}
use mathlib.Core.Path.{◌≡◌, ◌∙◌, sym, refl, ap}
use mathlib.Core.Logic.{⊎_elim, ◌≢◌}
use mathlib.Core.Bool.{Bool, true, false, cond}
use native.Mathlib.Omega.{arith}
use lib.ListN.{length}
use Rattle.board.specs.Searches.{first}
use Rattle.board.specs.declared.Shape.{Shape}
use Rattle.board.proofs.Bools.{clash}
use Rattle.board.proofs.Searches.{first-at}
use Rattle.board.specs.declared.Home.{Home}
use Rattle.pages.specs.Pages.{home_of}
use Rattle.machine.specs.Boards.{Board, fits_board}
use Rattle.promises.specs.Sound.{Sound}
use Rattle.promises.proofs.Shapes.{board-shaped}
use Rattle.doubles.proofs.Lists.{lt-or-le}
use Rattle.dump_pages.specs.Pages.{doubled_page}
use Rattle.dump_pages.proofs.Pages.{pages_once}
use Rattle.dump_lines.specs.Lines.{doubled_line}
use Rattle.dump_lines.specs.Lines as tests
use Rattle.dumps.specs.declared.Report.{Report}
use Rattle.dumps.specs.Checks.{report, yes, or_else, from_rule2, from_rule3, from_rule4, from_rule5, checked}
use Rattle.dump_promises.specs.Checker.{PageTwice, LineTwice, Astray, Stale, Breaks, lengths, page_twice, line_twice, astray, stale, FirstBroken, CheckerIsRight}
use Rattle.dump_promises.proofs.Rules.{doubled-page-twice, doubled-page-lowest, doubled-line-twice, doubled-line-lowest, lines_once, astray-is, is-astray, stale-is, is-stale, lines_mapped, clean-lines}

-- a sound board breaks no rule
pub sound-unbroken : (s : Shape) (b : Board) (rule place : ℕ) → Sound s b → Breaks s b rule place → ⊥
sound-unbroken s b rule place x (lengths n) = n x.shape_holds
sound-unbroken s b rule place x (page_twice t) =
    t.another (x.pages_once t.page place t.other t.here.ordinary t.here.from t.here.inside t.there.from t.there.inside t.here.names t.there.names)
sound-unbroken s b rule place x (line_twice t) = t.another (x.lines_once place t.other t.here t.there t.same_line)
sound-unbroken s b rule place x (astray a) = a.elsewhere (x.lines_mapped place a.here)
sound-unbroken s b rule place x (stale a) = a.differs (x.clean_lines_equal place a.here a.unchanged)

breaks-rule : (s : Shape) (b : Board) (rule place : ℕ) → Breaks s b rule place → (1 ≤ rule) × (rule ≤ 5)
breaks-rule s b rule place (lengths n) = (omega arith, omega arith)
breaks-rule s b rule place (page_twice t) = (omega arith, omega arith)
breaks-rule s b rule place (line_twice t) = (omega arith, omega arith)
breaks-rule s b rule place (astray a) = (omega arith, omega arith)
breaks-rule s b rule place (stale a) = (omega arith, omega arith)

-- what the checker comes to
pub data Verdict (s : Shape) (b : Board) (r : Report) : Type 0 where
  sound : Sound s b → r ≡ yes → Verdict s b r
  broken : (rule place : ℕ) → FirstBroken s b rule place → r ≡ report rule place → Verdict s b r

-- ---- rule after rule: what is found is the first broken rule, as long as no earlier one is broken

module _ (s : Shape) (b : Board) (fits : fits_board s b ≡ true) where
  abbrev home : ℕ → Option Home
  home = home_of s b.words

  size : length b.store.records ≡ 2 * s.lines
  size = (board-shaped s b fits).records_are

  -- no rule below this one is broken
  abbrev KeepsBelow : ℕ → Type 0
  KeepsBelow rule = (r k : ℕ) → r < rule → Breaks s b r k → ⊥

  keeps-2 : KeepsBelow 2
  keeps-2 r k h (lengths n) = n fits
  keeps-2 r k h (page_twice t) = absurd (omega arith)
  keeps-2 r k h (line_twice t) = absurd (omega arith)
  keeps-2 r k h (astray a) = absurd (omega arith)
  keeps-2 r k h (stale a) = absurd (omega arith)

  module _ (pages : doubled_page s b.words ≡ None) where
    keeps-3 : KeepsBelow 3
    keeps-3 r k h (lengths n) = n fits
    keeps-3 r k h (page_twice t) =
        t.another (pages_once s b.words pages t.page k t.other t.here.ordinary t.here.from t.here.inside t.there.from t.there.inside t.here.names t.there.names)
    keeps-3 r k h (line_twice t) = absurd (omega arith)
    keeps-3 r k h (astray a) = absurd (omega arith)
    keeps-3 r k h (stale a) = absurd (omega arith)

    module _ (lines : doubled_line s b.store.records ≡ None) where
      keeps-4 : KeepsBelow 4
      keeps-4 r k h (line_twice t) = t.another (lines_once s b.store size lines k t.other t.here t.there t.same_line)
      keeps-4 r k h (lengths n) = n fits
      keeps-4 r k h (page_twice t) = keeps-3 2 k (omega arith) (page_twice t)
      keeps-4 r k h (astray a) = absurd (omega arith)
      keeps-4 r k h (stale a) = absurd (omega arith)

      module _ (homes : first (tests.astray s home b.store) 0 s.lines ≡ None) where
        keeps-5 : KeepsBelow 5
        keeps-5 r k h (astray a) = a.elsewhere (lines_mapped s b.words b.store size homes k a.here)
        keeps-5 r k h (lengths n) = n fits
        keeps-5 r k h (page_twice t) = keeps-3 2 k (omega arith) (page_twice t)
        keeps-5 r k h (line_twice t) = keeps-4 3 k (omega arith) (line_twice t)
        keeps-5 r k h (stale a) = absurd (omega arith)

        by-5 : (found : Option ℕ) → first (tests.stale s b.store) 0 s.lines ≡ found → Verdict s b (or_else 5 found yes)
        unfolding or_else
        by-5 (Some i) e =
            let f = first-at (tests.stale s b.store) 0 s.lines i e in
            broken 5 i record {
              broken = stale (stale-is s b.words b.store i f.passes);
              lowest = λ k h x. stale-lower k x (λ a. omega (arith, f.lowest k (omega arith) (is-stale s b.words b.store k a)));
              earlier = keeps-5;
            } refl
          where
            stale-lower : (k : ℕ) → Breaks s b 5 k → (Stale s b.store k → ⊥) → ⊥
            stale-lower k (stale a) f = f a
        by-5 None e =
            sound record {
              shape_holds = fits;
              pages_once = pages_once s b.words pages;
              lines_once = lines_once s b.store size lines;
              lines_mapped = lines_mapped s b.words b.store size homes;
              clean_lines_equal = clean-lines s b.words b.store size e;
            } refl

      by_4 : (found : Option ℕ) → first (tests.astray s home b.store) 0 s.lines ≡ found → Verdict s b (or_else 4 found (from_rule5 s b.store))
      unfolding or_else
      by_4 (Some i) e =
          let f = first-at (tests.astray s home b.store) 0 s.lines i e in
          broken 4 i record {
            broken = astray (astray-is s b.words b.store i f.passes);
            lowest = λ k h x. astray-lower k x (λ a. omega (arith, f.lowest k (omega arith) (is-astray s b.words b.store k a)));
            earlier = keeps-4;
          } refl
        where
          astray-lower : (k : ℕ) → Breaks s b 4 k → (Astray s b.words b.store k → ⊥) → ⊥
          astray-lower k (astray a) f = f a
      by_4 None e = by-5 e (first (tests.stale s b.store) 0 s.lines) refl

    by-3 : (found : Option ℕ) → doubled_line s b.store.records ≡ found → Verdict s b (or_else 3 found (from_rule4 s home b.store))
    unfolding or_else
    by-3 (Some i) e =
        broken 3 i record {
          broken = line_twice (doubled-line-twice s b.store i e);
          lowest = λ k h x. twice-lower k x (λ t. doubled-line-lowest s b.store size i k e h t);
          earlier = keeps-3;
        } refl
      where
        twice-lower : (k : ℕ) → Breaks s b 3 k → (LineTwice s b.store k → ⊥) → ⊥
        twice-lower k (line_twice t) f = f t
    by-3 None e = by_4 e (first (tests.astray s home b.store) 0 s.lines) refl

  by_2 : (found : Option ℕ) → doubled_page s b.words ≡ found → Verdict s b (or_else 2 found (from_rule3 s home b.store))
  unfolding or_else
  by_2 (Some f) e =
      broken 2 f record {
        broken = page_twice (doubled-page-twice s b.words f e);
        lowest = λ k h x. twice-lower k x (λ t. doubled-page-lowest s b.words f k e h t);
        earlier = keeps-2;
      } refl
    where
      twice-lower : (k : ℕ) → Breaks s b 2 k → (PageTwice s b.words k → ⊥) → ⊥
      twice-lower k (page_twice t) f = f t
  by_2 None e = by-3 e (doubled_line s b.store.records) refl

pub verdict : (s : Shape) (b : Board) → Verdict s b (checked s b)
unfolding checked
verdict s b = go (fits_board s b) refl
  where
    go : (t : Bool) → fits_board s b ≡ t → Verdict s b (cond t (from_rule2 s b.words b.store) (report 1 0))
    go true t = by_2 s b t (doubled_page s b.words) refl
    go false t =
        broken 1 0 record {
          broken = lengths (λ h. clash _ h t);
          lowest = λ k h x. omega arith;
          earlier = λ r k h x. omega (arith, (breaks-rule s b r k x).0);
        } refl

-- ---- the promise

-- two reports of rules are equal exactly in rule and place
same-rule : (r k rule place : ℕ) → report r k ≡ report rule place → (r ≡ rule) × (k ≡ place)
same-rule r k rule place e = (ap (λ (x : Report). x.rule) e, ap (λ (x : Report). x.place) e)

first-again : (s : Shape) (b : Board) (r k rule place : ℕ) → FirstBroken s b r k → report r k ≡ report rule place → FirstBroken s b rule place
first-again s b r k rule place x e = let q = same-rule r k rule place e in rw (q.0, q.1) at x

-- no two rules or places are the first
one-first : (s : Shape) (b : Board) (r k rule place : ℕ) → FirstBroken s b r k → FirstBroken s b rule place → report r k ≡ report rule place
one-first s b r k rule place x y = ⊎_elim
    (λ l. absurd (y.earlier r k l x.broken))
    (λ l. ⊎_elim (λ m. absurd (x.earlier rule place m y.broken)) (λ m. let q : r ≡ rule = omega arith in by_place q) (lt-or-le rule r))
    (lt-or-le r rule)
  where
    by_place : r ≡ rule → report r k ≡ report rule place
    by_place q = ⊎_elim
        (λ l. absurd (y.lowest k l (rw q at x.broken)))
        (λ l. ⊎_elim (λ m. absurd (x.lowest place m (rw (← q) at y.broken))) (λ m. let z : k ≡ place = omega arith in rw (q, z)) (lt-or-le place k))
        (lt-or-le k place)

module _ (s : Shape) (b : Board) where
  accepts : Verdict s b (checked s b) → checked s b ≡ yes → Sound s b
  accepts (sound x e) h = x
  accepts (broken rule place x e) h = absurd (let q = same-rule rule place 0 0 (sym e ∙ h) in omega (arith, q.0, (breaks-rule s b rule place x.broken).0))

  accepted : Verdict s b (checked s b) → Sound s b → checked s b ≡ yes
  accepted (sound x e) h = e
  accepted (broken rule place x e) h = absurd (sound-unbroken s b rule place h x.broken)

  found : (rule place : ℕ) → Verdict s b (checked s b) → rule ≢ 0 → checked s b ≡ report rule place → FirstBroken s b rule place
  found rule place (sound x e) n h = absurd (n (sym (same-rule 0 0 rule place (sym e ∙ h)).0))
  found rule place (broken r k x e) n h = first-again s b r k rule place x (sym e ∙ h)

  reported : (rule place : ℕ) → Verdict s b (checked s b) → FirstBroken s b rule place → checked s b ≡ report rule place
  reported rule place (sound x e) h = absurd (sound-unbroken s b rule place x h.broken)
  reported rule place (broken r k x e) h = e ∙ one-first s b r k rule place x h

  always : Verdict s b (checked s b) → checked s b ≡ report (checked s b).rule (checked s b).place
  always (sound x e) = rw e
  always (broken r k x e) = rw e

  rules : Verdict s b (checked s b) → (checked s b).rule ≤ 5
  rules (sound x e) = rw e (omega arith)
  rules (broken r k x e) = rw e (breaks-rule s b r k x.broken).1

  zero_is_yes : Verdict s b (checked s b) → (checked s b).rule ≡ 0 → checked s b ≡ yes
  zero_is_yes (sound x e) h = e
  zero_is_yes (broken r k x e) h =
      absurd (let q : r ≡ 0 = sym (ap (λ (x : Report). x.rule) e) ∙ h in omega (arith, (breaks-rule s b r k x.broken).0))

pub checker-is-right : CheckerIsRight
checker-is-right = record {
  accepts = λ s b. accepts s b (verdict s b);
  accepted = λ s b. accepted s b (verdict s b);
  found = λ s b rule place. found s b rule place (verdict s b);
  reported = λ s b rule place. reported s b rule place (verdict s b);
  always = λ s b. always s b (verdict s b);
  rules = λ s b. rules s b (verdict s b);
  zero_is_yes = λ s b. zero_is_yes s b (verdict s b);
}
