-- The repair is right. Stands on Mending and on the checker.
use Rattle.std.specs.Prelude.{Option, Some, None}
use Prim.Native.Nat.{ℕ, zero, suc, ◌+◌, ◌*◌, ◌/◌, ◌≤◌, ◌<◌}
use mathlib.Core.Path.{◌≡◌, ◌∙◌, sym, refl, ap}
use mathlib.Core.Logic.{◌⊎◌, inl, inr, ⊎_elim, ◌≢◌}
use mathlib.Core.Bool.{Bool, true, false, not, ◌&&◌, ◌||◌}
use mathlib.Core.List.{List}
use native.Mathlib.Omega.{arith}
use lib.ListN.{length, get_or}
use borrow.Author.Tests.{eqb-true}
use lib.Dec.{eqb}
use Rattle.board.specs.Lists.{bit}
use Rattle.board.specs.Searches.{first}
use Rattle.board.specs.declared.Shape.{Shape}
use Rattle.board.specs.declared.Home.{Home}
use Rattle.board.proofs.Bools.{clash, and_left, and_right, or-false}
use Rattle.pages.specs.Pages.{home_of}
use Rattle.lines.specs.Records.{line_at, no_line}
use Rattle.lines.specs.declared.Line.{Line}
use Rattle.lines.specs.Holds.{place_of, holds_at, keeps_line}
use Rattle.stores.specs.Stores.{Store, store}
use Rattle.visits.specs.Visits.{sweep}
use Rattle.machine.specs.Boards.{Board, fits_board, with_store}
use Rattle.store_laws.proofs.Held.{holds-none, held_place, held-line, held_same, held-listed}
use Rattle.page_laws.proofs.Maps.{homes-map}
use Rattle.promises.specs.Sound.{Sound}
use Rattle.promises.proofs.Shapes.{board-shaped}
use Rattle.doubles.proofs.Lists.{lt-or-le}
use Rattle.doubles.proofs.Keys.{length-keys, keys-at}
use Rattle.dump_pages.specs.Pages.{doubled_page}
use Rattle.dump_pages.proofs.Pages.{pages_once, once-pages}
use Rattle.dump_lines.specs.Lines.{doubled_line, astray, stale, breaks_alone}
use Rattle.dumps.specs.declared.Report.{Report}
use Rattle.dumps.specs.Checks.{report, yes, or_else, from_rule3, checked}
use Rattle.repairs.specs.Repairs.{Repaired, held_below, mended, repaired, dropped_at, how_many, repair_outcome, mended_lines, mended_pages, repair_board}
use Rattle.repairs.proofs.Repairs.{below_true, below_false}
use Rattle.dump_promises.specs.Checker.{Astray}
use Rattle.dump_promises.specs.Repairer.{Alone, HeldLower, LeftAt, nothing_held, kept, dropped, repaired_board, Repairs, RepairIsRight, NeverGuesses}
use Rattle.dump_promises.proofs.Rules.{astray-is, is-astray, stale-is, is-stale, home-of, equal_of}
use Rattle.dump_promises.proofs.Checker.{checker-is-right}
use Rattle.dump_promises.proofs.Mending.{Left, none, keeps, drops, Good, repaired_records, repaired-is, good, kept_line, kept-held, kept-alone, kept-lower}

-- ---- three sorts of boards

data Sort (s : Shape) (b : Board) : Type 0 where
  unfit : fits_board s b ≡ false → Sort s b
  doubled : fits_board s b ≡ true → (frame : ℕ) → doubled_page s b.words ≡ Some frame → Sort s b
  mendable : fits_board s b ≡ true → doubled_page s b.words ≡ None → Sort s b

sort : (s : Shape) (b : Board) → Sort s b
sort s b = go (fits_board s b) (doubled_page s b.words) refl refl
  where
    go : (t : Bool) (f : Option ℕ) → fits_board s b ≡ t → doubled_page s b.words ≡ f → Sort s b
    go false f h e = unfit h
    go true (Some frame) h e = doubled h frame e
    go true None h e = mendable h e

-- rules 1 and 2 are not among those from 3 on
from-3 : (s : Shape) (home : ℕ → Option Home) (x : Store) → ((from_rule3 s home x).rule ≡ 0) ⊎ (3 ≤ (from_rule3 s home x).rule)
unfolding or_else
from-3 s home x = go (doubled_line s x.records) (first (astray s home x) 0 s.lines) (first (stale s x) 0 s.lines)
  where
    go : (f g h : Option ℕ) → ((or_else 3 f (or_else 4 g (or_else 5 h yes))).rule ≡ 0) ⊎ (3 ≤ (or_else 3 f (or_else 4 g (or_else 5 h yes))).rule)
    go (Some i) g h = inr (omega arith)
    go None (Some i) h = inr (omega arith)
    go None None (Some i) = inr (omega arith)
    go None None None = inl refl

module _ (s : Shape) (b : Board) (flags : List ℕ) where
  unfit-left : fits_board s b ≡ false → (checked s b ≡ report 1 0) × (repair_board s b flags ≡ repair_outcome (report 1 0) b.store flags)
  unfolding checked repair_board
  unfit-left h = (rw h, rw h)

  doubled-left : (frame : ℕ) → fits_board s b ≡ true → doubled_page s b.words ≡ Some frame
      → (checked s b ≡ report 2 frame) × (repair_board s b flags ≡ repair_outcome (report 2 frame) b.store flags)
  unfolding checked repair_board or_else mended_pages
  doubled-left frame h e = (rw (h, e), rw (h, e))

  mendable-is : fits_board s b ≡ true → doubled_page s b.words ≡ None
      → (checked s b ≡ from_rule3 s (home_of s b.words) b.store) × (repair_board s b flags ≡ mended_lines s (home_of s b.words) b.store)
  unfolding checked repair_board or_else mended_pages
  mendable-is h e = (rw (h, e), rw (h, e))

-- ---- lower lines, and lines that break a rule alone

held-lower : (s : Shape) (r : List ℕ) (line n place : ℕ) → n ≤ place → held_below s r line n ≡ true → HeldLower s r place line
unfolding held_below keeps_line
held-lower s r line zero place l e = clash false e refl
held-lower s r line (suc n) place l e = go (holds_at s r n && eqb (line_at r n).physical line) refl e (held-lower s r line n place (omega arith))
  where
    go : (t : Bool) → (holds_at s r n && eqb (line_at r n).physical line) ≡ t → (t || held_below s r line n) ≡ true → (held_below s r line n ≡ true → HeldLower s r place line)
        → HeldLower s r place line
    go true t h later =
        record { lower = n; below = omega arith; held = and_left (holds_at s r n) _ t; its_line = eqb-true _ _ (and_right (holds_at s r n) (eqb (line_at r n).physical line) t) }
    go false t h later = later h

module _ (s : Shape) (b : Board) (i : ℕ) where
  alone-is : breaks_alone s (home_of s b.words) b.store i ≡ true → Alone s b i
  unfolding breaks_alone
  alone-is e = go (astray s (home_of s b.words) b.store i) refl e
    where
      go : (t : Bool) → astray s (home_of s b.words) b.store i ≡ t → (t || stale s b.store i) ≡ true → Alone s b i
      go true t h = inl (astray-is s b.words b.store i t)
      go false t h = inr (stale-is s b.words b.store i h)

  not-alone : breaks_alone s (home_of s b.words) b.store i ≡ false → Alone s b i → ⊥
  unfolding breaks_alone
  not-alone e a =
      let f = or-false (astray s (home_of s b.words) b.store i) (stale s b.store i) e in
      ⊎_elim (λ x. clash _ (is-astray s b.words b.store i x) f.0) (λ x. clash _ (is-stale s b.words b.store i x) f.1) a

  left_at : (r : List ℕ) → Left s (home_of s b.words) b.store.cache b.store.memory b.store.records r i → LeftAt s b r i
  left_at r (none a e) = nothing_held a e
  left_at r (keeps a e f d) = kept a e (not-alone f) (λ h. clash _ (below_true s r _ i h.lower h.below h.held h.its_line) d)
  left_at r (drops a e x) = dropped a e (⊎_elim (λ f. inl (alone-is f)) (λ d. inr (held-lower s r _ i i (omega arith) d)) x)

-- ---- the repaired board is sound

module _ (s : Shape) (b : Board) (fits : fits_board s b ≡ true) (pages : doubled_page s b.words ≡ None) where
  abbrev home : ℕ → Option Home
  home = home_of s b.words

  abbrev r₀ : List ℕ
  r₀ = b.store.records

  abbrev r : List ℕ
  r = repaired_records s home b.store.cache b.store.memory r₀

  mended-good : Good s home b.store.cache b.store.memory r₀ r s.lines
  mended-good = good s home b.store.cache b.store.memory r₀ (board-shaped s b fits).records_are

  size : length r ≡ 2 * s.lines
  size = mended-good.size ∙ (board-shaped s b fits).records_are

  left : (i : ℕ) → holds_at s r i ≡ true → Left s home b.store.cache b.store.memory r₀ r i
  left i h = mended-good.left i (held-listed s r i s.lines size h)

  fine : (i : ℕ) → holds_at s r i ≡ true → (astray s home b.store i ≡ false) × (stale s b.store i ≡ false)
  unfolding breaks_alone
  fine i h = or-false (astray s home b.store i) (stale s b.store i) (kept-alone s home b.store.cache b.store.memory r₀ r i h (left i h))

  line-is : (i : ℕ) → holds_at s r i ≡ true → line_at r i ≡ line_at r₀ i
  line-is i h = kept_line s home b.store.cache b.store.memory r₀ r i h (left i h)

  held-is : (i : ℕ) → holds_at s r i ≡ true → holds_at s r₀ i ≡ true
  held-is i h = kept-held s home b.store.cache b.store.memory r₀ r i h (left i h)

  below_none : (i j : ℕ) → i < j → holds_at s r i ≡ true → holds_at s r j ≡ true → (line_at r i).physical ≡ (line_at r j).physical → ⊥
  below_none i j l a c q =
      clash _ (below_true s r (line_at r j).physical j i l a q) (kept-lower s home b.store.cache b.store.memory r₀ r j c (left j c))

  repaired-sound : Sound s (with_store b (store r b.store.cache b.store.memory))
  repaired-sound = record {
    shape_holds = rw mended-good.size fits;
    pages_once = pages_once s b.words pages;
    lines_once = λ i j a c q. ⊎_elim (λ l. absurd (below_none i j l a c q)) (λ l. ⊎_elim (λ k. absurd (below_none j i k c a (sym q))) (λ k. omega arith) (lt-or-le j i)) (lt-or-le i j);
    lines_mapped = λ i a. let e = line-is i a in rw e (home-of s b.words b.store i (fine i a).0 (held-is i a));
    clean_lines_equal = λ i a c. let e = line-is i a in rw e (equal_of s b.words b.store i (fine i a).1 (held-is i a) (rw e at c));
  }

  store_is : repaired s home b.store ≡ store r b.store.cache b.store.memory
  store_is = repaired-is s home b.store.cache b.store.memory r₀

  module _ (flags : List ℕ) where
    is : (checked s b ≡ from_rule3 s home b.store) × (repair_board s b flags ≡ mended_lines s home b.store)
    is = mendable-is s b flags fits pages

    mended-repairs : Repairs s b flags
    mended-repairs =
        let e = is.1 in
        let q = is.0 in
        record {
          accepted = rw (e, store_is) (checker-is-right.accepted s _ repaired-sound);
          memory_kept = rw (e, store_is);
          cache_kept = rw (e, store_is);
          same_length = rw e mended-good.size;
          left = λ place h. rw e (left_at s b place r (mended-good.left place h));
          flags_length = rw e (length-keys (λ i. bit (dropped_at s r₀ r i)) 0 s.lines);
          flagged = λ place h. rw e (keys-at (λ i. bit (dropped_at s r₀ r i)) s.lines place h);
          report_is = rw (e, q);
        }

-- ---- a sound board

sweep-same : (f : ℕ → Store → Store) (x : Store) → ((i : ℕ) → f i x ≡ x) → (n i : ℕ) → sweep f n i x ≡ x
unfolding sweep
sweep-same f x e zero i = refl
sweep-same f x e (suc n) i = rw (e i) (sweep-same f x e n (suc i))

none_dropped : (s : Shape) (r : List ℕ) (n : ℕ) → how_many (dropped_at s r r) n ≡ 0
unfolding how_many
none_dropped s r zero = refl
none_dropped s r (suc n) = go (holds_at s r n) (none_dropped s r n)
  where
    go : (t : Bool) → how_many (dropped_at s r r) n ≡ 0 → how_many (dropped_at s r r) n + bit (t && not t) ≡ 0
    go true e = rw e
    go false e = rw e

not-dropped : (t : Bool) → bit (t && not t) ≡ 0
not-dropped true = refl
not-dropped false = refl

module _ (s : Shape) (b : Board) (x : Sound s b) where
  sound-alone : (i : ℕ) → breaks_alone s (home_of s b.words) b.store i ≡ false
  sound-alone i = go (breaks_alone s (home_of s b.words) b.store i) refl
    where
      go : (t : Bool) → breaks_alone s (home_of s b.words) b.store i ≡ t → t ≡ false
      go true t = absurd (⊎_elim (λ a. a.elsewhere (x.lines_mapped i a.here)) (λ a. a.differs (x.clean_lines_equal i a.here a.unchanged)) (alone-is s b i t))
      go false t = refl

  mended-same : (i : ℕ) → mended s (home_of s b.words) i b.store ≡ b.store
  unfolding mended
  mended-same i = go (holds_at s b.store.records i) refl
    where
      go : (t : Bool) → holds_at s b.store.records i ≡ t → mended s (home_of s b.words) i b.store ≡ b.store
      go true h =
          let l = below_false s b.store.records (line_at b.store.records i).physical i (λ k g a e. let q : k ≡ i = x.lines_once k i a h e in omega arith) in
          let a = sound-alone i in
          rw (h, a, l)
      go false h = rw h

  repaired-same : repaired s (home_of s b.words) b.store ≡ b.store
  unfolding repaired
  repaired-same = sweep-same (mended s (home_of s b.words)) b.store mended-same s.lines 0

  sound-left : (flags : List ℕ) → ((repair_board s b flags).report ≡ yes) × ((repair_board s b flags).store ≡ b.store)
      × ((place : ℕ) → place < s.lines → get_or (repair_board s b flags).flags place 0 ≡ 0)
  sound-left flags =
      let e = mendable-is s b flags x.shape_holds (once-pages s b.words x.pages_once) in
      let y : from_rule3 s (home_of s b.words) b.store ≡ yes = sym e.0 ∙ checker-is-right.accepted s b x in
      let z = none_dropped s b.store.records s.lines in
      let same = repaired-same in
      let is = e.1 in
      let all = mended-repairs s b x.shape_holds (once-pages s b.words x.pages_once) flags in
      (rw (is, y, same, z), rw (is, same), λ place h. all.flagged place h ∙ rw (is, same) (not-dropped (holds_at s b.store.records place)))

-- ---- the promise

module _ (s : Shape) (b : Board) (flags : List ℕ) where
  -- a repair that is not refused has the call's number 0
  number_of : Sort s b → (repair_board s b flags).report.number ≡ 0
  number_of (unfit h) = ap (λ (o : Repaired). o.report.number) (unfit-left s b flags h).1
  number_of (doubled h frame e) = ap (λ (o : Repaired). o.report.number) (doubled-left s b flags frame h e).1
  number_of (mendable h e) =
      let i = mendable-is s b flags h e in
      ap (λ (o : Repaired). o.report.number) i.1 ∙ sym (ap (λ (r : Report). r.number) i.0) ∙ ap (λ (r : Report). r.number) (checker-is-right.always s b)

  repairs : Sort s b → (checked s b).rule ≢ 1 → (checked s b).rule ≢ 2 → Repairs s b flags
  repairs (unfit h) n m = absurd (n (ap (λ (x : Report). x.rule) (unfit-left s b flags h).0))
  repairs (doubled h frame e) n m = absurd (m (ap (λ (x : Report). x.rule) (doubled-left s b flags frame h e).0))
  repairs (mendable h e) n m = mended-repairs s b h e flags

  left_alone : Sort s b → ((checked s b).rule ≡ 1) ⊎ ((checked s b).rule ≡ 2)
      → ((repair_board s b flags).report ≡ checked s b) × ((repair_board s b flags).store ≡ b.store) × ((repair_board s b flags).flags ≡ flags)
  left_alone (unfit h) r = let e = unfit-left s b flags h in let a = e.0 in let c = e.1 in (rw (a, c), rw c, rw c)
  left_alone (doubled h frame d) r = let e = doubled-left s b flags frame h d in let a = e.0 in let c = e.1 in (rw (a, c), rw c, rw c)
  left_alone (mendable h d) r =
      let e : (checked s b).rule ≡ (from_rule3 s (home_of s b.words) b.store).rule = ap (λ (x : Report). x.rule) (mendable-is s b flags h d).0 in
      absurd (⊎_elim
      (λ z. ⊎_elim (λ k. omega arith) (λ k. omega arith) r)
      (λ z. ⊎_elim (λ k. omega arith) (λ k. omega arith) r)
      (from-3 s (home_of s b.words) b.store))

  twice_is_once : Sort s b → (again : List ℕ) → (repair_board s (repaired_board s b flags) again).store ≡ (repair_board s b flags).store
  twice_is_once (unfit h) again =
      let e = (unfit-left s b flags h).1 in
      let f = (unfit-left s b again h).1 in
      rw e (ap (λ o. o.store) f)
  twice_is_once (doubled h frame d) again =
      let e = (doubled-left s b flags frame h d).1 in
      let f = (doubled-left s b again frame h d).1 in
      rw e (ap (λ o. o.store) f)
  twice_is_once (mendable h d) again =
      let x : Sound s (repaired_board s b flags) = checker-is-right.accepts s _ (mended-repairs s b h d flags).accepted in
      (sound-left s (repaired_board s b flags) x again).1

pub report-number : (s : Shape) (b : Board) (flags : List ℕ) → (repair_board s b flags).report.number ≡ 0
report-number s b flags = number_of s b flags (sort s b)

pub repair-is-right : RepairIsRight
repair-is-right = record {
  repairs = λ s b flags. repairs s b flags (sort s b);
  left_alone = λ s b flags. left_alone s b flags (sort s b);
  sound_unchanged = λ s b flags x. sound-left s b x flags;
  twice_is_once = λ s b flags again. twice_is_once s b flags (sort s b) again;
}

-- ---- with one line in a set

module _ (s : Shape) (b : Board) (fits : fits_board s b ≡ true) (one : s.ways ≡ 1) where
  -- two lines at home with one physical line have one name, and so one place
  homes-one : (i j : ℕ) → holds_at s b.store.records i ≡ true → holds_at s b.store.records j ≡ true
      → (line_at b.store.records i).physical ≡ (line_at b.store.records j).physical → astray s (home_of s b.words) b.store i ≡ false
      → astray s (home_of s b.words) b.store j ≡ false → i ≡ j
  homes-one i j hi hj q a c =
      let hom = homes-map s b.words (board-shaped s b fits).words_are in
      let here = home-of s b.words b.store i a hi in
      let there = home-of s b.words b.store j c hj in
      let name : (line_at b.store.records i).name ≡ (line_at b.store.records j).name = hom.apart _ _ (line_at b.store.records j).physical _ _ (rw q at here) there in
      let pi = held_place s b.store.records i hi in
      let pj = held_place s b.store.records j hj in
      let same : i / s.ways ≡ j / s.ways = pi ∙ ap (place_of s) name ∙ sym pj in
      alone-set i j same
    where
      alone-set : (i j : ℕ) → i / s.ways ≡ j / s.ways → i ≡ j
      alone-set i j e = let z : i / 1 ≡ j / 1 = rw one at e in omega arith

  one_astray : (place other : ℕ) → place ≢ other → holds_at s b.store.records place ≡ true → holds_at s b.store.records other ≡ true
      → (line_at b.store.records place).physical ≡ (line_at b.store.records other).physical
      → Astray s b.words b.store place ⊎ Astray s b.words b.store other
  one_astray i j n hi hj q = go (astray s (home_of s b.words) b.store i) (astray s (home_of s b.words) b.store j) refl refl
    where
      go : (t u : Bool) → astray s (home_of s b.words) b.store i ≡ t → astray s (home_of s b.words) b.store j ≡ u
          → Astray s b.words b.store i ⊎ Astray s b.words b.store j
      go true u a c = inl (astray-is s b.words b.store i a)
      go false true a c = inr (astray-is s b.words b.store j c)
      go false false a c = absurd (n (homes-one i j hi hj q a c))

  module _ (flags : List ℕ) (x : Repairs s b flags) where
    abbrev after : List ℕ
    after = (repair_board s b flags).store.records

    -- a lower line that is kept was held before, as it is, and breaks nothing alone
    kept-before : (k : ℕ) → holds_at s after k ≡ true → LeftAt s b after k
        → (holds_at s b.store.records k ≡ true) × (line_at after k ≡ line_at b.store.records k) × (Alone s b k → ⊥)
    kept-before k h (nothing_held a e) = clash _ h (held_same s after k b.store.records e ∙ a)
    kept-before k h (kept a e f g) = (a, e, f)
    kept-before k h (dropped a e f) = clash _ h (held-line s after k no_line e ∙ holds-none s k)

    alone-by : (place : ℕ) → holds_at s after place ≡ false → holds_at s b.store.records place ≡ true → LeftAt s b after place → Alone s b place
    alone-by place n h (nothing_held a e) = clash _ h a
    alone-by place n h (kept a e f g) = clash _ (held_same s after place b.store.records e ∙ h) n
    alone-by place n h (dropped a e (inl f)) = f
    alone-by place n h (dropped a e (inr f)) =
        let size = x.same_length ∙ (board-shaped s b fits).records_are in
        let k = kept-before f.lower f.held (x.left f.lower (held-listed s after f.lower s.lines size f.held)) in
        let q : (line_at b.store.records f.lower).physical ≡ (line_at b.store.records place).physical = sym (ap (λ (l : Line). l.physical) k.1) ∙ f.its_line in
        ⊎_elim (λ a. absurd (k.2 (inl a))) (λ a. inl a) (one_astray f.lower place (λ e. omega (arith, f.below, e)) k.0 h q)

never-by : (s : Shape) (b : Board) (flags : List ℕ) → Sort s b → s.ways ≡ 1 → (checked s b).rule ≢ 1 → (checked s b).rule ≢ 2 → (place : ℕ)
    → holds_at s b.store.records place ≡ true → holds_at s (repair_board s b flags).store.records place ≡ false → Alone s b place
never-by s b flags (unfit h) one n m place held gone = absurd (n (ap (λ (x : Report). x.rule) (unfit-left s b flags h).0))
never-by s b flags (doubled h frame e) one n m place held gone = absurd (m (ap (λ (x : Report). x.rule) (doubled-left s b flags frame h e).0))
never-by s b flags (mendable h e) one n m place held gone =
    let x = mended-repairs s b h e flags in
    alone-by s b h one flags x place gone held (x.left place (held-listed s b.store.records place s.lines (board-shaped s b h).records_are held))

pub never-guesses : NeverGuesses
never-guesses = record {
  one_astray = λ s b f one. one_astray s b f one;
  dropped_alone = λ s b flags one n m place. never-by s b flags (sort s b) one n m place;
}
