-- Every report fits: a rule is at most 5, a frame is below F, a place below L, and no more lines are dropped than there are.
use Rattle.std.specs.Prelude.{Option, Some, None}
use Prim.Native.Nat.{ℕ, ◌+◌, ◌*◌, ◌/◌, ◌%◌, ◌≤◌, ◌<◌, ◌^◌}
use mathlib.Core.Path.{◌≡◌, refl, sym, ap, ◌∙◌}
use mathlib.Core.Bool.{Bool, true, false, not, ◌&&◌, cond}
use mathlib.Core.List.{List}
use native.Mathlib.Omega.{arith}
use lib.Dec.{eqb}
use lib.ListN.{length}
use Rattle.board.specs.Searches.{first}
use Rattle.board.specs.Shapes.{max_frames, max_lines}
use Rattle.board.specs.declared.Shape.{Shape}
use Rattle.board.specs.declared.Home.{Home}
use Rattle.board.proofs.Searches.{first-at}
use Rattle.board.proofs.Shapes.{shaped}
use Rattle.pages.specs.Pages.{home_of}
use Rattle.stores.specs.Stores.{Store}
use Rattle.stores.specs.Lent.{Buffer}
use Rattle.machine.specs.Boards.{Board, fits_board}
use Rattle.dump_pages.specs.Pages.{doubled_page}
use Rattle.dump_lines.specs.Lines.{doubled_line}
use Rattle.dumps.specs.declared.Report.{Report}
use Rattle.dumps.specs.Checks.{report, too_short, or_else, from_rule2, from_rule3, checked, room_for, check_call}
use Rattle.dumps.specs.Clauses.{Check}
use Rattle.repairs.specs.Clauses.{Repair}
use Rattle.repairs.specs.Repairs.{Repaired, repaired, dropped_at, mended_pages, repair_board, repair_call}
use Rattle.repairs.proofs.Repairs.{how-many-most}
use Rattle.oaledva_dump.specs.Reports.{number_unit, rule_unit, dropped_unit, unpacked, Small, ReportsFit}

-- a report of a rule up to 5 and a place that fits
small-report : (rule place : ℕ) → rule ≤ 5 → place < 2 ^ 24 → Small (report rule place)
small-report rule place h l = record { number_below = omega arith; rule_at_most = omega arith; dropped_below = omega arith; place_below = l }

small-or : (rule n : ℕ) (found : Option ℕ) (later : Report) → rule ≤ 5 → n ≤ max_frames → ((i : ℕ) → found ≡ Some i → i < n) → Small later → Small (or_else rule found later)
unfolding or_else
small-or rule n (Some i) later h l f x = small-report rule i h (let b = f i refl in omega arith)
small-or rule n None later h l f x = x

found_below : (test : ℕ → Bool) (n i : ℕ) → first test 0 n ≡ Some i → i < n
found_below test n i e = omega (arith, (first-at test 0 n i e).to)

module _ (s : Shape) (frames : s.frames ≤ max_frames) (lines : s.lines ≤ max_lines) where
  small-3 : (home : ℕ → Option Home) (x : Store) → Small (from_rule3 s home x)
  unfolding doubled_line
  small-3 home x =
      small-or 3 s.lines _ _ (omega arith) (omega arith) (λ i e. found_below _ s.lines i e)
      (small-or 4 s.lines _ _ (omega arith) (omega arith) (λ i e. found_below _ s.lines i e)
      (small-or 5 s.lines _ _ (omega arith) (omega arith) (λ i e. found_below _ s.lines i e) (small-report 0 0 (omega arith) (omega arith))))

  small-2 : (words : List ℕ) (x : Store) → Small (from_rule2 s words x)
  unfolding doubled_page
  small-2 words x = small-or 2 s.frames _ _ (omega arith) (omega arith) (λ i e. found_below _ s.frames i e) (small-3 (home_of s words) x)

  small-mended : (words : List ℕ) (x : Store) (flags : List ℕ) (found : Option ℕ) → (found ≡ doubled_page s words) → Small (mended_pages s words x flags found).report
  unfolding mended_pages doubled_page
  small-mended words x flags (Some f) e = small-report 2 f (omega arith) (let b = found_below _ s.frames f (sym e) in omega arith)
  small-mended words x flags None e =
      let a = small-3 (home_of s words) x in
      let d = how-many-most (dropped_at s x.records (repaired s (home_of s words) x).records) s.lines in
      record { number_below = a.number_below; rule_at_most = a.rule_at_most; dropped_below = omega arith; place_below = a.place_below }

small-short : Small too_short
small-short = record { number_below = omega arith; rule_at_most = omega arith; dropped_below = omega arith; place_below = omega arith }

small-unfit : Small (report 1 0)
small-unfit = small-report 1 0 (omega arith) (omega arith)

small-checked : (s : Shape) (b : Board) → Small (checked s b)
unfolding checked
small-checked s b = go (fits_board s b) refl
  where
    go : (t : Bool) → fits_board s b ≡ t → Small (cond t (from_rule2 s b.words b.store) (report 1 0))
    go true t =
        let z = shaped s _ _ _ _ _ _ (fits_board s b) refl t in
        small-2 s z.frames_max z.lines_max b.words b.store
    go false t = small-unfit

pub check-small : (s : Shape) (b : Board) (keys links : ℕ) → Small (check_call s b keys links)
unfolding check_call
check-small s b keys links = go (fits_board s b && not (room_for s keys links))
  where
    go : (t : Bool) → Small (cond t too_short (checked s b))
    go true = small-short
    go false = small-checked s b

small-board : (s : Shape) (b : Board) (flags : List ℕ) → Small (repair_board s b flags).report
unfolding repair_board
small-board s b flags = go (fits_board s b) refl
  where
    go : (t : Bool) → fits_board s b ≡ t
        → Small (cond t (mended_pages s b.words b.store flags (doubled_page s b.words)) (record { report = report 1 0; store = b.store; flags = flags })).report
    go true t =
        let z = shaped s _ _ _ _ _ _ (fits_board s b) refl t in
        small-mended s z.frames_max z.lines_max b.words b.store flags (doubled_page s b.words) refl
    go false t = small-unfit

pub repair-small : (s : Shape) (b : Board) (keys links : ℕ) (flags : List ℕ) → Small (repair_call s b keys links flags).report
unfolding repair_call
repair-small s b keys links flags = go (fits_board s b && not (room_for s keys links && eqb (length flags) s.lines))
  where
    go : (t : Bool) → Small (cond t (record { report = too_short; store = b.store; flags = flags }) (repair_board s b flags)).report
    go true = small-short
    go false = small-board s b flags

pub packs : (r : Report) → Small r → unpacked (r.number * number_unit + r.rule * rule_unit + r.dropped * dropped_unit + r.place) ≡ r
unfolding unpacked
packs r z =
    let n = r.number * number_unit + r.rule * rule_unit + r.dropped * dropped_unit + r.place in
    let a : n / number_unit ≡ r.number = omega (arith, z.rule_at_most, z.dropped_below, z.place_below) in
    let b : n / rule_unit % (number_unit / rule_unit) ≡ r.rule = omega (arith, z.rule_at_most, z.dropped_below, z.place_below) in
    let c : n / dropped_unit % (rule_unit / dropped_unit) ≡ r.dropped = omega (arith, z.rule_at_most, z.dropped_below, z.place_below) in
    let d : n % dropped_unit ≡ r.place = omega (arith, z.rule_at_most, z.dropped_below, z.place_below) in
    rw (a, b, c, d)

-- a number is its four parts
abbrev parts : Report → ℕ
parts x = x.number * number_unit + x.rule * rule_unit + x.dropped * dropped_unit + x.place

whole : (r : ℕ) → parts (unpacked r) ≡ r
unfolding unpacked
whole r = omega arith

nothing_lost : (r q : ℕ) → unpacked r ≡ unpacked q → r ≡ q
nothing_lost r q e = sym (whole r) ∙ ap parts e ∙ whole q

pub reports-fit : ReportsFit
reports-fit = record { checks = check-small; repairs = repair-small; nothing_lost = nothing_lost }

-- ---- the contracts, with the report read off its number

module _ (s : Shape) (b : Board) (keys links : Buffer) (r : Report) where
  pub small-check : Check s b keys links r → Small r
  small-check h = rw h.report_is (check-small s b _ _)

  pub crosses-check : (n : ℕ) → Check s b keys links r → unpacked n ≡ r → Check s b keys links (unpacked n)
  crosses-check n h e = rw e h

  module _ (flags : Buffer) (c : Board) where
    pub small-repair : Repair s b keys links flags r c → Small r
    small-repair h = rw (ap (λ (o : Repaired). o.report) h.outcome_is) (repair-small s b _ _ _)

    pub crosses-repair : (n : ℕ) → Repair s b keys links flags r c → unpacked n ≡ r → Repair s b keys links flags (unpacked n) c
    crosses-repair n h e = rw e h
