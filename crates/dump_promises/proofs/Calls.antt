-- The two calls, by their contracts; and how often a search turns.
use Rattle.std.specs.Prelude.{Option}
use Prim.Native.Nat.{ℕ, ◌+◌, ◌/◌, ◌%◌, ◌^◌, ◌≤◌, ◌<◌}
use mathlib.Core.Path.{◌≡◌, ◌∙◌, sym, refl, ap}
use mathlib.Core.Logic.{◌⊎◌, ⊎_elim}
use mathlib.Core.Bool.{Bool, true, false, not, ◌&&◌, cond}
use mathlib.Core.List.{List}
use native.Mathlib.Omega.{arith}
use borrow.Author.Tests.{leb-true}
use lib.Dec.{eqb, leb}
use lib.ListN.{get_or}
use Rattle.address.specs.Layout.{first_page, last_page}
use Rattle.address.specs.Addresses.{ordinary_page}
use Rattle.board.specs.Shapes.{max_frames}
use Rattle.board.specs.declared.Shape.{Shape}
use Rattle.board.specs.declared.Home.{Home}
use Rattle.board.proofs.Bools.{clash, and_right}
use Rattle.lines.specs.Records.{line_at}
use Rattle.lines.specs.Holds.{holds_at}
use Rattle.stores.specs.Stores.{Store}
use Rattle.stores.specs.Lent.{Buffer}
use Rattle.machine.specs.Boards.{Board, fits_board, with_store}
use Rattle.store_laws.proofs.Held.{held_in}
use Rattle.doubles.specs.Doubles.{keys_of}
use Rattle.doubles.proofs.Keys.{keys_below}
use Rattle.doubles.proofs.Turns.{few-turns}
use Rattle.dump_pages.specs.Pages.{page_in, page_at}
use Rattle.dump_lines.specs.Lines.{held_line, breaks_alone}
use Rattle.dump_lines.specs.Tests.{place_key}
use Rattle.dumps.specs.declared.Report.{Report}
use Rattle.dumps.specs.Checks.{too_short, checked, check_call}
use Rattle.dumps.specs.Clauses.{Kept, Check}
use Rattle.repairs.specs.Repairs.{Repaired, repair_outcome, repair_board, repair_call}
use Rattle.repairs.specs.Clauses.{Repair}
use Rattle.dump_promises.specs.Calls.{Room, Enough, ChecksAlike, RepairsAlike, SearchesEnd}
use Rattle.dump_promises.proofs.Checker.{checker-is-right}
use Rattle.dump_promises.proofs.Repairer.{report-number}

either : (t u : Bool) → (t ≡ false) ⊎ (u ≡ true) → (t && not u) ≡ false
either true u h = ⊎_elim (λ e. clash true refl e) (λ e. rw e) h
either false u h = refl

-- a report of the checker has the call's number 0
checked-number : (s : Shape) (b : Board) → (checked s b).number ≡ 0
checked-number s b = ap (λ (r : Report). r.number) (checker-is-right.always s b)

module _ (s : Shape) (b : Board) (keys links : Buffer) (r : Report) (x : Check s b keys links r) where
  abbrev room : Bool
  room = Room s keys links

  is : r ≡ cond (fits_board s b && not room) too_short (checked s b)
  unfolding check_call
  is = x.report_is

  check-says : r.number ≡ 0 → r ≡ checked s b
  check-says z = go (fits_board s b && not room) refl
    where
      go : (t : Bool) → (fits_board s b && not room) ≡ t → r ≡ checked s b
      go true t = absurd (let e : r ≡ too_short = is ∙ rw t in let w : r.number ≡ 1 = ap (λ (q : Report). q.number) e in omega arith)
      go false t = is ∙ rw t

  check-answered : (fits_board s b ≡ false) ⊎ (room ≡ true) → r.number ≡ 0
  check-answered h =
      let e : r ≡ checked s b = is ∙ rw (either (fits_board s b) room h) in
      ap (λ (q : Report). q.number) e ∙ checked-number s b

  check-short : fits_board s b ≡ true → room ≡ false → (r ≡ too_short) × Kept keys × Kept links
  check-short f n = let k = x.scratch_kept (rw (f, n)) in (is ∙ rw (f, n), k.0, k.1)

pub checks-alike : ChecksAlike
checks-alike = record {
  says = check-says;
  answered = check-answered;
  short = check-short;
  one_report = λ s b keys links keys' links' r r' k l x y. x.report_is ∙ rw (k, l) (sym y.report_is);
}

module _ (s : Shape) (b c : Board) (keys links flags : Buffer) (r : Report) (y : Repair s b keys links flags r c) where
  abbrev enough : Bool
  enough = Enough s keys links flags

  abbrev refusal : Repaired
  refusal = repair_outcome too_short b.store flags.before

  abbrev repairing : Repaired
  repairing = repair_board s b flags.before

  outcome : repair_outcome r c.store flags.after ≡ cond (fits_board s b && not enough) refusal repairing
  unfolding repair_call
  outcome = y.outcome_is

  -- the outcome taken apart
  parts : (o : Repaired) → repair_outcome r c.store flags.after ≡ o → (r ≡ o.report) × (c ≡ with_store b o.store) × (flags.after ≡ o.flags)
  parts o e =
      let x : c.store ≡ o.store = ap (λ (o : Repaired). o.store) e in
      (ap (λ (o : Repaired). o.report) e, y.rest_kept ∙ ap (with_store b) x, ap (λ (o : Repaired). o.flags) e)

  repair-says : r.number ≡ 0 → (r ≡ repairing.report) × (c ≡ with_store b repairing.store) × (flags.after ≡ repairing.flags)
  repair-says z = go (fits_board s b && not enough) refl
    where
      go : (t : Bool) → (fits_board s b && not enough) ≡ t → (r ≡ repairing.report) × (c ≡ with_store b repairing.store) × (flags.after ≡ repairing.flags)
      go true t = absurd (let w : r.number ≡ 1 = ap (λ (q : Report). q.number) (parts refusal (outcome ∙ rw t)).0 in omega arith)
      go false t = parts repairing (outcome ∙ rw t)

  repair-answered : (fits_board s b ≡ false) ⊎ (enough ≡ true) → r.number ≡ 0
  repair-answered h =
      ap (λ (q : Report). q.number) (parts repairing (outcome ∙ rw (either (fits_board s b) enough h))).0 ∙ report-number s b flags.before

  repair-short : fits_board s b ≡ true → enough ≡ false → (r ≡ too_short) × (c ≡ b) × Kept flags × Kept keys × Kept links
  repair-short f n =
      let k = y.scratch_kept (rw (f, n)) in
      let p = parts refusal (outcome ∙ rw (f, n)) in
      (p.0, p.1, p.2, k.0, k.1)

pub repairs-alike : RepairsAlike
repairs-alike = record {
  says = repair-says;
  answered = repair-answered;
  short = repair-short;
  one_outcome = λ s b c c' keys links keys' links' flags flags' r r' k l f y z.
      let o : repair_outcome r c.store flags.after ≡ repair_outcome r' c'.store flags'.after = y.outcome_is ∙ rw (k, l, f) (sym z.outcome_is) in
      let x : c.store ≡ c'.store = ap (λ (o : Repaired). o.store) o in
      (ap (λ (o : Repaired). o.report) o, y.rest_kept ∙ ap (with_store b) x ∙ sym z.rest_kept, ap (λ (o : Repaired). o.flags) o);
}

-- ---- how often a search turns

page-below : (s : Shape) (words : List ℕ) (f : ℕ) → page_at s words f < 2 ^ 32
unfolding page_at page_in
page-below s words f = go (leb s.uncached f) (eqb (get_or words f 0 % 2) 1 && ordinary_page (get_or words f 0 / 4)) refl
  where
    go : (t u : Bool) → (eqb (get_or words f 0 % 2) 1 && ordinary_page (get_or words f 0 / 4)) ≡ u → cond t (cond u (get_or words f 0 / 4) 0) 0 < 2 ^ 32
    go true true e =
        let o = and_right (eqb (get_or words f 0 % 2) 1) (ordinary_page (get_or words f 0 / 4)) e in
        omega (arith, leb-true (get_or words f 0 / 4) last_page (and_right (leb first_page (get_or words f 0 / 4)) _ o))
    go true false e = omega arith
    go false u e = omega arith

line-below : (fine : Bool) (s : Shape) (home : ℕ → Option Home) (x : Store) → s.frames ≤ max_frames → (i : ℕ) → place_key fine s home x i < 2 ^ 29
unfolding place_key held_line
line-below fine s home x few i = go (fine && breaks_alone s home x i) (holds_at s x.records i) refl
  where
    go : (t u : Bool) → holds_at s x.records i ≡ u → cond t 0 (cond u ((line_at x.records i).physical + 1) 0) < 2 ^ 29
    go true u e = omega arith
    go false true e = omega (arith, held_in s x.records i e)
    go false false e = omega arith

pub searches-end : SearchesEnd
searches-end = record {
  pages = λ s words links n frame turns node t u.
      few-turns (keys_of (page_at s words) s.frames) links n 32 t (keys_below (page_at s words) s.frames (2 ^ 32) (omega arith) (page-below s words))
      (page_at s words frame) turns node (page-below s words frame) u;
  lines = λ fine s home x links n place turns node few t u.
      few-turns (keys_of (place_key fine s home x) s.lines) links n 29 t
      (keys_below (place_key fine s home x) s.lines (2 ^ 29) (omega arith) (line-below fine s home x few))
      (place_key fine s home x place) turns node (line-below fine s home x few place) u;
}
