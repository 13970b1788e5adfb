-- 02, CR 13: the repair. It writes nothing to memory and only drops lines, keeping every line that breaks no rule alone or with a lower line that is
-- kept; wrong lengths and doubled pages are reported and nothing is changed.
use Rattle.std.specs.Prelude.{ℕ, zero, suc, ◌+◌, Bool, false, not, ◌&&◌, ◌||◌, cond, List, eqb, length, Option, Some, None}
use Rattle.board.specs.Lists.{bit}
use Rattle.board.specs.declared.Shape.{Shape}
use Rattle.board.specs.declared.Home.{Home}
use Rattle.pages.specs.Pages.{home_of}
use Rattle.lines.specs.Records.{line_at}
use Rattle.lines.specs.Holds.{holds_at, keeps_line}
use Rattle.stores.specs.Stores.{Store, dropped}
use Rattle.visits.specs.Visits.{sweep}
use Rattle.machine.specs.Boards.{Board, fits_board}
use Rattle.doubles.specs.Doubles.{keys_of}
use Rattle.dump_pages.specs.Pages.{doubled_page}
use Rattle.dump_lines.specs.Lines.{breaks_alone}
use Rattle.dumps.specs.declared.Report.{Report}
use Rattle.dumps.specs.Checks.{report, too_short, from_rule3, room_for}

-- one of the n lowest records holds this physical line
unfoldable pub held_below : Shape → List ℕ → ℕ → ℕ → Bool
held_below s records line zero = false
held_below s records line (suc n) = keeps_line s records line n || held_below s records line n

-- record i mended: a held line is dropped if it breaks a rule alone, or with a lower line that is held still
unfoldable pub mended : Shape → (ℕ → Option Home) → ℕ → Store → Store
mended s home i x =
    cond (holds_at s x.records i && (breaks_alone s home x i || held_below s x.records (line_at x.records i).physical i)) (dropped i x) x

-- all records mended, by rising place: of those below, the lines that are held still are those that are kept
unfoldable pub repaired : Shape → (ℕ → Option Home) → Store → Store
repaired s home x = sweep (mended s home) s.lines 0 x

-- ---- which lines were dropped, by the records before and after, and how many

abbrev pub dropped_at : Shape → List ℕ → List ℕ → ℕ → Bool
dropped_at s before after i = holds_at s before i && not (holds_at s after i)

unfoldable pub how_many : (ℕ → Bool) → ℕ → ℕ
how_many test zero = 0
how_many test (suc n) = how_many test n + bit (test n)

-- a flag for each place: 1 where the line was dropped, else 0
abbrev pub dropped_flags : Shape → List ℕ → List ℕ → List ℕ
dropped_flags s before after = keys_of (λ i. bit (dropped_at s before after i)) s.lines

abbrev pub dropped_count : Shape → List ℕ → List ℕ → ℕ
dropped_count s before after = how_many (dropped_at s before after) s.lines

-- ---- the call

-- what a repair says and leaves: the report, the store, the flags
pub record Repaired : Type 0 where
  pub report : Report
  pub store : Store
  pub flags : List ℕ

abbrev pub repair_outcome : Report → Store → List ℕ → Repaired
repair_outcome r x flags = record { report = r; store = x; flags = flags }

-- a report with the number of dropped lines
abbrev pub with_dropped : Report → ℕ → Report
with_dropped r n = record { number = r.number; rule = r.rule; place = r.place; dropped = n }

-- the lines repaired; what the checker says of the rules 3 to 5 before
abbrev pub mended_lines : Shape → (ℕ → Option Home) → Store → Repaired
mended_lines s home x =
    repair_outcome (with_dropped (from_rule3 s home x) (dropped_count s x.records (repaired s home x).records)) (repaired s home x)
    (dropped_flags s x.records (repaired s home x).records)

-- a doubled page is reported and nothing is changed
unfoldable pub mended_pages : Shape → List ℕ → Store → List ℕ → Option ℕ → Repaired
mended_pages s words x flags (Some frame) = repair_outcome (report 2 frame) x flags
mended_pages s words x flags None = mended_lines s (home_of s words) x

-- and so are wrong lengths
unfoldable pub repair_board : Shape → Board → List ℕ → Repaired
repair_board s b flags =
    cond (fits_board s b) (mended_pages s b.words b.store flags (doubled_page s b.words)) (repair_outcome (report 1 0) b.store flags)

-- a board that keeps rule 1, with too little scratch or not as many flags as lines, is refused by the call's own 1
unfoldable pub repair_call : Shape → Board → ℕ → ℕ → List ℕ → Repaired
repair_call s b keys links flags =
    cond (fits_board s b && not (room_for s keys links && eqb (length flags) s.lines)) (repair_outcome too_short b.store flags) (repair_board s b flags)
