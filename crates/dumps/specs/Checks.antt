-- 02, CR 13: the checker of a dumped board. It says yes, or gives the first broken rule and the lowest frame or place in it, 0 for lengths.
use Rattle.std.specs.Prelude.{ℕ, ◌*◌, Bool, not, ◌&&◌, cond, List, leb, Option, Some, None}
use Rattle.board.specs.Searches.{first}
use Rattle.board.specs.declared.Shape.{Shape}
use Rattle.board.specs.declared.Home.{Home}
use Rattle.pages.specs.Pages.{home_of}
use Rattle.stores.specs.Stores.{Store}
use Rattle.machine.specs.Boards.{Board, fits_board}
use Rattle.dump_pages.specs.Pages.{doubled_page}
use Rattle.dump_lines.specs.Lines.{doubled_line, astray, stale}
use Rattle.dumps.specs.declared.Report.{Report}

-- a broken rule, and where
abbrev pub report : ℕ → ℕ → Report
report rule place = record { number = 0; rule = rule; place = place; dropped = 0 }

-- yes: no rule is broken
abbrev pub yes : Report
yes = report 0 0

-- the call itself is refused, by 1
abbrev pub too_short : Report
too_short = record { number = 1; rule = 0; place = 0; dropped = 0 }

-- a rule that is broken where something is found, else the rules after it
unfoldable pub or_else : ℕ → Option ℕ → Report → Report
or_else rule (Some place) later = report rule place
or_else rule None later = later

-- every unchanged held line equals memory
abbrev pub from_rule5 : Shape → Store → Report
from_rule5 s x = or_else 5 (first (stale s x) 0 s.lines) yes

-- each held line's physical line is the one its name maps to, with that page's permission
abbrev pub from_rule4 : Shape → (ℕ → Option Home) → Store → Report
from_rule4 s home x = or_else 4 (first (astray s home x) 0 s.lines) (from_rule5 s x)

-- no physical line is held twice
abbrev pub from_rule3 : Shape → (ℕ → Option Home) → Store → Report
from_rule3 s home x = or_else 3 (doubled_line s x.records) (from_rule4 s home x)

-- no page has two frames from U up
abbrev pub from_rule2 : Shape → List ℕ → Store → Report
from_rule2 s words x = or_else 2 (doubled_page s words) (from_rule3 s (home_of s words) x)

-- rule 1: the lengths agree and the limits hold
unfoldable pub checked : Shape → Board → Report
checked s b = cond (fits_board s b) (from_rule2 s b.words b.store) (report 1 0)

-- ---- the call

-- the scratch has a key for each frame and each place, and two links for each key
abbrev pub room_for : Shape → ℕ → ℕ → Bool
room_for s keys links = leb s.frames keys && (leb (2 * s.frames) links && (leb s.lines keys && leb (2 * s.lines) links))

-- a board that keeps rule 1, with too little scratch, is refused by the call's own 1; any other is checked
unfoldable pub check_call : Shape → Board → ℕ → ℕ → Report
check_call s b keys links = cond (fits_board s b && not (room_for s keys links)) too_short (checked s b)
