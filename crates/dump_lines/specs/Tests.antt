-- How the code inside tests lines. No call's definition needs this.
use Rattle.std.specs.Prelude.{ℕ, ◌+◌, ◌/◌, ◌%◌, Bool, ◌&&◌, cond, List, eqb, leb, get_or, Option}
use Rattle.address.specs.Layout.{page_lines, prefix_lines}
use Rattle.address.specs.Addresses.{ordinary_page}
use Rattle.board.specs.declared.Shape.{Shape}
use Rattle.board.specs.declared.Home.{Home}
use Rattle.pages.specs.Pages.{word_writes}
use Rattle.lines.specs.declared.Line.{Line}
use Rattle.stores.specs.Stores.{Store}
use Rattle.dump_lines.specs.Lines.{same_bit, held_line, breaks_alone}

-- the frame of a line's physical line, and its word
abbrev pub own_frame : Line → ℕ
own_frame l = l.physical / page_lines

abbrev pub own_word : List ℕ → Line → ℕ
own_word words l = get_or words (own_frame l) 0

-- the test of rule 4 by the line's own frame: the same as by what its name maps to, where no page has two frames
unfoldable pub in_frame : Shape → List ℕ → Line → Bool
in_frame s words l =
    leb s.uncached (own_frame l)
    && cond (ordinary_page (l.name / page_lines))
    (eqb (own_word words l % 2) 1 && (eqb (own_word words l / 4) (l.name / page_lines) && (eqb (l.name % page_lines) (l.physical % page_lines)
    && same_bit (word_writes (own_word words l)) l.write)))
    (eqb (own_word words l) 0 && (eqb l.name (prefix_lines + l.physical) && l.write))

-- the key of place i; with `fine`, only of a line that breaks no rule alone
unfoldable pub place_key : Bool → Shape → (ℕ → Option Home) → Store → ℕ → ℕ
place_key fine s home x i = cond (fine && breaks_alone s home x i) 0 (held_line s x.records i)
