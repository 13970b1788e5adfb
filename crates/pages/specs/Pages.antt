-- 01, "The board": the frame words, and what they map.
use Rattle.std.specs.Prelude.{ℕ, suc, ◌+◌, ◌*◌, ◌/◌, ◌%◌, Bool, true, ◌&&◌, ◌||◌, cond, List, [], ◌∷◌, drop, get_or, eqb, leb, ltb, Option, Some, None}
use Rattle.address.specs.Layout.{page_lines, prefix_lines}
use Rattle.address.specs.Addresses.{ordinary_page, page_of_name}
use Rattle.board.specs.Homes.{at_line}
use Rattle.board.specs.Lists.{bit}
use Rattle.board.specs.declared.Shape.{Shape}
use Rattle.board.specs.declared.Home.{Home}

-- the word of a frame that a page is mapped to: page × 4 + 2 × write bit + 1
abbrev pub frame_word : ℕ → Bool → ℕ
frame_word page write = page * 4 + 2 * bit write + 1

-- a word names a page if it is exactly page × 4 + 1 or page × 4 + 3
abbrev pub names_page : ℕ → ℕ → Bool
names_page word page = eqb word (page * 4 + 1) || eqb word (page * 4 + 3)

-- the write bit of a frame word that names a page
abbrev pub word_writes : ℕ → Bool
word_writes word = eqb (word / 2 % 2) 1

-- the lowest frame whose word names the page, among these words, of which the first is frame f's
unfoldable pub lowest_from : List ℕ → ℕ → ℕ → Option ℕ
lowest_from [] f page = None
lowest_from (w ∷ ws) f page = cond (names_page w page) (Some f) (lowest_from ws (suc f) page)

-- the lowest frame from u up whose word names the page
unfoldable pub lowest_frame : List ℕ → ℕ → ℕ → Option ℕ
lowest_frame words u page = lowest_from (drop u words) u page

-- an ordinary page is mapped to the lowest frame from U up whose word names it; no other page is mapped
unfoldable pub mapped_to : Shape → List ℕ → ℕ → Option ℕ
mapped_to s words page = cond (ordinary_page page) (lowest_frame words s.uncached page) None

-- a frame from U up, inside memory, whose word is 0
unfoldable pub free_frame : Shape → List ℕ → ℕ → Bool
free_frame s words frame = leb s.uncached frame && (ltb frame s.frames && eqb (get_or words frame 0) 0)

-- the frame of a line named under prefix 1, and the prefix 1 page of a frame
abbrev pub direct_frame : ℕ → ℕ
direct_frame name = name % prefix_lines / page_lines

abbrev pub direct_page : ℕ → ℕ
direct_page frame = prefix_lines / page_lines + frame

-- a name under prefix 1 is the physical line itself, with write permission, where its frame is free
unfoldable pub direct_home : Shape → List ℕ → ℕ → Option Home
direct_home s words name =
    cond (eqb (name / prefix_lines) 1 && free_frame s words (direct_frame name)) (Some (at_line (name % prefix_lines) true)) None

-- the line of a name in the frame of its page
abbrev pub line_in : ℕ → ℕ → ℕ
line_in frame name = frame * page_lines + name % page_lines

unfoldable pub home_by : Shape → List ℕ → ℕ → Option ℕ → Option Home
home_by s words name (Some frame) = Some (at_line (line_in frame name) (word_writes (get_or words frame 0)))
home_by s words name None = direct_home s words name

-- the physical line that a line name maps to, with its permission
unfoldable pub home_of : Shape → List ℕ → ℕ → Option Home
home_of s words name = home_by s words name (mapped_to s words (page_of_name name))
