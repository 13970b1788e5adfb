-- 02, CR 13, rule 2: no page has two frames from U up.
use Rattle.std.specs.Prelude.{ℕ, ◌/◌, ◌%◌, ◌&&◌, cond, List, get_or, eqb, leb, Option}
use Rattle.address.specs.Addresses.{ordinary_page}
use Rattle.board.specs.declared.Shape.{Shape}
use Rattle.doubles.specs.Doubles.{first_double}

-- the ordinary page that a word names; 0 if there is none (no ordinary page is 0)
unfoldable pub page_in : ℕ → ℕ
page_in word = cond (eqb (word % 2) 1 && ordinary_page (word / 4)) (word / 4) 0

-- the ordinary page that the word of a frame from U up names; 0 if there is none
unfoldable pub page_at : Shape → List ℕ → ℕ → ℕ
page_at s words f = cond (leb s.uncached f) (page_in (get_or words f 0)) 0

-- the lowest frame from U up whose ordinary page a higher frame names too
unfoldable pub doubled_page : Shape → List ℕ → Option ℕ
doubled_page s words = first_double (page_at s words) s.frames
