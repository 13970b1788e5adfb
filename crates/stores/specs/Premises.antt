-- What the code inside asks of its callers. No call's definition needs this: a public call asks nothing.
use Rattle.std.specs.Prelude.{ℕ, ◌*◌, ◌≡◌, List, length}
use Rattle.address.specs.Layout.{line_bytes, page_bytes}
use Rattle.board.specs.Shapes.{record_words}
use Rattle.board.specs.declared.Shape.{Shape}
use Rattle.lines.specs.Premises.{Lined}

-- the lists have the sizes that an accepted shape says
pub record Sized (s : Shape) (records cache memory : List ℕ) : Type 0 where
  pub lined : Lined s
  pub records_are : length records ≡ record_words * s.lines
  pub cache_is : length cache ≡ line_bytes * s.lines
  pub memory_is : length memory ≡ page_bytes * s.frames
