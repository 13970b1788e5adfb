-- The physical line of a line name, and whether users may write it.
use Rattle.std.specs.Prelude.{ℕ, Bool}
use Rattle.board.specs.declared.Home.{Home}

abbrev pub at_line : ℕ → Bool → Home
at_line line write = record { line = line; write = write }
