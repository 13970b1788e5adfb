-- How the code inside mends a line. No call's definition needs this.
use Rattle.std.specs.Prelude.{ℕ, Bool, not, ◌&&◌, cond, List, eqb}
use Rattle.board.specs.declared.Shape.{Shape}
use Rattle.lines.specs.Records.{put_line, no_line}
use Rattle.lines.specs.Holds.{holds_at}

-- a place is kept if it has a key and the tree has it for that key
abbrev pub kept_at : ℕ → ℕ → ℕ → Bool
kept_at key at i = not (eqb key 0) && eqb at i

-- record i dropped unless it is kept
unfoldable pub mended_to : Shape → ℕ → Bool → List ℕ → List ℕ
mended_to s i keep records = cond (holds_at s records i && not keep) (put_line records i no_line) records
