-- What protect and flush all make of one line.
use Prim.Native.Nat.{ℕ, ◌/◌}
use mathlib.Core.Path.{◌≡◌, refl}
use mathlib.Core.Bool.{Bool, true, false, ◌&&◌, cond}
use mathlib.Core.List.{List}
use lib.Dec.{eqb}
use lib.ListN.{length}
use Rattle.board.specs.declared.Shape.{Shape}
use Rattle.line_bytes.specs.Bytes.{line_of, with_line}
use Rattle.lines.specs.Records.{no_line, permitted_line}
use Rattle.lines.specs.Holds.{holds_line}
use Rattle.ranges.specs.Ranges.{named}
use Rattle.ranges.proofs.Ranges.{page-names}
use Rattle.visits.specs.Visits.{protect_visit, flush_visit}
use Rattle.lines.specs.declared.Line.{Line}
use Rattle.line_bytes.proofs.Bytes.{length-line}
use Rattle.record_steps.specs.Lent.{treated_line, line_visited, line_flushed}

module _ (s : Shape) (i : ℕ) (l : Line) (t : Bool) (e : t ≡ holds_line s i l) where
  pub permitted-now : (page : ℕ) (write : Bool) → (t && eqb (l.name / 256) page) ≡ true → permitted_line l write ≡ line_visited s (protect_visit page write) i l
  unfolding line_visited treated_line named
  permitted-now page write h = rw (page-names page l.name, ← e, h)

  pub permitted-not : (page : ℕ) (write : Bool) → (t && eqb (l.name / 256) page) ≡ false → l ≡ line_visited s (protect_visit page write) i l
  unfolding line_visited treated_line named
  permitted-not page write h = rw (page-names page l.name, ← e, h)

  pub flushed-now : t ≡ true → no_line ≡ line_visited s flush_visit i l
  unfolding line_visited treated_line named
  flushed-now h = rw (← e, h)

  pub flushed-not : t ≡ false → l ≡ line_visited s flush_visit i l
  unfolding line_visited treated_line named
  flushed-not h = rw (← e, h)

  module _ (cache memory : List ℕ) where
    pub memory-now : (m : List ℕ) → t ≡ true → l.changed ≡ true → m ≡ with_line memory l.physical (line_of cache i) → m ≡ line_flushed s i l cache memory
    unfolding line_flushed
    memory-now m h c f = rw (← e, h, c, f)

    pub memory-clean : t ≡ true → l.changed ≡ false → memory ≡ line_flushed s i l cache memory
    unfolding line_flushed
    memory-clean h c = rw (← e, h, c)

    pub memory-not : t ≡ false → memory ≡ line_flushed s i l cache memory
    unfolding line_flushed
    memory-not h = rw (← e, h)

pub length-flushed : (s : Shape) (i : ℕ) (l : Line) (cache memory : List ℕ) → length (line_flushed s i l cache memory) ≡ length memory
unfolding line_flushed
length-flushed s i l cache memory = go (holds_line s i l && l.changed)
  where
    go : (t : Bool) → length (cond t (with_line memory l.physical (line_of cache i)) memory) ≡ length memory
    go true = length-line memory l.physical (line_of cache i)
    go false = refl
