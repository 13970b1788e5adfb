-- A store (records, cache bytes, memory) stands for a flat memory. Everything is indexed by line and offset in it.
-- Stated over the number of lines in a set, and over any map from line names to homes that never gives two names one home.
use Rattle.std.specs.Prelude.{Option, Some}
use Prim.Native.Nat.{ℕ, ◌+◌, ◌*◌, ◌/◌, ◌<◌}
use mathlib.Core.Path.{◌≡◌}
use mathlib.Core.Bool.{Bool, true, false}
use mathlib.Core.List.{List}
use lib.ListN.{length, get_or}
use Rattle.address.specs.Layout.{page_lines}
use Rattle.board.specs.Homes.{at_line}
use Rattle.board.specs.declared.Shape.{Shape}
use Rattle.board.specs.declared.Home.{Home}
use Rattle.lines.specs.Records.{line_at}
use Rattle.stores.specs.Stores.{Store}
use Rattle.lines.specs.Holds.{holds_at}

-- byte k of line p
abbrev pub byte : List ℕ → ℕ → ℕ → ℕ
byte l p k = get_or l (16 * p + k) 0

-- a map from names to homes: no two names share one, and a home is inside memory
pub record Homes (s : Shape) (home : ℕ → Option Home) : Type 0 where
  pub apart : (n m p : ℕ) (w v : Bool) → home n ≡ Some (at_line p w) → home m ≡ Some (at_line p v) → n ≡ m
  pub inside : (n p : ℕ) (w : Bool) → home n ≡ Some (at_line p w) → p < page_lines * s.frames

-- the store x stands for the flat memory m
pub record Sim (s : Shape) (home : ℕ → Option Home) (x : Store) (m : List ℕ) : Type 0 where
  pub ways_pos : 0 < s.ways
  pub sets_pos : 0 < s.lines / s.ways
  pub record_count : length x.records ≡ 2 * s.lines
  pub cache_count : length x.cache ≡ 16 * s.lines
  pub memory_count : length x.memory ≡ 4096 * s.frames
  pub flat_count : length m ≡ 4096 * s.frames
  -- no physical line is held twice
  pub once : (i j : ℕ) → holds_at s x.records i ≡ true → holds_at s x.records j ≡ true
      → (line_at x.records i).physical ≡ (line_at x.records j).physical → i ≡ j
  -- a held line is at its name's home, with that permission
  pub maps : (i : ℕ) → holds_at s x.records i ≡ true
      → home (line_at x.records i).name ≡ Some (at_line (line_at x.records i).physical (line_at x.records i).write)
  -- an unchanged line equals memory
  pub clean : (i k : ℕ) → holds_at s x.records i ≡ true → (line_at x.records i).changed ≡ false → k < 16
      → byte x.cache i k ≡ byte x.memory (line_at x.records i).physical k
  -- the flat memory: a held line's bytes are the cache's, the others memory's
  pub cached : (i k : ℕ) → holds_at s x.records i ≡ true → k < 16 → byte m (line_at x.records i).physical k ≡ byte x.cache i k
  pub bare : (p k : ℕ) → ((i : ℕ) → holds_at s x.records i ≡ true → (line_at x.records i).physical ≡ p → ⊥) → p < page_lines * s.frames → k < 16
      → byte m p k ≡ byte x.memory p k
