-- 01, "The board" and "Calls": writing a line back, filling it, dropping it, loading from it and storing to it; and where its bytes stand now.
use Rattle.std.specs.Prelude.{ℕ, ◌+◌, ◌*◌, Bool, ◌&&◌, cond, List, Option, Some, None}
use Rattle.address.specs.Layout.{line_bytes}
use Rattle.board.specs.declared.Shape.{Shape}
use Rattle.line_bytes.specs.Bytes.{number, stored, line_of, with_line}
use Rattle.lines.specs.Records.{line_at, put_line, no_line, new_line, changed_line}
use Rattle.lines.specs.declared.Line.{Line}
use Rattle.stores.specs.declared.Access.{Access}
use Rattle.lines.specs.Holds.{holds_at, keeper_of}

-- the cache and memory: the records, the cache bytes and the memory bytes
pub record Store : Type 0 where
  pub records : List ℕ
  pub cache : List ℕ
  pub memory : List ℕ

abbrev pub store : List ℕ → List ℕ → List ℕ → Store
store r c m = record { records = r; cache = c; memory = m }

-- the line of record i must be written back before another takes the record: it is held and changed
abbrev pub must_write_back : Shape → List ℕ → ℕ → Bool
must_write_back s records i = holds_at s records i && (line_at records i).changed

-- the line of record i to its own physical line, if it must be
unfoldable pub written_back : Shape → ℕ → Store → Store
written_back s i b =
    cond (must_write_back s b.records i)
    (store b.records b.cache (with_line b.memory (line_at b.records i).physical (line_of b.cache i)))
    b

-- the line of record i filled from a physical line
unfoldable pub filled : ℕ → ℕ → Store → Store
filled i line b = store b.records (with_line b.cache i (line_of b.memory line)) b.memory

-- record i set
unfoldable pub noted : ℕ → Line → Store → Store
noted i l b = store (put_line b.records i l) b.cache b.memory

-- a miss: the old line at record i written back if it must be, the new one filled and noted
unfoldable pub inserted : Shape → ℕ → ℕ → ℕ → Bool → Store → Store
inserted s i name line write b = noted i (new_line name line write) (filled i line (written_back s i b))

-- to drop a line: its record not valid and all its fields 0
unfoldable pub dropped : ℕ → Store → Store
dropped i b = noted i no_line b

-- what a load or a store gives, and the records and cache bytes it leaves
pub record Performed : Type 0 where
  pub value : ℕ
  pub records : List ℕ
  pub cache : List ℕ

abbrev pub performed : ℕ → List ℕ → List ℕ → Performed
performed v r c = record { value = v; records = r; cache = c }

-- a load or a store at an offset of record i's line: a store changes the cached line only and marks it changed
unfoldable pub performed_at : ℕ → ℕ → Access → List ℕ → List ℕ → Performed
performed_at i offset a records cache =
    cond a.store
    (performed 0 (put_line records i (changed_line (line_at records i))) (stored cache (line_bytes * i + offset) a.width a.value))
    (performed (number cache (line_bytes * i + offset) a.width) records cache)

unfoldable pub current_by : List ℕ → List ℕ → ℕ → Option ℕ → List ℕ
current_by cache memory line (Some i) = line_of cache i
current_by cache memory line None = line_of memory line

-- the current sixteen bytes of a physical line: in the lowest record holding it, else in memory
unfoldable pub current : Shape → Store → ℕ → List ℕ
current s b line = current_by b.cache b.memory line (keeper_of s b.records line)
