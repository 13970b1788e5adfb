-- 01, "Calls": look (physical line). It changes nothing.
use Rattle.std.specs.Prelude.{ℕ, ◌+◌, ◌*◌, not, List, [], ◌∷◌, Option, Some, None}
use Rattle.address.specs.Layout.{line_bytes}
use Rattle.board.specs.declared.Shape.{Shape}
use Rattle.lines.specs.Holds.{keeper_of}
use Rattle.stores.specs.Stores.{current}
use Rattle.machine.specs.Boards.{Board}
use Rattle.machine.specs.Refusals.{Row, row, by_table, lowest, row1, is_physical_line}

abbrev pub look_table : Shape → Board → ℕ → List Row
look_table s b line = row1 s b ∷ row 2 (not (is_physical_line s line)) ∷ []

-- the number: a separate question with the same inputs
unfoldable pub look_number : Shape → Board → ℕ → ℕ
look_number s b line = lowest (look_table s b line)

-- the line's current sixteen bytes; refused, an empty part
unfoldable pub look : Shape → Board → ℕ → List ℕ
look s b line = by_table (λ n. []) (look_table s b line) (current s b.store line)

-- where a buffer, or a part of one, begins in the machine's memory: a block of it and an offset
abbrev pub Start : Type 0
Start = ℕ × ℕ

-- where a line of a buffer begins
abbrev pub line_start : Start → ℕ → Start
line_start start line = (start.0, start.1 + line_bytes * line)

-- where a line's current bytes begin, by where the cache bytes and memory begin
unfoldable pub start_by : Start → Start → ℕ → Option ℕ → Start
start_by cache memory line (Some i) = line_start cache i
start_by cache memory line None = line_start memory line

-- where the part begins that look gives: it is a part of the cache bytes or of memory itself; refused, it is empty and begins with the cache bytes
unfoldable pub look_start : Shape → Board → ℕ → Start → Start → Start
look_start s b line cache memory = by_table (λ n. cache) (look_table s b line) (start_by cache memory line (keeper_of s b.store.records line))
