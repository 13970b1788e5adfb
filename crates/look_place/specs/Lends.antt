-- Look for C and Rust: where the line's current bytes stand in the caller's own buffers.
use Rattle.std.specs.Prelude.{ℕ, ◌+◌, ◌*◌, ◌-◌, ◌^◌, ◌≡◌, cond, List, length, ltb, Option, Some, None}
use Rattle.address.specs.Layout.{line_bytes}
use Rattle.board.specs.Lists.{part}
use Rattle.board.specs.declared.Shape.{Shape}
use Rattle.lines.specs.Holds.{keeper_of}
use Rattle.machine.specs.Boards.{Board}
use Rattle.machine.specs.Refusals.{by_table}
use Rattle.machine.specs.Looks.{look_table, look_number, look}

-- what is added to an offset in memory, and what a refused look gives
abbrev pub in_memory : ℕ
in_memory = 2 ^ 63

abbrev pub nowhere : ℕ
nowhere = 2 ^ 64 - 1

-- where a line's current bytes stand: 16 × record in the cache bytes, or 2^63 + 16 × line in memory
unfoldable pub place_by : ℕ → Option ℕ → ℕ
place_by line (Some i) = line_bytes * i
place_by line None = in_memory + line_bytes * line

unfoldable pub look_place : Shape → Board → ℕ → ℕ
look_place s b line = by_table (λ n. nowhere) (look_table s b line) (place_by line (keeper_of s b.store.records line))

-- the contract of look for C and Rust
abbrev pub LookPlace : Shape → Board → ℕ → ℕ → Type 0
LookPlace s b line place = place ≡ look_place s b line

-- the sixteen bytes at such a place
unfoldable pub bytes_at : Board → ℕ → List ℕ
bytes_at b place = cond (ltb place in_memory) (part b.store.cache place line_bytes) (part b.store.memory (place - in_memory) line_bytes)

-- where look is not refused, the bytes at the place are those that look gives, and all sixteen stand in the buffer
pub record PlaceIsLook : Type 0 where
  pub bytes : (s : Shape) (b : Board) (line : ℕ) → look_number s b line ≡ 0 → bytes_at b (look_place s b line) ≡ look s b line
  pub inside : (s : Shape) (b : Board) (line : ℕ) → look_number s b line ≡ 0 → length (bytes_at b (look_place s b line)) ≡ line_bytes
  -- no second place meets the contract
  pub no_second_place : (s : Shape) (b : Board) (line x y : ℕ) → LookPlace s b line x → LookPlace s b line y → x ≡ y
