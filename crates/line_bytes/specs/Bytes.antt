-- Bytes: numbers in them, and lines of sixteen.
use Rattle.std.specs.Prelude.{ℕ, zero, suc, ◌+◌, ◌*◌, ◌/◌, ◌%◌, ◌^◌, List, [], ◌∷◌, get_or, replicate}
use Rattle.address.specs.Layout.{line_bytes, page_bytes}
use Rattle.board.specs.Lists.{part, splice}

-- the number in the `width` bytes from `at` on, the most significant byte first
unfoldable pub number : List ℕ → ℕ → ℕ → ℕ
number bytes at zero = 0
number bytes at (suc n) = number bytes at n * 256 + get_or bytes (at + n) 0

-- the bytes of a value below 256^width, `width` of them, the most significant first (any other value has been refused by row 2)
unfoldable pub digits : ℕ → ℕ → List ℕ
digits zero value = []
digits (suc n) value = value / 256 ^ n % 256 ∷ digits n value

-- bytes with the `width` bytes of a value put from `at` on
unfoldable pub stored : List ℕ → ℕ → ℕ → ℕ → List ℕ
stored bytes at width value = splice bytes at (digits width value)

-- the sixteen bytes of line i
unfoldable pub line_of : List ℕ → ℕ → List ℕ
line_of bytes i = part bytes (line_bytes * i) line_bytes

-- bytes with these sixteen as line i
unfoldable pub with_line : List ℕ → ℕ → List ℕ → List ℕ
with_line bytes i line = splice bytes (line_bytes * i) line

-- zeros, and memory with a frame filled with them
unfoldable pub zeros : ℕ → List ℕ
zeros n = replicate n 0

unfoldable pub zeroed_frame : List ℕ → ℕ → List ℕ
zeroed_frame memory frame = splice memory (page_bytes * frame) (zeros page_bytes)
