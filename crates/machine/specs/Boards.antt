-- 01, "The board": what a call reads and changes, and what it gives.
use Rattle.std.specs.Prelude.{ℕ, ◌*◌, ◌<◌, ◌≡◌, Bool, true, false, List, [], length, get_or, replicate}
use Rattle.address.specs.Layout.{process_slots}
use Rattle.board.specs.Shapes.{fits_shape, record_words, matrices_of}
use Rattle.board.specs.Answers.{answer, mark_no_access}
use Rattle.board.specs.declared.Shape.{Shape}
use Rattle.board.specs.declared.Pending.{Pending}
use Rattle.board.specs.declared.Answer.{Answer}
use Rattle.sets.specs.Matrices.{fresh_matrix}
use Rattle.lines.specs.Records.{line_at}
use Rattle.lines.specs.Victims.{Uses, matrix_of}
use Rattle.stores.specs.Stores.{Store, store}

-- the slot words of all processes, the frame words, the store (records, cache bytes, memory), the matrices of the sets (CR 4) and the pending tag
pub record Board : Type 0 where
  pub slots : List ℕ
  pub words : List ℕ
  pub store : Store
  pub uses : Uses
  pub tag : Pending

-- of both editions: 01's has no matrices
abbrev pub sets_board : List ℕ → List ℕ → List ℕ → List ℕ → List ℕ → Uses → Pending → Board
sets_board slots words records cache memory uses tag = record { slots = slots; words = words; store = store records cache memory; uses = uses; tag = tag }

-- 01's: it has no matrices
abbrev pub board : List ℕ → List ℕ → List ℕ → List ℕ → List ℕ → Pending → Board
board slots words records cache memory tag = sets_board slots words records cache memory [] tag

-- the numbers F, U, P and L and the lengths of the buffers agree and are within limits
abbrev pub fits_board : Shape → Board → Bool
fits_board s b =
    fits_shape s (length b.slots) (length b.words) (length b.store.records) (length b.store.cache) (length b.store.memory) (length b.uses)

-- nothing pending, and a pending name
abbrev pub no_tag : Pending
no_tag = record { set = false; name = 0 }

abbrev pub tagged : ℕ → Pending
tagged name = record { set = true; name = name }

-- fresh: slots and frame words 0, records not valid, every matrix 0, nothing pending, memory (and cache) any bytes
pub record Fresh (b : Board) : Type 0 where
  pub no_slot : (i : ℕ) → get_or b.slots i 0 ≡ 0
  pub no_word : (frame : ℕ) → get_or b.words frame 0 ≡ 0
  pub no_line : (i : ℕ) → (line_at b.store.records i).valid ≡ false
  pub no_use : (place : ℕ) → place < length b.uses → matrix_of b.uses place ≡ fresh_matrix
  pub no_tag : b.tag.set ≡ false

-- a fresh board of a shape, all zeros but the bytes
abbrev pub fresh : Shape → List ℕ → List ℕ → Board
fresh s cache memory =
    sets_board (replicate (s.processes * process_slots) 0) (replicate s.frames 0) (replicate (record_words * s.lines) 0) cache memory
    (replicate (matrices_of s) fresh_matrix) no_tag

-- what a call gives: the answer and the board after
pub record Outcome : Type 0 where
  pub answer : Answer
  pub after : Board

abbrev pub outcome : Answer → Board → Outcome
outcome a b = record { answer = a; after = b }

-- a refusal: value 0, mark 0, nothing changed
abbrev pub refused : Board → ℕ → Outcome
refused b n = outcome (answer n 0 mark_no_access) b

-- done, by a call that is no access
abbrev pub done : Board → Outcome
done b = outcome (answer 0 0 mark_no_access) b

-- the board with other slots, another tag, another store, or another store and other matrices
abbrev pub with_slots : Board → List ℕ → Board
with_slots b slots = record { slots = slots; words = b.words; store = b.store; uses = b.uses; tag = b.tag }

abbrev pub with_tag : Board → Pending → Board
with_tag b tag = record { slots = b.slots; words = b.words; store = b.store; uses = b.uses; tag = tag }

abbrev pub with_store : Board → Store → Board
with_store b x = record { slots = b.slots; words = b.words; store = x; uses = b.uses; tag = b.tag }

abbrev pub with_use : Board → Store → Uses → Board
with_use b x uses = record { slots = b.slots; words = b.words; store = x; uses = uses; tag = b.tag }

-- the frame words and the store, which map, unmap, protect and move change together
pub record Pages : Type 0 where
  pub words : List ℕ
  pub store : Store

abbrev pub pages : List ℕ → List ℕ → List ℕ → List ℕ → Pages
pages words records cache memory = record { words = words; store = store records cache memory }

abbrev pub pages_of : Board → Pages
pages_of b = record { words = b.words; store = b.store }

abbrev pub with_pages : Board → Pages → Board
with_pages b p = record { slots = b.slots; words = p.words; store = p.store; uses = b.uses; tag = b.tag }
