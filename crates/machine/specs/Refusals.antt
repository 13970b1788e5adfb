-- 01, "Refusal numbers": what each row asks, in the table's order. A call's table is a list of rows, by rising number.
use Rattle.std.specs.Prelude.{ℕ, ◌*◌, ◌%◌, ◌^◌, Bool, true, false, not, ◌&&◌, ◌||◌, cond, List, [], ◌∷◌, get_or, eqb, leb, ltb, Option, Some, None, Result, Ok, Err}
use Rattle.address.specs.Layout.{page_lines, process_slots, global_end}
use Rattle.address.specs.Addresses.{ordinary_page, page_of_name}
use Rattle.address.specs.Entries.{has_entry}
use Rattle.address.specs.declared.Global.{Global}
use Rattle.address.specs.declared.Region.{Region}
use Rattle.address.specs.declared.Region.TheVariants.{Uncached, Cached, PageTable, Ordinary}
use Rattle.slots.specs.Slots.{slot_empty, slot_writes}
use Rattle.board.specs.Refusals.{refusal_of}
use Rattle.board.specs.declared.Refusal.{Refusal}
use Rattle.board.specs.declared.Shape.{Shape}
use Rattle.reach.specs.Reach.{unreached, may_write}
use Rattle.stores.specs.declared.Access.{Access}
use Rattle.reach.specs.declared.Way.{Way}
use Rattle.machine.specs.Boards.{Board, fits_board}

-- a row of a table: a number, and whether it applies
pub record Row : Type 0 where
  pub number : ℕ
  pub applies : Bool

abbrev pub row : ℕ → Bool → Row
row n t = record { number = n; applies = t }

-- the first row that applies refuses; if none does, the call is done. Tables rise (`Rising.antt`), so the first is the lowest.
unfoldable pub by_table : {A : Type 0} → (ℕ → A) → List Row → A → A
by_table refuse [] done = done
by_table refuse (r ∷ rows) done = cond r.applies (refuse r.number) (by_table refuse rows done)

-- the number that a table gives: the lowest row that applies, 0 if none does
abbrev pub lowest : List Row → ℕ
lowest rows = by_table (λ n. n) rows 0

-- what the code of a call decides by a table before it changes anything: the refusal of the lowest row that applies, or what it goes on with
abbrev pub checked : {A : Type 0} → List Row → A → Result A Refusal
checked rows go = by_table (λ n. Err (refusal_of n)) rows (Ok go)

-- 1: buffer lengths or F, U, P, L disagree or are out of limits
abbrev pub row1 : Shape → Board → Row
row1 s b = row 1 (not (fits_board s b))

-- 2: process, slot, segment, frame (below U or from F up), physical line, line name or page outside its range; global address from 2^44 up;
-- value of a store 256^width or more.
-- These are the ranges; `attachable` and `ordinary_page` are those of segments and pages, `has_entry` that of pages whose entry is asked.
abbrev pub is_process : Shape → ℕ → Bool
is_process s process = ltb process s.processes

abbrev pub is_slot : ℕ → Bool
is_slot slot = ltb slot process_slots

abbrev pub is_frame : Shape → ℕ → Bool
is_frame s frame = leb s.uncached frame && ltb frame s.frames

abbrev pub is_physical_line : Shape → ℕ → Bool
is_physical_line s line = ltb line (page_lines * s.frames)

abbrev pub is_name : ℕ → Bool
is_name name = ordinary_page (page_of_name name)

abbrev pub is_global : Global → Bool
is_global g = ltb g.0 global_end

-- the widths that an access may have
abbrev pub is_width : ℕ → Bool
is_width width = eqb width 1 || (eqb width 2 || eqb width 4)

-- a store whose value is 256^width or more. For a bad width this isn't asked (4 stands), and of a load never
unfoldable pub too_large : Access → Bool
too_large a = a.store && (is_width a.width && leb (256 ^ a.width) a.value)

-- 3 asks whether a tag is pending: `tag.set`. Of supervisor accesses only those to an ordinary address are asked
unfoldable pub is_ordinary : Region → Bool
is_ordinary Uncached = false
is_ordinary Cached = false
is_ordinary PageTable = false
is_ordinary Ordinary = true

-- 4: width not 1, 2 or 4, or address no multiple of it
unfoldable pub aligned_to : ℕ → ℕ → Bool
aligned_to width at = is_width width && eqb (at % width) 0

-- 5: user address from 2^31 up: `is_kernels`

-- 6 and 7: slot empty; store, segment attached read-only
abbrev pub slot_rows : ℕ → Access → List Row
slot_rows word a = row 6 (slot_empty word) ∷ row 7 (a.store && not (slot_writes word)) ∷ []

-- 8: page not mapped: an access whose line isn't held (`unreached`), or a page that is mapped to no frame
unfoldable pub is_mapped : Option ℕ → Bool
is_mapped (Some frame) = true
is_mapped None = false

-- 9: user store, page read-only (from the record if the line is held, else from the frame word)
abbrev pub line_rows : Access → Option Way → List Row
line_rows a way = row 8 (unreached way) ∷ row 9 (a.store && not (may_write way)) ∷ []

-- 10: map, or prefix 1 access: the frame's word is not 0
abbrev pub word_in_use : List ℕ → ℕ → Bool
word_in_use words frame = not (eqb (get_or words frame 0) 0)

unfoldable pub is_cached : Region → Bool
is_cached Uncached = false
is_cached Cached = true
is_cached PageTable = false
is_cached Ordinary = false

-- 11: map: page mapped already; move: new page mapped: `is_mapped`

-- 12: page table region, beyond memory, prefix 0 from U up, prefix 1 below U
unfoldable pub outside : Shape → ℕ → Region → Bool
outside s frame Uncached = leb s.uncached frame
outside s frame Cached = leb s.frames frame || ltb frame s.uncached
outside s frame PageTable = true
outside s frame Ordinary = false

-- 13: load-and-map: not the physical line to which the tag is mapped: with that call

-- Asking for the entry of a page asks no board, so never 1: its whole table (`asked_entry` says what is given)
abbrev pub entry_table : ℕ → List Row
entry_table page = row 2 (not (has_entry page)) ∷ []
