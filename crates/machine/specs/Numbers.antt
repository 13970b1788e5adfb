-- 01, "Numbers to check": P1 to P12 as one list, each asked of the definitions, and CR 5's two pages among them.
use Rattle.std.specs.Prelude.{ℕ, Bool, true, false, ◌&&◌, ◌≡◌, List, [], ◌∷◌, ◌++◌, replicate, eqb}
use Rattle.address.specs.Addresses.{effective, global, slot_of, page_of, region_of}
use Rattle.address.specs.Entries.{asked_entry, entry_number, entry_value}
use Rattle.address.specs.declared.Global.{Global}
use Rattle.address.specs.declared.Region.{Region}
use Rattle.address.specs.declared.Region.TheVariants.{Uncached, Cached, PageTable, Ordinary}
use Rattle.slots.specs.Slots.{slot_word}
use Rattle.pages.specs.Pages.{frame_word}
use Rattle.board.specs.declared.Shape.{Shape}
use Rattle.stores.specs.declared.Access.{Access}
use Rattle.machine.specs.Boards.{Board, board, no_tag, fresh, Outcome}
use Rattle.machine.specs.Accesses.{user_global, user_access}
use Rattle.machine.specs.Calls.{attach}

-- one frame, one process, one line
abbrev small : Shape
small = record { frames = 1; uncached = 0; processes = 1; lines = 1; ways = 1 }

abbrev small_fresh : Board
small_fresh = fresh small (replicate 16 0) (replicate 4096 0)

-- the last slot holds segment 2048, and its last page is mapped to the frame
abbrev small_mapped : Board
small_mapped =
    board (replicate 511 0 ++ (slot_word 2048 true ∷ [])) (frame_word 0x2003FF true ∷ []) (replicate 2 0) (replicate 16 0) (replicate 4096 0) no_tag

abbrev load_byte : Access
load_byte = record { store = false; width = 1; value = 0 }

-- the global address of effective 0x00401234 where slot 1 holds segment 0x12345
abbrev p1 : Global
p1 = user_global (0 ∷ slot_word 0x12345 true ∷ []) 0 (effective 0x00401234)

abbrev number : Outcome → ℕ
number o = o.answer.number

abbrev attaching : ℕ → ℕ
attaching segment = number (attach small small_fresh 0 0 segment true)

abbrev loading : ℕ → ℕ
loading address = number (user_access small small_mapped 0 load_byte (effective address))

abbrev region_number : Region → ℕ
region_number Uncached = 0
region_number Cached = 1
region_number PageTable = 2
region_number Ordinary = 3

abbrev reaching : ℕ → ℕ
reaching g = region_number (region_of (global g))

-- asking for the entry of a page gives this number and this value
abbrev entry_gives : ℕ → ℕ → ℕ → Bool
entry_gives page number value = eqb (entry_number (asked_entry page)) number && eqb (entry_value (asked_entry page)) value

unfoldable pub numbers_to_check : List Bool
numbers_to_check =
    -- P1 slot 1 holds 0x12345; effective 0x00401234 gives global 0x048D1401234, page 0x048D1401
    (eqb (slot_of (effective 0x00401234)) 1 && (eqb p1.0 0x048D1401234 && eqb (page_of p1) 0x048D1401))
    -- P2 that page's entry, P3 the entry of that entry's page, P4 the last page's entry
    ∷ entry_gives 0x048D1401 0 0xFFC12345004
    ∷ entry_gives (page_of (global (entry_value (asked_entry 0x048D1401)))) 0 0xFFFFF048D14
    ∷ entry_gives 0xFFFFFFFF 0 0xFFFFFFFFFFC
    -- CR 5: the last page below 0x200000 is refused by 2, and 0x200000 has an entry
    ∷ entry_gives 0x1FFFFF 2 0
    ∷ entry_gives 0x200000 0 0xFFC00800000
    -- P5 uncached, P6 cached, P7 and P8 ordinary, P9 page table
    ∷ eqb (reaching 0x000FFFFFFFF) (region_number Uncached)
    ∷ eqb (reaching 0x00100000000) (region_number Cached)
    ∷ eqb (reaching 0x00200000000) (region_number Ordinary)
    ∷ eqb (reaching 0xFFBFFFFFFFF) (region_number Ordinary)
    ∷ eqb (reaching 0xFFC00000000) (region_number PageTable)
    -- P10 segment 2047 refused, 2048 taken; P11 4,190,207 taken, 4,190,208 refused
    ∷ (eqb (attaching 2047) 2 && eqb (attaching 2048) 0)
    ∷ (eqb (attaching 4190207) 0 && eqb (attaching 4190208) 2)
    -- P12 user address 0x7FFFFFFF may be taken at width 1; 0x80000000 is 5
    ∷ (eqb (loading 0x7FFFFFFF) 0 && eqb (loading 0x80000000) 5)
    ∷ []

unfoldable pub all : List Bool → Bool
all [] = true
all (t ∷ ts) = t && all ts

-- the single claim over the list
abbrev pub NumbersHold : Type 0
NumbersHold = all numbers_to_check ≡ true
