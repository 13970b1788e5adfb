-- The plain machine: segment slots, a page map, a pending tag and flat memory, and no cache.
-- Slot words, frame words, the tag, numbers in bytes, the tests of single rows and, for map, unmap, protect, move and load-and-map, the rows after number 1
-- are the board's own definitions.
-- What an access asks and does, and what map, unmap, protect, move, flush all and load-and-map leave, is written here from the text of 01, CR 2 and CR 9.
use Rattle.std.specs.Prelude.{ℕ, Bool, not, ◌&&◌, ◌||◌, cond, List, [], ◌∷◌, length, get_or, set}
use Rattle.address.specs.Addresses.{physical, slot_of, global_of, page_of, region_of, physical_of, in_frame, is_kernels, attachable}
use Rattle.address.specs.declared.Effective.{Effective}
use Rattle.address.specs.declared.Global.{Global}
use Rattle.address.specs.declared.Physical.{Physical}
use Rattle.address.specs.declared.Region.{Region}
use Rattle.address.specs.declared.Region.TheVariants.{Uncached, Cached, PageTable, Ordinary}
use Rattle.board.specs.Shapes.{fits_shape}
use Rattle.slots.specs.Slots.{slot_index, slot_word, slot_segment, slot_empty, slot_writes}
use Rattle.pages.specs.Pages.{frame_word, word_writes, mapped_to}
use Rattle.board.specs.declared.Shape.{Shape}
use Rattle.board.specs.declared.Pending.{Pending}
use Rattle.line_bytes.specs.Bytes.{number, stored, line_of, zeroed_frame}
use Rattle.stores.specs.declared.Access.{Access}
use Rattle.machine.specs.Boards.{no_tag, tagged}
use Rattle.machine.specs.Refusals.{Row, row, by_table, lowest, is_process, is_slot, is_physical_line, is_name, is_global, too_large, is_ordinary, is_cached, is_mapped, word_in_use, aligned_to, outside}
use Rattle.machine.specs.Accesses.{frame_under}
use Rattle.machine.specs.Calls.{found_frame, map_rows, page_rows, move_rows, load_rows}

-- the three lengths are of the buffers that the board has besides (records, cache bytes, matrices): number 1 asks for them
pub record Plain : Type 0 where
  pub slots : List ℕ
  pub words : List ℕ
  pub tag : Pending
  pub memory : List ℕ
  pub records_length : ℕ
  pub cache_length : ℕ
  pub uses_length : ℕ

-- number 1, of the same numbers and lengths as the board
abbrev pub plain_row1 : Shape → Plain → Row
plain_row1 s p = row 1 (not (fits_shape s (length p.slots) (length p.words) p.records_length p.cache_length (length p.memory) p.uses_length))

-- what a call gives: a number, a value and the machine after
pub record Given : Type 0 where
  pub number : ℕ
  pub value : ℕ
  pub after : Plain

abbrev pub given : ℕ → ℕ → Plain → Given
given n v p = record { number = n; value = v; after = p }

abbrev pub plain_refused : Plain → ℕ → Given
plain_refused p n = given n 0 p

abbrev pub plain_done : Plain → Given
plain_done p = given 0 0 p

-- the machine with another memory, other slots, another tag, or other words and another memory
abbrev pub with_memory : Plain → List ℕ → Plain
with_memory p m = record { slots = p.slots; words = p.words; tag = p.tag; memory = m; records_length = p.records_length; cache_length = p.cache_length; uses_length = p.uses_length }

abbrev pub plain_slots : Plain → List ℕ → Plain
plain_slots p slots = record { slots = slots; words = p.words; tag = p.tag; memory = p.memory; records_length = p.records_length; cache_length = p.cache_length; uses_length = p.uses_length }

abbrev pub plain_tag : Plain → Pending → Plain
plain_tag p t = record { slots = p.slots; words = p.words; tag = t; memory = p.memory; records_length = p.records_length; cache_length = p.cache_length; uses_length = p.uses_length }

abbrev pub plain_words : Plain → List ℕ → List ℕ → Plain
plain_words p words m = record { slots = p.slots; words = words; tag = p.tag; memory = m; records_length = p.records_length; cache_length = p.cache_length; uses_length = p.uses_length }

-- ---- accesses: a load or a store of flat memory

unfoldable pub plain_access : Plain → Physical → Access → Given
plain_access p at a =
    cond a.store
    (given 0 0 (with_memory p (stored p.memory at.0 a.width a.value)))
    (given 0 (number p.memory at.0 a.width) p)

-- the frame that an ordinary address's page is mapped to, and the physical address
abbrev pub address_frame : Shape → Plain → Global → ℕ
address_frame s p g = found_frame (mapped_to s p.words (page_of g))

abbrev pub address_at : Shape → Plain → Global → Physical
address_at s p g = in_frame (address_frame s p g) g

abbrev pub address_mapped : Shape → Plain → Global → Bool
address_mapped s p g = is_mapped (mapped_to s p.words (page_of g))

-- the slot word that an effective address goes through, and the global address
abbrev pub plain_slot_word : Plain → ℕ → Effective → ℕ
plain_slot_word p process e = get_or p.slots (slot_index process (slot_of e)) 0

abbrev pub plain_global : Plain → ℕ → Effective → Global
plain_global p process e = global_of (slot_segment (plain_slot_word p process e)) e

-- may a user store there: by the page's frame word
abbrev pub address_writes : Shape → Plain → Global → Bool
address_writes s p g = word_writes (get_or p.words (address_frame s p g) 0)

unfoldable pub plain_user : Shape → Plain → ℕ → Access → Effective → Given
plain_user s p process a e =
    by_table (plain_refused p)
    (plain_row1 s p
    ∷ row 2 (not (is_process s process) || too_large a)
    ∷ row 3 p.tag.set
    ∷ row 4 (not (aligned_to a.width e.0))
    ∷ row 5 (is_kernels e)
    ∷ row 6 (slot_empty (plain_slot_word p process e))
    ∷ row 7 (a.store && not (slot_writes (plain_slot_word p process e)))
    ∷ row 8 (not (address_mapped s p (plain_global p process e)))
    ∷ row 9 (a.store && not (address_writes s p (plain_global p process e)))
    ∷ [])
    (plain_access p (address_at s p (plain_global p process e)) a)

-- the physical address of a supervisor's address (the page table region has been refused by row 12)
unfoldable pub supervisor_at : Shape → Plain → Global → Region → Physical
supervisor_at s p g Uncached = physical_of g
supervisor_at s p g Cached = physical_of g
supervisor_at s p g PageTable = physical 0
supervisor_at s p g Ordinary = address_at s p g

unfoldable pub plain_supervisor : Shape → Plain → Access → Global → Given
plain_supervisor s p a g =
    by_table (plain_refused p)
    (plain_row1 s p ∷ row 2 (not (is_global g) || too_large a) ∷ row 3 (is_ordinary (region_of g) && p.tag.set) ∷ row 4 (not (aligned_to a.width g.0))
    ∷ row 8 (is_ordinary (region_of g) && not (address_mapped s p g))
    ∷ row 10 (is_cached (region_of g) && word_in_use p.words (frame_under g))
    ∷ row 12 (outside s (frame_under g) (region_of g)) ∷ [])
    (plain_access p (supervisor_at s p g (region_of g)) a)

-- ---- the supervisor's other calls

unfoldable pub plain_attach : Shape → Plain → ℕ → ℕ → ℕ → Bool → Given
plain_attach s p process slot segment write =
    by_table (plain_refused p)
    (plain_row1 s p ∷ row 2 (not (is_process s process && (is_slot slot && attachable segment))) ∷ [])
    (plain_done (plain_slots p (set p.slots (slot_index process slot) (slot_word segment write))))

unfoldable pub plain_detach : Shape → Plain → ℕ → ℕ → Given
plain_detach s p process slot =
    by_table (plain_refused p)
    (plain_row1 s p ∷ row 2 (not (is_process s process && is_slot slot)) ∷ [])
    (plain_done (plain_slots p (set p.slots (slot_index process slot) 0)))

-- map fills the frame with zeros and sets its word
unfoldable pub plain_map : Shape → Plain → ℕ → ℕ → Bool → Given
plain_map s p page frame write =
    by_table (plain_refused p) (plain_row1 s p ∷ map_rows s p.words page frame)
    (plain_done (plain_words p (set p.words frame (frame_word page write)) (zeroed_frame p.memory frame)))

-- unmap sets the word to 0; the frame's bytes stay
unfoldable pub plain_unmap : Shape → Plain → ℕ → Given
plain_unmap s p page =
    by_table (plain_refused p) (plain_row1 s p ∷ page_rows s p.words page)
    (plain_done (plain_words p (set p.words (found_frame (mapped_to s p.words page)) 0) p.memory))

-- protect changes the word
unfoldable pub plain_protect : Shape → Plain → ℕ → Bool → Given
plain_protect s p page write =
    by_table (plain_refused p) (plain_row1 s p ∷ page_rows s p.words page)
    (plain_done (plain_words p (set p.words (found_frame (mapped_to s p.words page)) (frame_word page write)) p.memory))

-- move gives the old page's frame to the new page, with the same write bit; the frame's bytes stay (CR 9)
unfoldable pub plain_move : Shape → Plain → ℕ → ℕ → Given
plain_move s p page new =
    by_table (plain_refused p) (plain_row1 s p ∷ move_rows s p.words page new)
    (plain_done (plain_words p
    (set p.words (found_frame (mapped_to s p.words page)) (frame_word new (word_writes (get_or p.words (found_frame (mapped_to s p.words page)) 0))))
    p.memory))

-- flush all changes nothing: there is no cache
unfoldable pub plain_flush : Shape → Plain → Given
plain_flush s p = by_table (plain_refused p) (plain_row1 s p ∷ []) (plain_done p)

unfoldable pub plain_tagging : Shape → Plain → ℕ → Given
plain_tagging s p name =
    by_table (plain_refused p) (plain_row1 s p ∷ row 2 (not (is_name name)) ∷ row 3 p.tag.set ∷ []) (plain_done (plain_tag p (tagged name)))

-- load-and-map only clears the tag
unfoldable pub plain_load_and_map : Shape → Plain → ℕ → Given
plain_load_and_map s p line =
    by_table (plain_refused p) (plain_row1 s p ∷ load_rows s p.words p.tag line) (plain_done (plain_tag p no_tag))

unfoldable pub plain_drop_tag : Shape → Plain → Given
plain_drop_tag s p = by_table (plain_refused p) (plain_row1 s p ∷ row 3 (not p.tag.set) ∷ []) (plain_done (plain_tag p no_tag))

-- look: the line's bytes in flat memory; refused by 1 or 2, an empty part; and its number
abbrev pub plain_look_table : Shape → Plain → ℕ → List Row
plain_look_table s p line = plain_row1 s p ∷ row 2 (not (is_physical_line s line)) ∷ []

unfoldable pub plain_look : Shape → Plain → ℕ → List ℕ
plain_look s p line = by_table (λ n. []) (plain_look_table s p line) (line_of p.memory line)

unfoldable pub plain_look_number : Shape → Plain → ℕ → ℕ
plain_look_number s p line = lowest (plain_look_table s p line)
